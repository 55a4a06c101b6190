use Rattle.std.proofs.Common.{◌≡◌, ◌∙◌, ℕ, false, Option, Some, None, option_map, map, refl, sym, ap}
use Rattle.desk_rules.specs.declared.rules.entry_fact.EntryState.{EntryState}
use Rattle.desk_book.specs.OnIntake.{is_returned_in, is_returned_state}
use Rattle.desk_book.specs.Standing.{state_at, row_under}
use Rattle.desk_book.specs.declared.row.Row.{Row}
use Rattle.memory_store.specs.Finds.{rows_for}
use Rattle.memory_store.specs.Kept.{row_in}
use Rattle.memory_store.specs.Placed.{under}
use Rattle.memory_store.specs.declared.place_index.KeyKind.TheVariants as kinds
use Rattle.memory_store.proofs.Placed.{standing, under_all}
use Rattle.memory_store.proofs.traced.is_returned.Goals as goal

-- the state of a row's entry decides whether it is returned
by_state : (index : ℕ) (row : Option Row) (s : EntryState) → option_map (λ r. state_at r index) row ≡ Some s → is_returned_in row index ≡ is_returned_state s
by_state index None s is = cc
by_state index (Some row) s is = ap is_returned_state (let e = is in cc)

without_state : (index : ℕ) (row : Option Row) → option_map (λ r. state_at r index) row ≡ None → is_returned_in row index ≡ false
without_state index None is = refl
without_state index (Some row) is = cc

pub returns-in-Some : goal.returns-in-Some
returns-in-Some c finds =
    let e = c.args.entry.now in
    let kept = c.args.kept.now in
    let places = c.of-places.result.now in
    let stand = standing kinds.Reference c.under.result (under e.company e.reference) (map row_in kept) c.args.references.now places c.under.ensures finds c.of-places.ensures in
    let state = c.state_of.ensures ∙ ap (option_map (λ (row : Row). state_at row e.index)) (c.submission_among-found.ensures ∙ under_all e.reference e.company kept places stand) in
    c.is_returned_state.ensures ∙ sym (by_state e.index (row_under (rows_for kept e.company) e.reference) c.in-Some.state (sym state ∙ c.in-Some.is))

pub returns-in-None : goal.returns-in-None
returns-in-None c finds =
    let e = c.args.entry.now in
    let kept = c.args.kept.now in
    let places = c.of-places.result.now in
    let stand = standing kinds.Reference c.under.result (under e.company e.reference) (map row_in kept) c.args.references.now places c.under.ensures finds c.of-places.ensures in
    let state = c.state_of.ensures ∙ ap (option_map (λ (row : Row). state_at row e.index)) (c.submission_among-found.ensures ∙ under_all e.reference e.company kept places stand) in
    sym (without_state e.index (row_under (rows_for kept e.company) e.reference) (sym state ∙ c.in-None.is))
