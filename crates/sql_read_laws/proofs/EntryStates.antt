-- The state of one entry, by its own return.
use Rattle.std.proofs.Common.{◌≡◌, ℕ, ◌+◌, ◌-◌, ◌==◌, List, [], ◌∷◌, filter, find, slice_get, Option, Some, None, option_map, unwrap_or, refl, sym, ap, ◌∙◌, arith}
use Rattle.std.specs.Prelude.{⊤, is_some, if◌then◌else◌}
use Rattle.std.specs.List.{enumerate_from}
use Rattle.std.proofs.lemmas.Bool.{eqb-true}
use Rattle.std.proofs.lemmas.Option.{slice_get-map}
use Rattle.sqlite_keyed.proofs.ListLemmas.{all_of}
use Rattle.desk_rules.specs.declared.bodies.submission.Entry.{Entry}
use Rattle.desk_rules.specs.declared.rules.entry_fact.EntryState.{EntryState}
use Rattle.desk_rules.specs.declared.rules.entry_fact.EntryState.TheVariants as states
use Rattle.desk_book.specs.Standing.{state_at}
use Rattle.desk_store.specs.Rows.{CompanyRow, Rows}
use Rattle.sql_tables.specs.CutTables.{is_entry_row}
use Rattle.sql_tables.specs.Encodes.{Encodes, HasStates, submission_record, entry_record, entry_state, is_return_of, unless_lapsed}
use Rattle.sql_tables.specs.Selected.{head_of, numbered_of}
use Rattle.sql_tables.specs.RowParts.{state_with}
use Rattle.sql_tables.specs.TableReads.{entry_at, return_at}
use Rattle.sql_tables.specs.Tables.{Tables}
use Rattle.sql_tables.specs.declared.records.EntryRecord.{EntryRecord}
use Rattle.sql_tables.specs.declared.row.submissions.SubmissionHead.{SubmissionHead}
use Rattle.sql_tables.proofs.Lists.{found_passes}
use Rattle.sql_read_laws.proofs.OwnParts.{own_entry, numbered_at}
use Rattle.sql_read_laws.proofs.WholeRows.{is_own, same_state}

-- the state of the entry with this number, and held where there is none
abbrev pub state_in : SubmissionHead → (index : ℕ) → Tables → EntryState
state_in head index t =
    if is_some (entry_at head.company head.order index t)
    then unless_lapsed head.lapsed (state_with head.settled (return_at head.company head.order index t))
    else states.Held

module _ (t : Tables) (r : Rows) (e : Encodes t r) where
  module _ (x : CompanyRow) (alone : filter (is_own t r e x) r.submissions ≡ x ∷ []) (has_states : HasStates t.returns x) (index : ℕ) where
    abbrev place : ℕ
    place = index - 1 + 1

    abbrev the_entry : Option (ℕ × Entry)
    the_entry = find (λ p. p.0 == place) (enumerate_from 1 x.row.content.entries)

    by_entry : (o : Option (ℕ × Entry)) → the_entry ≡ o
        → (if is_some (option_map numbered_of (option_map (entry_record r.sent x.company x.row.order) o)) then entry_state t.returns x place else states.Held) ≡ unwrap_or (option_map (λ p. entry_state t.returns x p.0) o) states.Held
    by_entry None is = refl
    by_entry (Some p) is =
        let passes = found_passes (λ _. ⊤) (λ (q : ℕ × Entry). q.0 == place) (enumerate_from 1 x.row.content.entries) p (all_of (λ _. ⊤) (λ _. tt) (enumerate_from 1 x.row.content.entries)) is in
        ap (entry_state t.returns x) (sym (eqb-true p.0 place passes.1))

    pub one_state : state_in (head_of (submission_record r.printed x)) place t ≡ state_at x.row index
    one_state =
        let found : Option EntryRecord → EntryState = λ o. if is_some (option_map numbered_of o) then entry_state t.returns x place else states.Held in
        ap (λ s. if is_some (option_map numbered_of (find (is_entry_row x.company x.row.order place) t.entries)) then s else states.Held) (same_state x.row.lapsed x.row.settled (find (is_return_of x.company x.row.order place) t.returns))
        ∙ ap found (own_entry t r e x alone place)
        ∙ by_entry the_entry refl
        ∙ ap (λ o. unwrap_or (option_map (λ p. entry_state t.returns x p.0) o) states.Held) (ap (λ (k : ℕ). find (λ p. p.0 == k) (enumerate_from 1 x.row.content.entries)) (let at : place ≡ 1 + (index - 1) = omega arith in at) ∙ numbered_at 1 (index - 1) x.row.content.entries)
        ∙ ap (λ o. unwrap_or o states.Held) (sym (slice_get-map (λ p. entry_state t.returns x p.0) (enumerate_from 1 x.row.content.entries) (index - 1)))
        ∙ ap (λ (s : List EntryState). unwrap_or (slice_get s (index - 1)) states.Held) (sym has_states)
