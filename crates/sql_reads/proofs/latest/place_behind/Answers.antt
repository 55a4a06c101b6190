use Rattle.std.proofs.Common.{rules, arith, ◌≡◌, ◌∙◌, ◌+◌, ◌-◌, ap, sym, ℕ, suc, ◌∷◌, drop, length}
use Rattle.std.proofs.lemmas.List.{drop_more}
use Rattle.std.specs.List.{range_with_len}
use Rattle.sql_reads.proofs.latest.place_behind.Goals as goal

pub loop-place-preserved : goal.loop-place-preserved
loop-place-preserved c =
    let places = c.args.places.now in
    let at = c.loop-place.place-index in
    let next = c.loop-place.next in
    let later = drop (at + 1) places in
    let split : drop at places ≡ next ∷ later = drop_more places at 0 c.loop-place-test.true ∙ ap (λ (p : ℕ). p ∷ later) (search rules) in
    let one : c.in_ok-next.next ≡ next + 1 = search rules in
    let less : length places - at ≡ suc (length places - (at + 1)) = omega (arith, c.loop-place-test.true) in (
      search rules,
      λ rest. c.loop-place.invariant.1 (split ∙ ap (λ l. next ∷ l) (rest ∙ ap (λ n. range_with_len n (length places - (at + 1))) one) ∙ ap (range_with_len next) (sym less)),
    )
