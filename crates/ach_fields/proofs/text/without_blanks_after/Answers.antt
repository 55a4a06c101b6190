use Rattle.std.proofs.Common.{◌≡◌, ◌<◌, ◌≤◌, ◌+◌, ◌-◌, ◌++◌, ◌∷◌, [], ℕ, false, List, length, get_or, take, arith, sym, ap, ◌∙◌}
use Rattle.std.proofs.lemmas.List.{take_more}
use Rattle.std.proofs.lemmas.Bool.{ne_eqb}
use Rattle.ach_fields.specs.Text.{is_blank, without_blanks_after}
use Rattle.ach_fields.proofs.Texts.{without_blanks_after-blanks, without_blanks_after-push}
use Rattle.ach_fields.proofs.text.without_blanks_after.Goals as goal
use Rattle.ach_fields.proofs.text.without_blanks_after.Goals.{then-loop-len-test+else-text-len-eq32, else-loop-len-test}

last_of : (s : List ℕ) (n : ℕ) → 0 < n → n ≤ length s → take n s ≡ take (n - 1) s ++ get_or s (n - 1) 0 ∷ []
last_of s n more within =
    let lt : n - 1 < length s = omega arith in
    let one : n - 1 + 1 ≡ n = omega arith in
    ap (λ k. take k s) (sym one) ∙ take_more s (n - 1) 0 lt

blank_off : (s : List ℕ) (n : ℕ) → 0 < n → n ≤ length s → get_or s (n - 1) 0 ≡ 32 → without_blanks_after (take (n - 1) s) ≡ without_blanks_after (take n s)
blank_off s n more within blank =
    sym (ap without_blanks_after (last_of s n more within ∙ ap (λ c. take (n - 1) s ++ c ∷ []) blank) ∙ without_blanks_after-blanks (take (n - 1) s) 1)

ends_other : (s : List ℕ) (n : ℕ) → 0 < n → n ≤ length s → is_blank (get_or s (n - 1) 0) ≡ false → take n s ≡ without_blanks_after (take n s)
ends_other s n more within other =
    let last = last_of s n more within in
    last ∙ sym (without_blanks_after-push (take (n - 1) s) (get_or s (n - 1) 0) other) ∙ sym (ap without_blanks_after last)

none_left : (s : List ℕ) (n : ℕ) → n ≡ 0 → take n s ≡ without_blanks_after (take n s)
unfolding without_blanks_after
none_left s n none = ap (λ k. take k s) none ∙ ap (λ k. without_blanks_after (take k s)) (sym none)

pub loop-len-preserved : goal.loop-len-preserved
loop-len-preserved c = record {
  same = blank_off c.args.text.now c.loop-len.len c.loop-len-test.true c.loop-len.invariant.within c.if-text-len-eq32.true ∙ c.loop-len.invariant.same;
  within = omega arith;
}

pub returns : goal.returns
returns c =
    elim c.loop-len-test.branch [
      | then-loop-len-test+else-text-len-eq32 w ↦
          ends_other c.args.text.now c.loop-len.len w.loop-len-test.true c.loop-len.invariant.within (ne_eqb _ _ w.if-text-len-eq32.false) ∙ c.loop-len.invariant.same
      | else-loop-len-test w ↦ none_left c.args.text.now c.loop-len.len (omega (arith, w.loop-len-test.false)) ∙ c.loop-len.invariant.same
    ]
