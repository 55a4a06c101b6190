-- The length of a text without the blanks at its end.
use Rattle.std.proofs.Common.{◌≤◌, ◌∷◌, [], ℕ, List, Bool, true, false, length, arith, if◌then◌else◌}
use Rattle.std.specs.List.{list_all}
use Rattle.ach_fields.specs.Text.{is_blank, without_blanks_after}

by_test : (b : Bool) (c : ℕ) (s t : List ℕ) → length t ≤ length s → length (if b then [] else c ∷ t) ≤ length (c ∷ s)
by_test true c s t within = omega arith
by_test false c s t within = omega (arith, within)

pub length-without_blanks_after : (s : List ℕ) → length (without_blanks_after s) ≤ length s
unfolding without_blanks_after
length-without_blanks_after [] = omega arith
length-without_blanks_after (c ∷ s) = by_test (list_all is_blank (c ∷ s)) c s (without_blanks_after s) (length-without_blanks_after s)
