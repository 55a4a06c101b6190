-- Text and value of a field name each other.
use Rattle.std.specs.Prelude.{◌≡◌, ℕ, ◌<◌, ◌≤◌, ◌^◌, List, length}
use Rattle.ach_fields.specs.Digits.{digits, number, AreDigits}
use Rattle.ach_fields.specs.Text.{with_blanks_after, without_blanks_after}

-- numbers are read as they were written, and written as they were read
pub record NumbersAndDigits : Type 0 where
  pub read : (width n : ℕ) → n < 10 ^ width → number (digits width n) ≡ n
  pub written : (s : List ℕ) → AreDigits s → digits (length s) (number s) ≡ s
  pub long : (width n : ℕ) → length (digits width n) ≡ width
  pub plain : (width n : ℕ) → AreDigits (digits width n)

-- texts are read as they were written, but for blanks at their end, and written as they were read
pub record TextsAndFields : Type 0 where
  pub read : (width : ℕ) (s : List ℕ) → without_blanks_after (with_blanks_after width s) ≡ without_blanks_after s
  pub written : (s : List ℕ) → with_blanks_after (length s) (without_blanks_after s) ≡ s
  pub long : (width : ℕ) (s : List ℕ) → length s ≤ width → length (with_blanks_after width s) ≡ width
