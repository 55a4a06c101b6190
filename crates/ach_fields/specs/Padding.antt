-- A text in a fixed number of bytes, with zeros after it.
use Rattle.std.specs.Prelude.{◌≡◌, ◌-◌, ◌++◌, ◌==◌, not, ℕ, Bool, List, length, replicate}
use Rattle.std.specs.List.{take_while}
use Rattle.std.proofs.Common.{sym}

-- a byte of the text
abbrev pub is_used : ℕ → Bool
is_used c = not (c == 0)

-- the bytes before the first zero
abbrev pub used : List ℕ → List ℕ
used bytes = take_while is_used bytes

-- bytes filled up with zeros at the end
abbrev pub with_zeros : ℕ → List ℕ → List ℕ
with_zeros n s = s ++ replicate (n - length s) 0

-- the text with its zeros is the bytes
pub zeros_again : (n : ℕ) (bytes : List ℕ) → bytes ≡ with_zeros n (used bytes) → with_zeros n (used bytes) ≡ bytes
zeros_again n bytes h = sym h
