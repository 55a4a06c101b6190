-- Texts in fields.
use Rattle.std.specs.Prelude.{◌≡◌, ℕ, Bool, not, List, [], ◌∷◌, ◌++◌, length, replicate, slice_index, ◌-◌, ◌&&◌, ◌==◌, nat_le, nat_lt, if◌then◌else◌, Result, Ok, Err, MatchResult}
use Rattle.std.specs.Borrow.{Bor}
use Rattle.std.specs.List.{list_all}
use Rattle.ach_fields.specs.declared.fault.FieldFault.{FieldFault}
use Rattle.ach_fields.specs.declared.fault.FieldFault.TheVariants.{TooLong, NotText}
use Rattle.ach_fields.specs.Characters.{is_printable}

abbrev pub is_blank : ℕ → Bool
is_blank c = c == 32

-- the text without the blanks at its end
unfoldable pub without_blanks_after : List ℕ → List ℕ
without_blanks_after [] = []
without_blanks_after (c ∷ s) = if list_all is_blank (c ∷ s) then [] else c ∷ without_blanks_after s

-- the text with blanks after it, up to a width
unfoldable pub with_blanks_after : ℕ → List ℕ → List ℕ
with_blanks_after width s = s ++ replicate (width - length s) 32

-- the text in a field
abbrev pub text_in : List ℕ → Result (List ℕ) FieldFault
text_in s = if list_all is_printable s then Ok (without_blanks_after s) else Err NotText

-- the answer is this one, as a part of the field
abbrev pub GivesText : Result (List ℕ) FieldFault → Result (Bor (List ℕ)) FieldFault → Type 0
GivesText wanted result = MatchResult result (λ text. wanted ≡ Ok text.now) (λ f. wanted ≡ Err f)

-- the field of this width that has this text
abbrev pub text_field : ℕ → List ℕ → Result (List ℕ) FieldFault
text_field width s =
    if nat_lt width (length s) then Err TooLong
    else (if list_all is_printable s then Ok (with_blanks_after width s) else Err NotText)

-- neither the first nor the last character is a blank
abbrev pub is_trimmed : List ℕ → Bool
is_trimmed s = not (slice_index s 0 == 32) && not (slice_index s (length s - 1) == 32)

-- at most n printable characters, with no blank at either end
abbrev pub is_short_text : ℕ → List ℕ → Bool
is_short_text n s = nat_le (length s) n && (is_trimmed s && list_all is_printable s)

-- the short text of these characters
abbrev pub short_text_of : ℕ → List ℕ → Result (List ℕ) FieldFault
short_text_of n s =
    if nat_lt n (length s) then Err TooLong
    else (if is_trimmed s && list_all is_printable s then Ok s else Err NotText)
