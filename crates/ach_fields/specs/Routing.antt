-- Routing numbers and their check digits.
use Rattle.std.specs.Prelude.{◌≡◌, ◌<◌, ℕ, ◌+◌, ◌-◌, ◌*◌, ◌%◌, Bool, ◌&&◌, ◌==◌, List, length, take, slice_index, nat_lt, if◌then◌else◌, Result, Ok, Err}
use Rattle.std.specs.List.{list_all}
use Rattle.ach_fields.specs.declared.fault.FieldFault.{FieldFault}
use Rattle.ach_fields.specs.declared.fault.FieldFault.TheVariants.{TooLong, NotDigit, BadCheck}
use Rattle.ach_fields.specs.Characters.{is_digit}
use Rattle.ach_fields.specs.Digits.{number}

-- eight digits
abbrev pub most_dfi : ℕ
most_dfi = 99_999_999

-- the value of the digit at a place
abbrev pub digit_at : List ℕ → ℕ → ℕ
digit_at s i = slice_index s i - 48

-- the first eight digits by the weights 3 7 1 3 7 1 3 7
abbrev pub weighted_sum_of_eight : List ℕ → ℕ
weighted_sum_of_eight s =
    3 * digit_at s 0 + 7 * digit_at s 1 + digit_at s 2
    + 3 * digit_at s 3 + 7 * digit_at s 4 + digit_at s 5
    + 3 * digit_at s 6 + 7 * digit_at s 7

-- x is the check digit of eight digits: it completes their weighted sum to a multiple of ten
abbrev pub IsCheckDigit : List ℕ → ℕ → Type 0
IsCheckDigit eight x = (x < 10) × ((weighted_sum_of_eight eight + x) % 10 ≡ 0)

-- the weighted sum with the check digit, whose weight is 1
abbrev pub weighted_sum : List ℕ → ℕ
weighted_sum s = weighted_sum_of_eight s + digit_at s 8

-- nine digits; the last one is the check digit of the others
abbrev pub is_routing : List ℕ → Bool
is_routing s = (length s == 9) && (list_all is_digit s && (weighted_sum s % 10 == 0))

-- the routing number of these characters
abbrev pub routing_of : List ℕ → Result (List ℕ) FieldFault
routing_of s =
    if nat_lt 9 (length s) then Err TooLong
    else (if (nat_lt (length s) 9) then Err NotDigit
    else (if list_all is_digit s then (if weighted_sum s % 10 == 0 then Ok s else Err BadCheck) else Err NotDigit))

-- the bank that a routing number names: its first eight digits, as a number
abbrev pub dfi_of : List ℕ → ℕ
dfi_of s = number (take 8 s)
