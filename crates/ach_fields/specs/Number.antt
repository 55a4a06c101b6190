-- Numbers in fields.
use Rattle.std.specs.Prelude.{ℕ, ◌^◌, List, length, ◌&&◌, nat_lt, nat_le, if◌then◌else◌, Result, Ok, Err}
use Rattle.std.specs.List.{list_all}
use Rattle.ach_fields.specs.declared.fault.FieldFault.{FieldFault}
use Rattle.ach_fields.specs.declared.fault.FieldFault.TheVariants.{NotDigit, TooLong}
use Rattle.ach_fields.specs.Characters.{is_digit}
use Rattle.ach_fields.specs.Digits.{digits, number}

-- the number in a field of 1 to 18 digits
abbrev pub number_in : List ℕ → Result ℕ FieldFault
number_in s =
    if nat_lt 18 (length s) then Err TooLong
    else (if nat_lt 0 (length s) && list_all is_digit s then Ok (number s) else Err NotDigit)

-- the field of 1 to 18 bytes that has this number
abbrev pub number_field : ℕ → ℕ → Result (List ℕ) FieldFault
number_field width n =
    if nat_le 1 width && nat_le width 18 && nat_lt n (10 ^ width) then Ok (digits width n) else Err TooLong
