-- Dates of six digits.
use Rattle.std.specs.Prelude.{ℕ, Bool, ◌&&◌, ◌==◌, List, ◌++◌, length, take, drop, nat_le, if◌then◌else◌, Result, Ok, Err}
use Rattle.std.specs.List.{list_all}
use Rattle.ach_fields.specs.declared.fault.FieldFault.{FieldFault}
use Rattle.ach_fields.specs.declared.fault.FieldFault.TheVariants.{NotDigit, BadDate}
use Rattle.ach_fields.specs.Characters.{is_digit}
use Rattle.ach_fields.specs.Digits.{digits, number}

-- a year of two digits, a month from 1 to 12 and a day from 1 to 31
abbrev pub is_date : ℕ → ℕ → ℕ → Bool
is_date yy mm dd = nat_le yy 99 && (nat_le 1 mm && nat_le mm 12) && (nat_le 1 dd && nat_le dd 31)

-- YYMMDD
unfoldable pub date_text : ℕ → ℕ → ℕ → List ℕ
date_text yy mm dd = digits 2 yy ++ digits 2 mm ++ digits 2 dd

-- the text of a date with these parts
abbrev pub date_of : ℕ → ℕ → ℕ → Result (List ℕ) FieldFault
date_of yy mm dd = if is_date yy mm dd then Ok (date_text yy mm dd) else Err BadDate

-- the parts that six digits spell are a date's
unfoldable pub spells_date : List ℕ → Bool
spells_date s = is_date (number (take 2 s)) (number (take 2 (drop 2 s))) (number (drop 4 s))

-- six digits whose parts are a date's
abbrev pub is_date_text : List ℕ → Bool
is_date_text s = (length s == 6) && (list_all is_digit s && spells_date s)

-- the date that six characters spell
abbrev pub date_in : List ℕ → Result (List ℕ) FieldFault
date_in s = if list_all is_digit s then (if spells_date s then Ok s else Err BadDate) else Err NotDigit
