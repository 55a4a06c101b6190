-- References and identifications.
use Rattle.std.specs.Prelude.{ℕ, Bool, List, length, ◌&&◌, nat_le, nat_lt, if◌then◌else◌, Result, Ok, Err}
use Rattle.std.specs.List.{list_all}
use Rattle.ach_fields.specs.declared.fault.FieldFault.{FieldFault}
use Rattle.ach_fields.specs.declared.fault.FieldFault.TheVariants.{TooLong, NotText}
use Rattle.ach_fields.specs.Characters.{is_reference_character, is_id_character}

-- 1 to 20 reference characters
abbrev pub is_reference : List ℕ → Bool
is_reference s = nat_le 1 (length s) && (nat_le (length s) 20 && list_all is_reference_character s)

-- the reference of these characters
abbrev pub reference_of : List ℕ → Result (List ℕ) FieldFault
reference_of s = if nat_lt 20 (length s) then Err TooLong else (if is_reference s then Ok s else Err NotText)

-- 1 to 10 identification characters
abbrev pub is_id : List ℕ → Bool
is_id s = nat_le 1 (length s) && (nat_le (length s) 10 && list_all is_id_character s)

-- the identification of these characters
abbrev pub id_of : List ℕ → Result (List ℕ) FieldFault
id_of s = if nat_lt 10 (length s) then Err TooLong else (if is_id s then Ok s else Err NotText)
