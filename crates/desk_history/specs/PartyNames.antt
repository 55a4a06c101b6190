-- The name of a bank, or of the ACH operator, as a file's header has it.
use Rattle.std.specs.Prelude.{ℕ, List, length, ◌==◌, if◌then◌else◌, Result, Err}
use Rattle.ach_fields.specs.Text.{short_text_of}
use Rattle.ach_fields.specs.declared.fault.FieldFault.{FieldFault}
use Rattle.ach_fields.specs.declared.fault.FieldFault.TheVariants.{NotText}

-- the name of these characters: 1 to 23, with no blank at either end
abbrev pub party_name_of : List ℕ → Result (List ℕ) FieldFault
party_name_of s = if length s == 0 then Err NotText else short_text_of 23 s
