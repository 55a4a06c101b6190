-- The result of writing into a field.
use Rattle.std.specs.Prelude.{◌≡◌, ℕ, List, Result, Ok, Err}
use Rattle.ach_fields.specs.declared.fault.FieldFault.{FieldFault}

-- the field has the wanted bytes, or the fault is returned and the field is unchanged
abbrev pub Puts : Result (List ℕ) FieldFault → Result (Unit {0}) FieldFault → List ℕ → List ℕ → Type 0
Puts wanted (Ok _) old new = wanted ≡ Ok new
Puts wanted (Err f) old new = (wanted ≡ Err f) × (new ≡ old)
