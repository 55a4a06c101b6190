-- What reading a stored value back gives.
use Rattle.std.specs.Prelude.{◌≡◌, ◌≢◌, Option, Some, None}

-- what is stored so, within its ranges, or nothing where nothing within its ranges is stored so
abbrev pub Reads : {X V : Type 0} → (stored : X → V) → (Fits : X → Type 0) → V → Option X → Type 0
Reads stored Fits v (Some x) = (v ≡ stored x) × Fits x
Reads stored Fits v None = (x : _) → Fits x → v ≢ stored x
