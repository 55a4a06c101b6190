-- A check that gave a value passed.
use Rattle.std.proofs.Common.{◌≡◌, Bool, true, false, Ok, refl}
use Rattle.desk_history.specs.Words.{holds_or}

pub passed : {E : Type 0} (e : E) (test : Bool) (u : Unit {0}) → holds_or e test ≡ Ok u → test ≡ true
passed e true u h = refl
passed e false u h = cc
