-- Bodies that are JSON, and those that aren't.
use Rattle.std.proofs.Common.{◌≡◌, ℕ, List, Bool, true, false, Option, Some, None, IsUtf8, refl, ap, cond}
use Rattle.std.specs.Prelude.{option_and_then}
use Rattle.std.specs.Str.{is_utf8}
use Rattle.std.proofs.lemmas.Str.{is_utf8-from_IsUtf8, IsUtf8-from_is_utf8}
use Rattle.json.specs.Json.{Json}
use Rattle.serde_json.specs.Data.{Data}
use Rattle.serde_json.specs.Read.{of_json, read}
use Rattle.http_json.specs.Read.{json_of, parsed}

-- a text is the data of the value that it is by the grammar
pub json_of-parsed : (body : List ℕ) (j : Json) → IsUtf8 body → parsed body ≡ Some j → json_of body ≡ of_json j
json_of-parsed body j utf8 is = rw (is_utf8-from_IsUtf8 body utf8) (ap (option_and_then of_json) is)

by_test : (b : Bool) (r : Option Data) → (b ≡ true → r ≡ None) → cond b r None ≡ None
by_test true r none = none refl
by_test false r none = refl

pub json_of-none : (body : List ℕ) → (IsUtf8 body → parsed body ≡ None) → json_of body ≡ None
json_of-none body none = by_test (is_utf8 body) (read body) (λ is. ap (option_and_then of_json) (none (IsUtf8-from_is_utf8 body is)))
