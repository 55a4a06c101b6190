-- The route of a path.
use Rattle.std.proofs.Common.{◌≡◌, ℕ, List, Bool, true, false, ◌<◌, refl, sym, ap, ◌∙◌}
use Rattle.std.specs.Prelude.{All, Result, Err, if◌then◌else◌}
use Rattle.std.specs.Str.{IsUtf8, is_utf8}
use Rattle.std.proofs.lemmas.Str.{IsUtf8-from_is_utf8, is_utf8-from_IsUtf8}
use Rattle.http_routes.specs.declared.route.Route.{Route}
use Rattle.http_routes.specs.declared.routes.RouteFault.{RouteFault}
use Rattle.http_routes.specs.declared.routes.RouteFault.TheVariants.{NotFound}
use Rattle.http_routes.specs.Finding.{route_at, route_verdict}
use Rattle.http_routes.specs.Pieces.{FoundByPieces, service_at}
use Rattle.http_history.specs.Addressee.{route_of_path}

not_both : {b : Bool} → b ≡ true → b ≡ false → ⊥
not_both is other = cc

-- what the router finds is what the table has
pub found_is : FoundByPieces → (method path : List ℕ) (found : Result Route RouteFault) → All (λ b. b < 256) path
    → (IsUtf8 path → found ≡ route_at method path) → ((IsUtf8 path → ⊥) → found ≡ Err NotFound) → found ≡ route_of_path method path
found_is pieces method path found low text other = by (is_utf8 path) refl where
  by : (b : Bool) → is_utf8 path ≡ b → found ≡ route_of_path method path
  by true is =
      text (IsUtf8-from_is_utf8 path is) ∙ ap (route_verdict method) (pieces path low)
      ∙ ap (λ (b : Bool). if b then route_verdict method (service_at path) else Err NotFound) (sym is)
  by false is =
      other (λ utf8. not_both (is_utf8-from_IsUtf8 path utf8) is)
      ∙ ap (λ (b : Bool). if b then route_verdict method (service_at path) else Err NotFound) (sym is)
