-- Which route a path has, and what its pieces are.
use Rattle.std.specs.Prelude.{ℕ, ◌==◌, zero, suc, List, bytes_eq, codes, if◌then◌else◌, Option, Some, None, ok_or, Result, Err}
use Rattle.std.specs.List.{before_first, after_first}
use Rattle.matchit.specs.Router.{RouteOf}
use Rattle.matchit.specs.Seek.{first}
use Rattle.http_routes.specs.Table.{router_rows}
use Rattle.http_routes.specs.declared.route.Route.{Route}
use Rattle.http_routes.specs.declared.route.Served.{Served}
use Rattle.http_routes.specs.declared.routes.RouteFault.{RouteFault}
use Rattle.http_routes.specs.declared.routes.RouteFault.TheVariants.{NotFound, BadMethod}

-- what is served by this method
abbrev pub route_by : List ℕ → Served → Option Route
route_by method served =
    if bytes_eq method (codes "GET") then served.get
    else if bytes_eq method (codes "POST") then served.post
    else None

-- the route, or the first fault: the path serves nothing, or nothing by this method
abbrev pub route_verdict : List ℕ → Option Served → Result Route RouteFault
route_verdict method None = Err NotFound
route_verdict method (Some served) = ok_or (route_by method served) BadMethod

abbrev pub value_of : Option (RouteOf Served) → Option Served
value_of None = None
value_of (Some found) = Some found.value

-- the route of a path for this method
abbrev pub route_at : List ℕ → List ℕ → Result Route RouteFault
route_at method path = route_verdict method (value_of (first router_rows path))

-- the piece of a path after this many slashes
abbrev pub piece_of : ℕ → List ℕ → List ℕ
piece_of zero path = before_first (λ b. b == 47) path
piece_of (suc n) path = piece_of n (after_first (λ b. b == 47) path)
