use Rattle.std.proofs.Common.{◌≡◌, map, drop}
use Rattle.http_routes.specs.Table.{served_by_path, with_routes}
use Rattle.http_routes.proofs.routes.add_routes.Given as goal

abbrev pub invariant-loop-route : goal.invariant-loop-route
invariant-loop-route l = with_routes l.router (map served_by_path (drop l.route-index l.routes)) ≡ with_routes l.fn.router (map served_by_path l.routes)
