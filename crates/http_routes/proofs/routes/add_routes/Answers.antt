use Rattle.std.proofs.Common.{◌≡◌, ◌∙◌, ◌+◌, [], ap, sym, map, drop, arith}
use Rattle.std.proofs.lemmas.List.{at_drop_more, drop_all}
use Rattle.http_routes.specs.Table.{served_by_path, with_routes}
use Rattle.http_routes.proofs.Building.{inserted}
use Rattle.http_routes.proofs.routes.add_routes.Goals as goal

pub loop-route-preserved : goal.loop-route-preserved
loop-route-preserved c =
    let routes = c.args.routes.now in
    let at = c.loop-route.route-index in
    ap (λ router. with_routes router (map served_by_path (drop (at + 1) routes))) (sym (inserted _ _ _ _ _ c.in_ok-insert.ensures))
    ∙ sym (at_drop_more (λ rest. with_routes c.loop-route.router (map served_by_path rest)) routes at _ c.loop-route-test.true)
    ∙ c.loop-route.invariant

pub returns : goal.returns
returns c =
    let routes = c.args.routes.now in
    let none : drop c.loop-route.route-index routes ≡ [] = drop_all c.loop-route.route-index routes (omega arith) in
    ap (λ rest. with_routes c.loop-route.router (map served_by_path rest)) (sym none) ∙ c.loop-route.invariant
