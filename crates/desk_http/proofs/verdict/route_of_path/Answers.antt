use Rattle.std.proofs.Common.{◌<◌, arith}
use Rattle.std.proofs.lemmas.List.Elements.{All-from_get_or}
use Rattle.desk_http.proofs.FoundRoutes.{found_is}
use Rattle.desk_http.proofs.verdict.route_of_path.Goals as goal

pub returns : goal.returns
returns c =
    found_is c.found_by_pieces.ensures c.args.method.now c.args.path.now c.find.result
    (All-from_get_or (λ b. b < 256) c.args.path.now 0 (λ i _. omega (arith, c.type_inv.path i))) c.find.ensures.text c.find.ensures.other
