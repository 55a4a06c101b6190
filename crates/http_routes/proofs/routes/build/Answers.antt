use Rattle.std.proofs.Common.{refl}
use Rattle.matchit.proofs.OnLiterals.{matchit_on_literals}
use Rattle.http_routes.proofs.routes.build.Goals as goal

pub returns : goal.returns
unfolding matchit_on_literals
returns c = rw (c.in_ok-add_routes.ensures, c.new-router.ensures) refl
