-- A router that is built of routes one after another.
use Rattle.std.proofs.Common.{◌≡◌, sym, Ok, Err, Result, inl, inr}
use Rattle.std.specs.Prelude.{◌⊎◌}
use Rattle.matchit.specs.Route.{Scan}
use Rattle.matchit.specs.Router.{RouteOf, InsertsRead}
use Rattle.matchit.specs.Rows.{RowsOf}
use Rattle.matchit.specs.declared.error.InsertError.{InsertError}
use Rattle.matchit.specs.declared.error.InsertError.TheVariants.{OutOfMemory}
use Rattle.http_routes.specs.Table.{with_read}
use Rattle.http_routes.specs.declared.route.Served.{Served}

-- what is inserted is what is read
pub inserted : (read : Result Scan InsertError) (served : Served) (old new : RowsOf (RouteOf Served)) (u : Unit {0}) → InsertsRead read served old new (Ok u) → with_read read served old ≡ new
inserted (Ok s) served old new u is = sym is.1
inserted (Err e) served old new u is = none is.1 where
  none : (Ok u ≡ Err e) ⊎ (Ok u ≡ Err OutOfMemory) → old ≡ new
  none (inl same) = cc
  none (inr same) = cc
