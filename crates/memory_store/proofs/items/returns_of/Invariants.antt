use Rattle.std.proofs.Common.{◌≡◌, ◌++◌, drop, map}
use Rattle.std.specs.Prelude.{filter, bytes_eq}
use Rattle.memory_store.proofs.items.returns_of.Given as goal

abbrev pub invariant-loop-one : goal.invariant-loop-one
invariant-loop-one l =
    l.rows.items ++ map (λ x. x.row) (filter (λ x. bytes_eq x.company l.company) (drop l.one-index l.returned))
    ≡ map (λ x. x.row) (filter (λ x. bytes_eq x.company l.company) l.returned)
