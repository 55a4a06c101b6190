use Rattle.std.proofs.Common.{◌≡◌, ◌++◌}
use Rattle.std.specs.List.{flat_map}
use Rattle.sql_read_steps.proofs.each.joined.Given as goal

abbrev pub invariant-loop-list : goal.invariant-loop-list
invariant-loop-list g l = l.all.items ++ flat_map (λ list. list.items) l.list-iterator.rest.items ≡ flat_map (λ list. list.items) l.fn.lists.items
