use Rattle.std.proofs.Common.{◌≡◌, take, map}
use Rattle.sql_tables.specs.RowParts.{state_among}
use Rattle.sql_tables.proofs.parts.states_of.Given as goal

abbrev pub invariant-loop-entry : goal.invariant-loop-entry
invariant-loop-entry l = l.states.items ≡ map (λ e. state_among l.head l.returns e.index) (take l.entry-index l.entries)
