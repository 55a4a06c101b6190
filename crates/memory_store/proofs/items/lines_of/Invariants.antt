use Rattle.std.proofs.Common.{◌≡◌, ◌++◌, drop}
use Rattle.desk_accounts.specs.Balance.{lines_of}
use Rattle.memory_store.proofs.items.lines_of.Given as goal

abbrev pub invariant-loop-line : goal.invariant-loop-line
invariant-loop-line l = l.lines.items ++ lines_of l.account (drop l.line-index l.postings) ≡ lines_of l.account l.postings
