use Rattle.std.proofs.Common.{◌≡◌, ◌++◌, length, map}
use Rattle.sql_query_laws.specs.Postings.{posting_of}
use Rattle.sql_queries.proofs.lines.of_account.Given as goal

abbrev pub invariant-loop-line : goal.invariant-loop-line
invariant-loop-line l = map (posting_of l.account) l.initial.left ≡ l.postings.items ++ map (posting_of l.account) l.left

abbrev pub decreases-loop-line : goal.decreases-loop-line
decreases-loop-line l = length l.left
