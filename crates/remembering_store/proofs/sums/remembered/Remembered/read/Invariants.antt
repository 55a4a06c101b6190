use Rattle.std.proofs.Common.{◌≡◌, List, map}
use Rattle.desk_book.specs.declared.row.Row.{Row}
use Rattle.desk_book.specs.OpenSubmissions.{open_submission}
use Rattle.remembering_store.proofs.FirstRead.{IsUpTo}
use Rattle.remembering_store.proofs.sums.remembered.Remembered.read.Given as goal

abbrev pub invariant-loop-submission : goal.invariant-loop-submission
invariant-loop-submission l = record {
  so_far : (rs : List Row) → l.fn.submissions.items ≡ map open_submission rs → IsUpTo l.read l.submission-iterator.rest.items rs;
  since : l.read.since ≡ l.fn.since;
}
