-- What the desk's status reads of held submissions: numbers, without entries.
use Rattle.std.specs.Prelude.{ℕ, Bool, List, length, map, Option, is_some}
use Rattle.desk_rules.specs.declared.bodies.company.Company.{Company}
use Rattle.desk_rules.specs.declared.bodies.submission.Submission.{Submission}
use Rattle.desk_rules.specs.Size.{total_of}
use Rattle.desk_history.specs.Sendings.{record_count}
use Rattle.desk_book.specs.Book.{Book}
use Rattle.desk_book.specs.Reads.{waiting_of}
use Rattle.desk_book.specs.declared.held_size.HeldSize.{HeldSize}
use Rattle.desk_book.specs.declared.held_submission.HeldSubmission.{HeldSubmission}

abbrev pub size_of : (order : ℕ) → Submission → (is_retry : Bool) → (original_settled : Option ℕ) → HeldSize
size_of order s is_retry original_settled = record {
  order = order;
  direction = s.direction;
  asked = s.day;
  is_retry = is_retry;
  original_settled = original_settled;
  cents = total_of s.entries;
  entries = length s.entries;
  records = record_count s;
}

abbrev pub held_size : HeldSubmission → HeldSize
held_size w = size_of w.row.order w.row.content (is_some w.row.retry) w.original_settled

-- those of a company's held submissions, by order number
abbrev pub held_sizes_of : Company → Book → List HeldSize
held_sizes_of k b = map held_size (waiting_of k b)
