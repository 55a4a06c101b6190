-- The sizes of held submissions, in the tables.
use Rattle.std.specs.Prelude.{ℕ, List, length, map, sum_by, Option, Some, None, is_some, option_and_then}
use Rattle.desk_rules.specs.declared.bodies.company.Company.{Company}
use Rattle.desk_history.specs.Sendings.{records_of}
use Rattle.desk_history.specs.declared.reports.RetriedEntry.{RetriedEntry}
use Rattle.desk_book.specs.HeldSizes.{held_size, size_of}
use Rattle.desk_book.specs.declared.held_size.HeldSize.{HeldSize}
use Rattle.sql_tables.specs.Composed.{original_in, waiting_of_in}
use Rattle.sql_tables.specs.TableReads.{order_in, whole_row}
use Rattle.sql_tables.specs.Tables.{Tables}
use Rattle.sql_tables.specs.declared.row.submissions.SubmissionHead.{SubmissionHead}

-- the day on which the submission of the retried entry settled
abbrev pub original_of_entry : (company : List ℕ) → Option RetriedEntry → Tables → Option ℕ
original_of_entry c None t = None
original_of_entry c (Some retried) t = option_and_then (λ original. original.settled) (order_in c retried.of t)

abbrev pub size_of_head : (company : List ℕ) → SubmissionHead → Tables → HeldSize
size_of_head c head t = size_of head.order (whole_row t head).content (is_some (whole_row t head).retry) (original_in c (whole_row t head).retry t)

-- the size of a submission of which the entries have these cents and addenda
abbrev pub size_by : SubmissionHead → (original_settled : Option ℕ) → (cents : ℕ) → (infos : List (Option (List ℕ))) → HeldSize
size_by head original_settled cents infos = record {
  order = head.order;
  direction = head.direction;
  asked = head.asked;
  is_retry = is_some head.retried;
  original_settled = original_settled;
  cents = cents;
  entries = length infos;
  records = sum_by records_of infos;
}

abbrev pub held_sizes_in : Company → Tables → List HeldSize
held_sizes_in k t = map held_size (waiting_of_in k t)
