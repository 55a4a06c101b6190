-- The results of a store's reads, from its book.
use Rattle.std.specs.Prelude.{ℕ, List, map, filter, find, length, Option, Some, option_map}
use Rattle.std.specs.List.{flat_map}
use Rattle.desk_plan.specs.Reuse as plan
use Rattle.desk_plan.specs.Sequences as plan_sequences
use Rattle.desk_rules.specs.declared.bodies.company.Company.{Company}
use Rattle.desk_book.specs.declared.row.Row.{Row}
use Rattle.desk_history.specs.declared.sent_entry.SentEntry.{SentEntry}
use Rattle.desk_book.specs.Book.{Book}
use Rattle.desk_history.specs.Operator.{has_id}
use Rattle.desk_history.specs.Resolve.{has_trace}
use Rattle.desk_history.specs.Sendings as sending
use Rattle.desk_book.specs.OpenRows.{open_rows}
use Rattle.desk_book.specs.Standing.{row_under, is_held, original_of_row, retry_rows}
use Rattle.desk_book.specs.declared.caller.Caller.{Caller}
use Rattle.desk_book.specs.declared.caller.Caller.TheVariants as callers
use Rattle.desk_book.specs.declared.returns_and_changes.ReturnsAndChanges.{ReturnsAndChanges}
use Rattle.desk_book.specs.declared.held_submission.HeldSubmission.{HeldSubmission}

-- the digest of a caller's key: of the operator, or of a registered company
abbrev pub key_of : Caller → Book → Option (List ℕ)
key_of callers.Operator b = Some b.operator_key
key_of (callers.Company c) b = option_map (λ k. k.digest) (find (has_id c) b.companies)

abbrev pub company : List ℕ → Book → Option Company
company c b = find (has_id c) b.companies

abbrev pub submission : (company : List ℕ) → (reference : List ℕ) → Book → Option Row
submission c reference b = row_under (b.rows c) reference

-- how many submissions and retries a company has
abbrev pub submission_count : (company : List ℕ) → Book → ℕ
submission_count c b = length (b.rows c)

-- a company's rows that still count for its exposures
abbrev pub open_rows_of : (company : List ℕ) → (since : ℕ) → Book → List Row
open_rows_of c since b = open_rows since (b.rows c)

-- a company's retries of one entry
abbrev pub retries_of : (company : List ℕ) → (of : List ℕ) → (index : ℕ) → Book → List Row
retries_of c of index b = retry_rows (b.rows c) of index

-- a held submission with its company, and for a retry the day on which its original settled
abbrev pub held_submission : Company → List Row → Row → HeldSubmission
held_submission k rows row = record { company = k; row = row; original_settled = original_of_row rows row.retry }

-- those of a company, by order number
abbrev pub waiting_of : Company → Book → List HeldSubmission
waiting_of k b = map (held_submission k (b.rows k.id)) (filter is_held (b.rows k.id))

-- the held submissions, by company and then by order number
abbrev pub waiting : Book → List HeldSubmission
waiting b = flat_map (λ k. waiting_of k b) b.companies

abbrev pub last_sequence : Book → ℕ
last_sequence b = plan_sequences.last_sequence (map sending.sent_sequence b.sent)

abbrev pub sent_count : Book → ℕ
sent_count b = length b.sent

-- the latest settlement of the youngest entries of sequences from the first to the last
abbrev pub latest_settled : (from : ℕ) → (to : ℕ) → Book → Option ℕ
latest_settled from to b = plan.latest_settled (map sending.sent_sequence b.sent) (from, to)

-- the youngest entry that has a trace
abbrev pub sent_as : List ℕ → Book → Option SentEntry
sent_as trace b = find (has_trace b.identity.odfi trace) b.sent

abbrev pub items_of : List ℕ → Book → ReturnsAndChanges
items_of c b = record { returns = b.returns c; changes = b.changes c }
