-- The submissions that a cut sends. Each becomes a batch whose entries take consecutive sequences.
use Rattle.std.specs.Prelude.{ℕ, ◌+◌, Bool, if◌then◌else◌, List, ◌++◌, map, zip, length, reverse, sum_by, Option, Some, None, ◌-◌}
use Rattle.std.specs.List.{enumerate_from, flat_map}
use Rattle.desk_plan.specs.declared.batch.Batch as plan
use Rattle.desk_plan.specs.Sequences.{SentSequence, ranges_of}
use Rattle.desk_rules.specs.declared.bodies.company.Company.{Company}
use Rattle.desk_rules.specs.declared.bodies.submission.Entry.{Entry}
use Rattle.desk_rules.specs.declared.bodies.submission.Submission.{Submission}
use Rattle.desk_rules.specs.LimitChecks.{is_debit}
use Rattle.desk_rules.specs.Size.{total_of}
use Rattle.desk_history.specs.declared.sent_entry.SentEntry.{SentEntry}

-- a submission that a cut sends, with its company and the day on which it settles
pub record Sending : Type 0 where
  pub company : Company
  pub order : ℕ
  pub content : Submission
  pub settled : ℕ

abbrev pub entries_in : Sending → List Entry
entries_in s = s.content.entries

abbrev pub is_debit_sending : Sending → Bool
is_debit_sending s = is_debit s.content.direction

-- an entry's record, and that of its addenda
abbrev pub records_of : Option (List ℕ) → ℕ
records_of None = 1
records_of (Some info) = 2

-- those of a submission
abbrev pub record_count : Submission → ℕ
record_count content = sum_by (λ e. records_of e.info) content.entries

-- what it takes of a file and of the sequences
abbrev pub plan_of : Sending → plan.Batch
plan_of s = record {
  company = s.company.id;
  order = s.order;
  settled = s.settled;
  debits = if is_debit_sending s then total_of (entries_in s) else 0;
  credits = if is_debit_sending s then 0 else total_of (entries_in s);
  entries = length (entries_in s);
  records = record_count s.content;
}

-- a batch: its entries take sequences from the first on
pub record NumberedBatch : Type 0 where
  pub sending : Sending
  pub first : ℕ

abbrev pub sent_entry : NumberedBatch → ℕ → Entry → SentEntry
sent_entry b index e = record {
  sequence = b.first + (index - 1);
  company = b.sending.company.id;
  reference = b.sending.content.reference;
  order = b.sending.order;
  index = index;
  settled = b.sending.settled;
  sec = b.sending.content.sec;
  debit = is_debit_sending b.sending;
  entry = e;
}

abbrev pub batch_entries : NumberedBatch → List SentEntry
batch_entries b = map (λ x. sent_entry b x.0 x.1) (enumerate_from 1 (entries_in b.sending))

-- its sequence and its settlement
abbrev pub sent_sequence : SentEntry → SentSequence
sent_sequence e = record { sequence = e.sequence; settled = e.settled }

abbrev pub batch_of : (ℕ × ℕ) × Sending → NumberedBatch
batch_of x = record { sending = x.1; first = x.0.0 }

-- the batches that a cut sends after these entries, which are listed with the newest first
abbrev pub batches : List SentEntry → List Sending → List NumberedBatch
batches sent sendings = map batch_of (zip (ranges_of (map sent_sequence sent) (map plan_of sendings)) sendings)

-- what was sent once a cut sends these, the newest first
abbrev pub with_sendings : List SentEntry → List Sending → List SentEntry
with_sendings sent sendings = reverse (flat_map batch_entries (batches sent sendings)) ++ sent
