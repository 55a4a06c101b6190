-- The code's view of what a cut sends, in the words of the definitions.
use Rattle.std.specs.Prelude.{ℕ, List, map, None}
use Rattle.ach_records.specs.declared.print.FileHeaderText.{FileHeaderText}
use Rattle.ach_files.specs.declared.outgoing.OutgoingEntry.{OutgoingEntry}
use Rattle.ach_fields.specs.Routing.{dfi_of, digit_at}
use Rattle.bank_days.specs.Day.{day_ymd}
use Rattle.desk_plan.specs.Runs.{in_runs}
use Rattle.desk_rules.specs.declared.bodies.submission.Entry.{Entry}
use Rattle.desk_history.specs.declared.identity.Identity.{Identity}
use Rattle.desk_history.specs.Files.{borrow_of, payment, transaction_of, outgoing_entry}
use Rattle.desk_history.specs.Files as files
use Rattle.desk_history.specs.Sendings as history
use Rattle.desk_book.specs.declared.held_submission.HeldSubmission.{HeldSubmission}
use Rattle.desk_cut.specs.declared.batches.NumberedBatch.{NumberedBatch}
use Rattle.desk_cut.specs.declared.files.File.{File}
use Rattle.desk_cut.specs.declared.due.DueSubmission.{DueSubmission}
use Rattle.desk_cut.specs.declared.due.Sending.{Sending}

-- what waits, sent so that it settles on a day
abbrev pub sending_on : ℕ → HeldSubmission → history.Sending
sending_on settled w = record { company = w.company; order = w.row.order; content = w.row.content; settled = settled }

abbrev pub due_in : DueSubmission → history.Sending
due_in d = sending_on d.settled d.waiting.now

abbrev pub sending_in : Sending → history.Sending
sending_in s = sending_on s.settled s.waiting.now

-- what is sent, in order
abbrev pub sent_in : List Sending → List history.Sending
sent_in sent = map sending_in sent

abbrev pub batch_in : NumberedBatch → history.NumberedBatch
batch_in b = record { sending = sending_on b.settled b.waiting.now; first = b.first }

-- the file of a day with this modifier and these batches
abbrev pub file_of : (day : ℕ) → (modifier : ℕ) → List NumberedBatch → files.File
file_of day modifier bs = record { day = day; modifier = modifier; batches = map batch_in bs }

abbrev pub file_in : File → files.File
file_in f = file_of f.day f.modifier f.batches.now

-- the batches in files of these sizes, on a day that already has this many files
abbrev pub files_of : (day : ℕ) → (made : ℕ) → (sizes : List ℕ) → List NumberedBatch → List files.File
files_of day made sizes bs = files.files_from day made (in_runs sizes (map batch_in bs))

-- the header of a file of a day
abbrev pub file_header : Identity → ℕ → List ℕ → FileHeaderText
file_header identity day modifier = record {
  destination = identity.destination;
  origin = identity.odfi;
  date = day_ymd day;
  time = None;
  modifier = borrow_of modifier;
  destination_name = borrow_of identity.destination_name;
  origin_name = borrow_of identity.odfi_name;
}

-- an entry of a batch as it is printed, with its trace
abbrev pub outgoing_as : history.NumberedBatch → List ℕ → Entry → OutgoingEntry
outgoing_as b trace e = record {
  transaction = transaction_of (history.is_debit_sending b.sending) e;
  dfi = dfi_of e.routing;
  check_digit = digit_at e.routing 8;
  account = borrow_of e.account;
  cents = e.cents;
  identification = borrow_of e.id;
  name = borrow_of e.name;
  trace = trace;
  addenda = payment e.info;
}

-- the entries of a batch as they are printed
abbrev pub outgoing_entries : List ℕ → history.NumberedBatch → List OutgoingEntry
outgoing_entries odfi b = map (outgoing_entry odfi) (history.batch_entries b)
