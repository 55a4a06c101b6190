-- The files that cuts make.
use Rattle.std.specs.Prelude.{ℕ, ◌+◌, Bool, true, ◌&&◌, ◌==◌, if◌then◌else◌, List, [], ◌∷◌, ◌++◌, length, map, filter, count_by, find, Option, Some, None, unwrap_or, bytes_eq}
use Rattle.std.specs.List.{enumerate_from, flat_map}
use Rattle.std.specs.Borrow.{Bor}
use Rattle.ach_fields.specs.Routing.{dfi_of, digit_at}
use Rattle.ach_fields.specs.Trace.{trace_text}
use Rattle.ach_files.specs.declared.outgoing.Addenda.{Addenda}
use Rattle.ach_files.specs.declared.outgoing.Addenda.TheVariants as addendas
use Rattle.ach_files.specs.declared.outgoing.Outgoing.{Outgoing}
use Rattle.ach_files.specs.declared.outgoing.OutgoingBatch.{OutgoingBatch}
use Rattle.ach_files.specs.declared.outgoing.OutgoingEntry.{OutgoingEntry}
use Rattle.ach_files.specs.Outgoing.{outgoing_text}
use Rattle.bank_days.specs.Day.{day_ymd}
use Rattle.desk_plan.specs.Files.{division}
use Rattle.desk_plan.specs.Modifiers.{modifier_at}
use Rattle.desk_plan.specs.Runs.{in_runs}
use Rattle.desk_rules.specs.declared.bodies.submission.Entry.{Entry}
use Rattle.desk_history.specs.declared.identity.Identity.{Identity}
use Rattle.desk_history.specs.declared.sent_entry.FilePlace.{FilePlace}
use Rattle.desk_history.specs.declared.sent_entry.SentEntry.{SentEntry}
use Rattle.desk_history.specs.Message.{Message, Cut, Pair, is_accepted}
use Rattle.desk_history.specs.Sendings.{Sending, NumberedBatch, is_debit_sending, plan_of, batch_entries, batches}
use Rattle.desk_history.specs.Resolve.{is_savings}
use Rattle.desk_rules.specs.Fields.{sec_text}
use Rattle.desk_history.specs.History.{day, companies, sendings, part, sent_entries}

pub record File : Type 0 where
  pub day : ℕ
  pub modifier : ℕ
  pub batches : List NumberedBatch

-- what a cut after the history sends, and its batches
abbrev pub cut_sendings : List ℕ → List Pair → List Sending
cut_sendings odfi H = sendings (part odfi H) (companies H)

abbrev pub cut_batches : List ℕ → List Pair → List NumberedBatch
cut_batches odfi H = batches (sent_entries odfi H) (cut_sendings odfi H)

-- the runs of the one division of batches into files
abbrev pub runs_of : List NumberedBatch → List (List NumberedBatch)
runs_of bs = in_runs (map length (division (map (λ b. plan_of b.sending) bs))) bs

abbrev pub file_count : ℕ → List File → ℕ
file_count d files = count_by (λ f. f.day == d) files

-- the files of a cut, on a day that already has this many: A to Z, then 0 to 9
abbrev pub files_from : (day : ℕ) → (made : ℕ) → List (List NumberedBatch) → List File
files_from day made runs = map (λ x. record { day = day; modifier = modifier_at x.0; batches = x.1 }) (enumerate_from made runs)

abbrev pub files_after : (accepted : Bool) → Message → (day : ℕ) → List NumberedBatch → List File → List File
files_after true Cut d bs before = before ++ files_from d (file_count d before) (runs_of bs)
files_after _ _ d bs before = before

-- the files of all cuts, in order
abbrev pub files : List ℕ → List Pair → List File
files odfi [] = []
files odfi (x ∷ H) = files_after (is_accepted x.answer) x.message (unwrap_or (day H) 0) (cut_batches odfi H) (files odfi H)

-- those that a cut after the history makes on a day
abbrev pub new_files : (odfi : List ℕ) → List Pair → (day : ℕ) → List File
new_files odfi H d = files_from d (file_count d (files odfi H)) (runs_of (cut_batches odfi H))

abbrev pub is_file : (day : ℕ) → (modifier : ℕ) → File → Bool
is_file d modifier f = f.day == d && f.modifier == modifier

abbrev pub file_at : (odfi : List ℕ) → List Pair → (day : ℕ) → (modifier : ℕ) → Option File
file_at odfi H d modifier = find (is_file d modifier) (files odfi H)

-- ---- where a submission was printed

abbrev pub is_batch_of : (company : List ℕ) → (order : ℕ) → ℕ × NumberedBatch → Bool
is_batch_of c order x = bytes_eq x.1.sending.company.id c && x.1.sending.order == order

abbrev pub places_in_file : (company : List ℕ) → (order : ℕ) → File → List FilePlace
places_in_file c order f =
    map (λ x. record { day = f.day; modifier = f.modifier; batch = x.0 }) (filter (is_batch_of c order) (enumerate_from 1 f.batches))

abbrev pub file_places : (odfi : List ℕ) → List Pair → (company : List ℕ) → (order : ℕ) → List FilePlace
file_places odfi H c order = flat_map (places_in_file c order) (files odfi H)

-- ---- the text of a file

-- lent, from any place of memory: the text of a file does not depend on it
abbrev pub borrow_of : {A : Type 0} → A → Bor A
borrow_of a = record { ref_ptr = (0, 0); now = a }

-- 22 or 27 for checking, 32 or 37 for savings, one more for a prenote
abbrev pub transaction_of : Bool → Entry → ℕ
transaction_of debit e = (if is_savings e.kind then 32 else 22) + (if debit then 5 else 0) + (if e.prenote then 1 else 0)

abbrev pub payment : Option (List ℕ) → Addenda
payment None = addendas.Absent
payment (Some information) = addendas.Payment (borrow_of information)

abbrev pub outgoing_entry : List ℕ → SentEntry → OutgoingEntry
outgoing_entry odfi e = record {
  transaction = transaction_of e.debit e.entry;
  dfi = dfi_of e.entry.routing;
  check_digit = digit_at e.entry.routing 8;
  account = borrow_of e.entry.account;
  cents = e.entry.cents;
  identification = borrow_of e.entry.id;
  name = borrow_of e.entry.name;
  trace = trace_text (dfi_of odfi) e.sequence;
  addenda = payment e.entry.info;
}

-- 220 for credits, 225 for debits; batches are numbered from 1 in each file
abbrev pub outgoing_batch : List ℕ → ℕ × NumberedBatch → OutgoingBatch
outgoing_batch odfi x = record {
  header = record {
    service_class = if is_debit_sending x.1.sending then 225 else 220;
    company_name = borrow_of x.1.sending.company.name;
    company = borrow_of x.1.sending.company.id;
    sec = borrow_of (sec_text x.1.sending.content.sec);
    description = borrow_of x.1.sending.content.description;
    effective = day_ymd x.1.sending.settled;
    settlement = None;
    odfi = dfi_of odfi;
    number = x.0;
  };
  entries = borrow_of (map (outgoing_entry odfi) (batch_entries x.1));
}

abbrev pub outgoing : Identity → File → Outgoing
outgoing identity f = record {
  header = record {
    destination = identity.destination;
    origin = identity.odfi;
    date = day_ymd f.day;
    time = None;
    modifier = borrow_of (f.modifier ∷ []);
    destination_name = borrow_of identity.destination_name;
    origin_name = borrow_of identity.odfi_name;
  };
  batches = borrow_of (map (outgoing_batch identity.odfi) (enumerate_from 1 f.batches));
}

abbrev pub text_of : Identity → File → List ℕ
text_of identity f = outgoing_text (outgoing identity f)
