-- The answer to a cut, and its write, from the book.
use Rattle.std.specs.Prelude.{ℕ, ◌+◌, Bool, not, List, map, filter, zip, length, sum_by, Some, Result, Ok, Err}
use Rattle.std.specs.List.{enumerate_from, flat_map}
use Rattle.desk_accounts.specs.Laws.{pairs}
use Rattle.desk_plan.specs.Sequences.{ranges}
use Rattle.desk_rules.specs.declared.refusals.refusal.Refusal.{Refusal}
use Rattle.desk_rules.specs.declared.refusals.refusal.Refusal.TheVariants.{NoDay}
use Rattle.desk_rules.specs.Chain.{◌>>=◌}
use Rattle.desk_history.specs.declared.answer.Answer.{Answer}
use Rattle.desk_history.specs.declared.identity.Identity.{Identity}
use Rattle.desk_history.specs.declared.operations.CutSummary.{CutSummary}
use Rattle.desk_book.specs.Book.{Book}
use Rattle.desk_history.specs.Cutting.{cut_verdict}
use Rattle.desk_history.specs.Files.{File, runs_of, files_from, text_of}
use Rattle.desk_history.specs.Operator.{cut_answer}
use Rattle.desk_history.specs.Postings.{sending_line}
use Rattle.desk_history.specs.Sendings.{Sending, NumberedBatch, entries_in, plan_of, batch_entries, batch_of}
use Rattle.desk_book.specs.Standing.{is_due_row, settlement_of}
use Rattle.desk_history.specs.State.{is_too_late}
use Rattle.desk_history.specs.Words.{some_or}
use Rattle.desk_book.specs.declared.flat_rows.FileRow.{FileRow}
use Rattle.desk_book.specs.declared.flat_rows.LapsedRow.{LapsedRow}
use Rattle.desk_book.specs.declared.flat_rows.SentRow.{SentRow}
use Rattle.desk_book.specs.declared.held_submission.HeldSubmission.{HeldSubmission}
use Rattle.desk_book.specs.Reads.{waiting, last_sequence}
use Rattle.desk_book.specs.Steps.{CutWrite, commit_cut}

-- ---- what is due

abbrev pub is_due : (holidays : List ℕ) → (today : ℕ) → HeldSubmission → Bool
is_due holidays today w = is_due_row holidays today w.row

-- the day on which it would settle
abbrev pub settles : (holidays : List ℕ) → (today : ℕ) → HeldSubmission → ℕ
settles holidays today w = settlement_of holidays today w.row

-- a retry lapses where it would settle too long after its original
abbrev pub lapses : (holidays : List ℕ) → (today : ℕ) → HeldSubmission → Bool
lapses holidays today w = is_too_late (Some (settles holidays today w)) w.original_settled

abbrev pub due_submissions : (holidays : List ℕ) → (today : ℕ) → List HeldSubmission → List HeldSubmission
due_submissions holidays today ws = filter (is_due holidays today) ws

-- the held submissions of the book that a cut on a day decides, by company and then by order number
abbrev pub due : (holidays : List ℕ) → (today : ℕ) → Book → List HeldSubmission
due holidays today b = due_submissions holidays today (waiting b)

abbrev pub sending_of : (holidays : List ℕ) → (today : ℕ) → HeldSubmission → Sending
sending_of holidays today w = record { company = w.company; order = w.row.order; content = w.row.content; settled = settles holidays today w }

-- what is sent, in the order in which it waits
abbrev pub sendings : (holidays : List ℕ) → (today : ℕ) → List HeldSubmission → List Sending
sendings holidays today ws = map (sending_of holidays today) (filter (λ w. not (lapses holidays today w)) (due_submissions holidays today ws))

abbrev pub lapsed_row : HeldSubmission → LapsedRow
lapsed_row w = record { company = w.company.id; order = w.row.order }

-- what lapses
abbrev pub lapses_among : (holidays : List ℕ) → (today : ℕ) → List HeldSubmission → List LapsedRow
lapses_among holidays today ws = map lapsed_row (filter (lapses holidays today) (due_submissions holidays today ws))

-- ---- batches and files

-- the sequences of what is sent, after the last one
abbrev pub ranges_after : ℕ → List Sending → List (ℕ × ℕ)
ranges_after last ss = ranges last (map (λ b. b.entries) (map plan_of ss))

abbrev pub batches_after : ℕ → List Sending → List NumberedBatch
batches_after last ss = map batch_of (zip (ranges_after last ss) ss)

-- ---- what a cut writes

abbrev pub sent_row : File → ℕ × NumberedBatch → SentRow
sent_row f x = record {
  company = x.1.sending.company.id;
  order = x.1.sending.order;
  settled = x.1.sending.settled;
  printed = record { day = f.day; modifier = f.modifier; batch = x.0 };
}

-- the submissions of a file, each with its place there
abbrev pub sent_rows : File → List SentRow
sent_rows f = map (sent_row f) (enumerate_from 1 f.batches)

abbrev pub file_row : Identity → File → FileRow
file_row identity f = record { day = f.day; modifier = f.modifier; text = text_of identity f }

-- what a cut reads of the book, and its day
pub record CutFacts : Type 0 where
  pub identity : Identity
  pub day : ℕ
  pub holidays : List ℕ
  -- the sequence of the last sent entry
  pub last : ℕ
  -- how many files the day has
  pub made : ℕ
  pub waiting : List HeldSubmission

abbrev pub cut_sendings : CutFacts → List Sending
cut_sendings x = sendings x.holidays x.day x.waiting

abbrev pub lapsed_rows : CutFacts → List LapsedRow
lapsed_rows x = lapses_among x.holidays x.day x.waiting

abbrev pub batches : CutFacts → List NumberedBatch
batches x = batches_after x.last (cut_sendings x)

abbrev pub files : CutFacts → List File
files x = files_from x.day x.made (runs_of (batches x))

abbrev pub cut_write : CutFacts → CutWrite
cut_write x = record {
  sent = flat_map sent_rows (files x);
  lapsed = lapsed_rows x;
  entries = flat_map batch_entries (batches x);
  postings = pairs (flat_map sending_line (cut_sendings x));
  files = map (file_row x.identity) (files x);
}

abbrev pub cut_summary : CutFacts → CutSummary
cut_summary x = record {
  day = x.day;
  entries = sum_by (λ s. length (entries_in s)) (cut_sendings x);
  files = map (λ f. f.modifier) (files x);
  lapsed = length (lapsed_rows x);
}

-- ---- a cut of the book

abbrev pub cut_facts : Book → ℕ → CutFacts
cut_facts b d = record {
  identity = b.identity;
  day = d;
  holidays = b.holidays;
  last = last_sequence b;
  made = b.files_on d;
  waiting = waiting b;
}

-- the facts of a cut that is made on a day, or its first refusal
abbrev pub cut_on_day : Book → ℕ → Result CutFacts Refusal
cut_on_day b d = do
  _ ← cut_verdict d b.sent (cut_sendings (cut_facts b d)) (b.files_on d + length (files (cut_facts b d)))
  Ok (cut_facts b d)

-- the facts of a cut that is made, or the first of NoDay, TracesSpent and ModifiersSpent
abbrev pub cut_on : Book → Result CutFacts Refusal
cut_on b = do
  d ← some_or NoDay b.day
  cut_on_day b d

abbrev pub summary_of : Result CutFacts Refusal → Result CutSummary Refusal
summary_of (Ok x) = Ok (cut_summary x)
summary_of (Err why) = Err why

abbrev pub cut_answer_on : Book → Answer
cut_answer_on b = cut_answer (summary_of (cut_on b))

abbrev pub with_cut : Result CutFacts Refusal → Book → Book
with_cut (Ok x) b = (commit_cut (cut_write x)).after b
with_cut (Err why) b = b

-- the book after a cut; a refusal leaves it as it was
abbrev pub cut_after : Book → Book
cut_after b = with_cut (cut_on b) b
