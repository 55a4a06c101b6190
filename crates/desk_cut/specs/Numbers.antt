-- The sequences of what a cut sends, as the code keeps them.
use Rattle.std.specs.Prelude.{◌≡◌, ℕ, true, false, All, List, map, zip, length, if◌then◌else◌}
use Rattle.std.specs.List.{list_all, flat_map}
use Rattle.desk_accounts.specs.Laws.{pairs}
use Rattle.desk_accounts.specs.declared.posting.Posting.{Posting}
use Rattle.desk_accounts.specs.Posting.{cut_line}
use Rattle.desk_plan.specs.declared.batch.Batch as plan
use Rattle.desk_plan.specs.Batch.{IsBatch}
use Rattle.desk_plan.specs.Reuse.{is_past, latest_settled, may_send}
use Rattle.desk_plan.specs.Runs.{in_runs}
use Rattle.desk_plan.specs.Sequences.{SentSequence, last_sequence, ranges_of, are_apart}
use Rattle.desk_history.specs.declared.identity.Identity.{Identity}
use Rattle.desk_history.specs.declared.operations.CutSummary.{CutSummary}
use Rattle.desk_history.specs.declared.sent_entry.SentEntry.{SentEntry}
use Rattle.desk_history.specs.Files.{File, files_from}
use Rattle.desk_history.specs.Postings.{if_any}
use Rattle.desk_history.specs.Sendings.{Sending, NumberedBatch, is_debit_sending, plan_of, batch_of, batch_entries}
use Rattle.desk_book.specs.declared.held_submission.HeldSubmission.{HeldSubmission}
use Rattle.desk_book.specs.Steps.{CutWrite}
use Rattle.desk_book.specs.OnCut.{sendings, lapses_among, ranges_after, sent_rows, file_row}
use Rattle.desk_cut.specs.declared.due.Sending as due
use Rattle.desk_cut.specs.declared.fault.CutFault.{CutFault}
use Rattle.desk_cut.specs.declared.fault.CutFault.TheVariants.{NoMemory, TracesSpent}
use Rattle.desk_cut.specs.declared.numbers.CutNumbers.{CutNumbers}
use Rattle.desk_cut.specs.Sent.{due_in, sending_in}

-- what each takes of a file and of the sequences that a cut would send
abbrev pub loads_among : (holidays : List ℕ) → (day : ℕ) → List HeldSubmission → List plan.Batch
loads_among holidays day waiting = map plan_of (sendings holidays day waiting)

-- the sequences of each, after the last one
abbrev pub ranges_among : (holidays : List ℕ) → (day last : ℕ) → List HeldSubmission → List (ℕ × ℕ)
ranges_among holidays day last waiting = ranges_after last (sendings holidays day waiting)

-- The sent submissions with their sequences, and the lapsed ones. The cut may take the sequences if those of each range
-- are free.
pub record IsNumbered (holidays : List ℕ) (day last : ℕ) (waiting : List HeldSubmission) (n : CutNumbers) : Type 0 where
  pub sent : map due_in n.sent.items ≡ sendings holidays day waiting
  pub lapsed : n.lapsed.items ≡ lapses_among holidays day waiting
  pub loads : n.loads.items ≡ loads_among holidays day waiting
  pub ranges : n.ranges.items ≡ ranges_among holidays day last waiting
  pub batches : All IsBatch (loads_among holidays day waiting)
  pub apart : are_apart (ranges_among holidays day last waiting) ≡ true
  pub may : (sent : List SentSequence) → last_sequence sent ≡ last
      → may_send day sent (loads_among holidays day waiting)
      ≡ list_all (is_past day) (map (latest_settled sent) (ranges_of sent (loads_among holidays day waiting)))

-- Two batches would have a sequence in common; or memory was refused.
abbrev pub HasNoRanges : (day : ℕ) → (last : ℕ) → List Sending → CutFault → Type 0
HasNoRanges day last ss TracesSpent = (are_apart (ranges_after last ss) ≡ false) × ((sent : List SentSequence) → last_sequence sent ≡ last → may_send day sent (map plan_of ss) ≡ false)
HasNoRanges day last ss fault = fault ≡ NoMemory

-- ---- what is written of them

abbrev pub sendings_in : CutNumbers → List Sending
sendings_in n = map due_in n.sent.items

-- what is sent, each as a batch with its range of sequences
abbrev pub batches_of : List (ℕ × ℕ) → List Sending → List NumberedBatch
batches_of ranges ss = map batch_of (zip ranges ss)

abbrev pub batches_in : CutNumbers → List NumberedBatch
batches_in n = batches_of n.ranges.items (sendings_in n)

-- the entries of the batches, in the order of their sequences
abbrev pub entries_of : List NumberedBatch → List SentEntry
entries_of bs = flat_map batch_entries bs

-- the line of a submission; its total is what it takes of a file
abbrev pub line_by : Sending × plan.Batch → List Posting
line_by x =
    let cents = if is_debit_sending x.0 then x.1.debits else x.1.credits in
    if_any cents (cut_line x.0.company.id (is_debit_sending x.0) cents x.0.settled x.0.content.reference)

-- that line and its opposite
abbrev pub cut_lines : due.Sending → plan.Batch → List Posting
cut_lines s load = pairs (line_by (sending_in s, load))

-- the lines of what is sent, each with its opposite, by what each submission takes
abbrev pub postings_of : List Sending → List plan.Batch → List Posting
postings_of ss loads = pairs (flat_map line_by (zip ss loads))

-- the modifiers of the files, in order
abbrev pub modifiers_of : List File → List ℕ
modifiers_of files = map (λ f. f.modifier) files

-- where these are the files
abbrev pub write_of : Identity → List File → CutNumbers → CutWrite
write_of identity files n = record {
  sent = flat_map sent_rows files;
  lapsed = n.lapsed.items;
  entries = entries_of (batches_in n);
  postings = postings_of (sendings_in n) n.loads.items;
  files = map (file_row identity) files;
}

abbrev pub summary_of : ℕ → List File → CutNumbers → CutSummary
summary_of day files n = record {
  day = day;
  entries = length (entries_of (batches_in n));
  files = modifiers_of files;
  lapsed = length n.lapsed.items;
}

-- its files, on a day that already has this many, if these are their sizes
abbrev pub files_in : (day : ℕ) → (made : ℕ) → (sizes : List ℕ) → CutNumbers → List File
files_in day made sizes n = files_from day made (in_runs sizes (batches_in n))

-- what is written of them
abbrev pub write_in : Identity → (day : ℕ) → (made : ℕ) → (sizes : List ℕ) → CutNumbers → CutWrite
write_in identity day made sizes n = write_of identity (files_in day made sizes n) n

-- the operator's summary of them
abbrev pub summary_in : (day : ℕ) → (made : ℕ) → (sizes : List ℕ) → CutNumbers → CutSummary
summary_in day made sizes n = summary_of day (files_in day made sizes n) n
