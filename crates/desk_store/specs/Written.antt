-- The values that the desk gives a store to write.
use Rattle.std.specs.Prelude.{◌≡◌, ℕ}
use Rattle.desk_store.specs.declared.store.CutRows.{CutRows}
use Rattle.desk_store.specs.declared.store.IntakeRows.{IntakeRows}
use Rattle.desk_book.specs.Reads.{sent_count}
use Rattle.desk_book.specs.Steps.{CutWrite, IntakeWrite, Step, commit_cut, commit_intake}

abbrev pub cut_rows : CutRows → CutWrite
cut_rows x = record { sent = x.sent.now; lapsed = x.lapsed.now; entries = x.entries.now; postings = x.postings.now; files = x.files.now }

-- a cut, given the number of entries sent before it
abbrev pub commit_cut_after : (before : ℕ) → CutWrite → Step
commit_cut_after before x = record { Admits = λ b. (commit_cut x).Admits b × (before ≡ sent_count b); after = (commit_cut x).after }

-- the step of a cut
abbrev pub cut_step : CutRows → Step
cut_step x = commit_cut_after x.before (cut_rows x)

abbrev pub intake_rows : IntakeRows → IntakeWrite
intake_rows x = record { returned = x.returned.now; changed = x.changed.now; suspense = x.suspense.now; postings = x.postings.now; file = x.file }

-- the step of an incoming file
abbrev pub intake_step : IntakeRows → Step
intake_step x = commit_intake (intake_rows x)
