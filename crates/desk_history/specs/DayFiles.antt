-- The files of a day, by their modifiers, and those of the next cut.
use Rattle.std.specs.Prelude.{◌≡◌, ℕ, ◌+◌, ◌<◌, ◌≤◌, ◌==◌, List, ◌∷◌, length, map, filter, sum_by, Some, Err}
use Rattle.std.specs.List.{flat_map}
use Rattle.desk_plan.specs.Modifiers.{most_files}
use Rattle.desk_rules.specs.declared.refusals.refusal.Refusal.TheVariants.{ModifiersSpent}
use Rattle.desk_history.specs.declared.answer.Answer.TheVariants.{Done}
use Rattle.desk_history.specs.declared.answer.Outcome.TheVariants as done
use Rattle.desk_history.specs.declared.operations.CutSummary.{CutSummary}
use Rattle.desk_history.specs.declared.identity.Identity.{Identity}
use Rattle.desk_history.specs.Files.{File, files}
use Rattle.desk_history.specs.History.{day}
use Rattle.desk_history.specs.Message.{Cut, Pair}
use Rattle.desk_history.specs.Operator.{IsHistory, answer_to, next_pair}
use Rattle.desk_history.specs.Reply.{answer_of}
use Rattle.desk_history.specs.Sendings.{batch_entries, records_of}
use Rattle.desk_history.specs.Status.{status}

-- the modifiers of these files that are of a day, in the order in which they were made
abbrev pub modifiers_among : (day : ℕ) → List File → List ℕ
modifiers_among d fs = map (λ f. f.modifier) (filter (λ f. f.day == d) fs)

-- the status lists the modifiers of the desk day's files, and no others
abbrev pub FilesOfStatus : Type 0
FilesOfStatus = (identity : Identity) (H : List Pair) → IsHistory identity H → (d : ℕ) → day H ≡ Some d → (status identity.odfi H).files ≡ modifiers_among d (files identity.odfi H)

-- the entry and addenda records of a file
abbrev pub file_records : File → ℕ
file_records f = sum_by (λ e. records_of e.entry.info) (flat_map batch_entries f.batches)

-- A cut makes as many files as the status before it has, with as many records, and the day has modifiers for them besides
-- its earlier files.
pub record MakesDue (identity : Identity) (H : List Pair) (made : CutSummary) (after : List Pair) : Type 0 where
  pub answered : length made.files ≡ (status identity.odfi H).due_files
  pub files_more : length (files identity.odfi after) ≡ length (files identity.odfi H) + (status identity.odfi H).due_files
  pub records_more : sum_by file_records (files identity.odfi after) ≡ sum_by file_records (files identity.odfi H) + (status identity.odfi H).due_records
  pub room : length (status identity.odfi H).files + (status identity.odfi H).due_files ≤ most_files

-- The next cut makes what the status has. If it is refused for want of modifiers, the files of the day and those of the
-- status are more than a day may have.
pub record DueOfStatus : Type 0 where
  pub made : (identity : Identity) (H : List Pair) (made : CutSummary) → IsHistory identity H
      → answer_to identity H Cut ≡ Done (done.Cut made) → MakesDue identity H made (next_pair identity H Cut ∷ H)
  pub spent : (identity : Identity) (H : List Pair) → IsHistory identity H
      → answer_to identity H Cut ≡ answer_of (Err ModifiersSpent) → most_files < length (status identity.odfi H).files + (status identity.odfi H).due_files
