-- Sent entries and their traces.
use Rattle.std.specs.Prelude.{◌≡◌, ◌≤◌, ℕ, ◌+◌, ◌-◌, true, List, ◌∷◌, ◌++◌, length, map, find, All, Some, None, slice_get}
use Rattle.ach_fields.specs.Routing.{dfi_of}
use Rattle.ach_fields.specs.Trace.{trace_text}
use Rattle.ach_files.specs.declared.facts.ItemFacts.{ItemFacts}
use Rattle.desk_plan.specs.Modifiers.{most_files}
use Rattle.desk_plan.specs.Reuse.{may_send}
use Rattle.ach_fields.specs.Trace.{most_sequence}
use Rattle.desk_history.specs.declared.answer.Answer.TheVariants.{Done}
use Rattle.desk_history.specs.declared.answer.Outcome.TheVariants as done
use Rattle.desk_history.specs.declared.identity.Identity.{Identity}
use Rattle.desk_history.specs.declared.sent_entry.SentEntry.{SentEntry}
use Rattle.desk_rules.specs.LimitChecks.{is_debit}
use Rattle.desk_history.specs.Part.{Event}
use Rattle.desk_history.specs.Accepted.{AcceptedSubmission, settlement_day}
use Rattle.desk_history.specs.Reports.{submission_under}
use Rattle.desk_history.specs.Message.{Cut, Pair, is_accepted}
use Rattle.desk_history.specs.Sendings.{sent_sequence, plan_of}
use Rattle.desk_history.specs.Resolve.{has_trace, named_entry}
use Rattle.desk_history.specs.History.{day, part, sent_entries}
use Rattle.desk_history.specs.Files.{cut_sendings, files, file_count, new_files}
use Rattle.desk_history.specs.Cutting.{cut_summary}
use Rattle.desk_history.specs.Operator.{IsHistory}

-- what was sent is an entry of an accepted submission of its company
pub record IsEntryOf (P : List Event) (e : SentEntry) : Type 0 where
  pub accepted : AcceptedSubmission
  pub called : submission_under P e.reference ≡ Some accepted
  pub order : e.order ≡ accepted.order
  pub settles : settlement_day P accepted ≡ Some e.settled
  pub from : 1 ≤ e.index
  pub at : slice_get accepted.content.entries (e.index - 1) ≡ Some e.entry
  pub sec : e.sec ≡ accepted.content.sec
  pub debit : e.debit ≡ is_debit accepted.content.direction

abbrev pub SentAreAccepted : Type 0
SentAreAccepted = (odfi : List ℕ) (H : List Pair) → All (λ e. IsEntryOf (part odfi H e.company) e) (sent_entries odfi H)

-- it is in the list, and no younger entry, which comes before it, has its trace
pub record IsYoungest (odfi trace : List ℕ) (sent_entries : List SentEntry) (e : SentEntry) : Type 0 where
  pub younger : List SentEntry
  pub older : List SentEntry
  pub among : sent_entries ≡ younger ++ e ∷ older
  pub has : has_trace odfi trace e ≡ true
  pub alone : find (has_trace odfi trace) younger ≡ None

-- a trace names the youngest entry that has it, and no other
pub record TracesName : Type 0 where
  pub youngest : (odfi : List ℕ) (sent_entries : List SentEntry) (item : ItemFacts) (e : SentEntry)
      → named_entry odfi sent_entries item ≡ Some e → IsYoungest odfi item.original_trace sent_entries e
  pub only : (odfi : List ℕ) (sent_entries : List SentEntry) (item : ItemFacts) (e : SentEntry)
      → IsYoungest odfi item.original_trace sent_entries e → named_entry odfi sent_entries item ≡ Some e

-- a cut that was accepted
pub record IsAcceptedCut (identity : Identity) (H : List Pair) (x : Pair) : Type 0 where
  pub history : IsHistory identity (x ∷ H)
  pub message : x.message ≡ Cut
  pub accepted : is_accepted x.answer ≡ true

-- what it answered, and what was so: each batch took only sequences that could be used when the batches
-- before it were sent, and the day had modifiers for its files
pub record IsCutOn (identity : Identity) (H : List Pair) (x : Pair) (d : ℕ) : Type 0 where
  pub on : day H ≡ Some d
  pub free : may_send d (map sent_sequence (sent_entries identity.odfi H)) (map plan_of (cut_sendings identity.odfi H)) ≡ true
  pub modifiers : file_count d (files identity.odfi H) + length (new_files identity.odfi H d) ≤ most_files
  pub answer : x.answer ≡ Done (done.Cut (cut_summary identity.odfi H d))

abbrev pub AcceptedCuts : Type 0
AcceptedCuts = (identity : Identity) (H : List Pair) (x : Pair) → IsAcceptedCut identity H x → (d : ℕ) × IsCutOn identity H x d

-- sequences have one to seven digits, and the trace of each entry of a new cut names it and no other
pub record TracesOfCuts : Type 0 where
  pub within : (odfi : List ℕ) (H : List Pair) → All (λ e. (1 ≤ e.sequence) × (e.sequence ≤ most_sequence)) (sent_entries odfi H)
  pub named : (identity : Identity) (H : List Pair) (x : Pair) (fresh : List SentEntry) → IsAcceptedCut identity H x
      → sent_entries identity.odfi (x ∷ H) ≡ fresh ++ sent_entries identity.odfi H
      → All (λ e. find (has_trace identity.odfi (trace_text (dfi_of identity.odfi) e.sequence)) (sent_entries identity.odfi (x ∷ H)) ≡ Some e) fresh
