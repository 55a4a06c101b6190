-- The outcome of planning a cut.
use Rattle.std.specs.Prelude.{◌≡◌, ℕ, ◌+◌, Bool, true, false, nat_le, List, map, length, Option, Result, Ok, Err}
use Rattle.desk_plan.specs.Modifiers.{most_files}
use Rattle.std.specs.List.{list_all}
use Rattle.desk_plan.specs.Reuse.{is_past, may_send, latest_settled}
use Rattle.desk_plan.specs.Sequences.{SentSequence, last_sequence, ranges_of}
use Rattle.desk_history.specs.declared.identity.Identity.{Identity}
use Rattle.desk_history.specs.Sendings.{plan_of}
use Rattle.desk_book.specs.declared.held_submission.HeldSubmission.{HeldSubmission}
use Rattle.desk_book.specs.Steps.{CutWrite}
use Rattle.desk_book.specs.OnCut.{CutFacts, cut_sendings, files, cut_write, cut_summary}
use Rattle.desk_cut.specs.declared.fault.CutFault.{CutFault}
use Rattle.desk_cut.specs.declared.fault.CutFault.TheVariants.{TracesSpent, ModifiersSpent, DaysSpent, NoMemory}
use Rattle.desk_cut.specs.declared.numbers.NumberedCut.{NumberedCut}
use Rattle.desk_cut.specs.declared.plan.CutPlan.{CutPlan}
use Rattle.desk_cut.specs.Faults.{settles_beyond}

-- the cut of these values
abbrev pub cut_of : Identity → (day : ℕ) → (holidays : List ℕ) → (last : ℕ) → (made : ℕ) → List HeldSubmission → CutFacts
cut_of identity day holidays last made waiting = record { identity = identity; day = day; holidays = holidays; last = last; made = made; waiting = waiting }

-- the numbered cut, on a day that has this many files
abbrev pub cut_in : Identity → NumberedCut → (made : ℕ) → CutFacts
cut_in identity n made = cut_of identity n.day n.holidays.now n.last made n.waiting.now

-- The plan's inputs agree with the entries sent before: they end with the last sequence, and for each range that a
-- batch takes this is the latest settlement day of a youngest entry with one of its sequences.
pub record IsTold (x : CutFacts) (latest : List (Option ℕ)) (sent : List SentSequence) : Type 0 where
  pub last : last_sequence sent ≡ x.last
  pub settled : latest ≡ map (latest_settled sent) (ranges_of sent (map plan_of (cut_sendings x)))

-- whether the day has modifiers for the files
abbrev pub has_modifiers : CutFacts → Bool
has_modifiers x = nat_le (x.made + length (files x)) most_files

-- what the plan has the store write
abbrev pub plan_write : CutPlan → CutWrite
plan_write p = record { sent = p.sent.items; lapsed = p.lapsed.items; entries = p.entries.items; postings = p.postings.items; files = p.files.items }

-- a plan has all that the cut writes, and what it answers
pub record IsPlan (x : CutFacts) (p : CutPlan) : Type 0 where
  pub write : plan_write p ≡ cut_write x
  pub done : p.done ≡ cut_summary x

-- whether each of these latest settlements was long enough ago: then the cut may take its sequences, for all sent
-- entries that agree with the inputs; else it may not
pub record MayTake (x : CutFacts) (latest : List (Option ℕ)) (may : Bool) : Type 0 where
  pub past : list_all (is_past x.day) latest ≡ may
  pub take : (sent : List SentSequence) → IsTold x latest sent → may_send x.day sent (map plan_of (cut_sendings x)) ≡ may

-- The plan of a cut that is not refused, or the first of TracesSpent, ModifiersSpent and DaysSpent; or
-- memory was refused, which does not hide TracesSpent.
abbrev pub Plans : CutFacts → List (Option ℕ) → Result CutPlan CutFault → Type 0
Plans x latest (Ok p) = MayTake x latest true × (has_modifiers x ≡ true) × IsPlan x p
Plans x latest (Err TracesSpent) = MayTake x latest false
Plans x latest (Err ModifiersSpent) = MayTake x latest true × (has_modifiers x ≡ false)
Plans x latest (Err DaysSpent) = MayTake x latest true × (has_modifiers x ≡ true) × (settles_beyond (cut_sendings x) ≡ true)
Plans x latest (Err NoMemory) = MayTake x latest true
