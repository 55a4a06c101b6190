-- The answer to a cut, and its refusals.
use Rattle.std.specs.Prelude.{ℕ, ◌+◌, nat_le, List, length, map, count_by, sum_by, Result, Ok}
use Rattle.desk_plan.specs.Modifiers.{most_files}
use Rattle.desk_plan.specs.Reuse.{may_send}
use Rattle.desk_rules.specs.declared.refusals.refusal.Refusal.{Refusal}
use Rattle.desk_rules.specs.declared.refusals.refusal.Refusal.TheVariants.{NoDay, TracesSpent, ModifiersSpent}
use Rattle.desk_rules.specs.Chain.{◌>>=◌}
use Rattle.desk_history.specs.declared.operations.CutSummary.{CutSummary}
use Rattle.desk_history.specs.Words.{some_or, holds_or}
use Rattle.desk_history.specs.Accepted.{lapses_next}
use Rattle.desk_history.specs.Acceptance.{submissions}
use Rattle.desk_history.specs.Message.{Pair}
use Rattle.desk_history.specs.declared.sent_entry.SentEntry.{SentEntry}
use Rattle.desk_history.specs.Sendings.{Sending, entries_in, plan_of, sent_sequence}
use Rattle.desk_history.specs.Files.{cut_sendings, files, file_count, new_files}
use Rattle.desk_history.specs.History.{day, companies, part, sent_entries}

-- how many retries a cut after the history makes lapse
abbrev pub lapse_count : List ℕ → List Pair → ℕ
lapse_count odfi H = sum_by (λ k. count_by (lapses_next (part odfi H k.id)) (submissions (part odfi H k.id))) (companies H)

abbrev pub cut_summary : (odfi : List ℕ) → List Pair → (day : ℕ) → CutSummary
cut_summary odfi H d = record {
  day = d;
  entries = sum_by (λ s. length (entries_in s)) (cut_sendings odfi H);
  files = map (λ f. f.modifier) (new_files odfi H d);
  lapsed = lapse_count odfi H;
}

-- Whether a cut of the day may be made: each batch takes only sequences that are free once the batches before it are
-- sent, and the day has enough modifiers for its files.
abbrev pub cut_verdict : (day : ℕ) → List SentEntry → List Sending → (count : ℕ) → Result (Unit {0}) Refusal
cut_verdict d sent sendings count = do
  _ ← holds_or TracesSpent (may_send d (map sent_sequence sent) (map plan_of sendings))
  holds_or ModifiersSpent (nat_le count most_files)

-- what a cut answers, or the first of NoDay, TracesSpent and ModifiersSpent
abbrev pub cut : List ℕ → List Pair → Result CutSummary Refusal
cut odfi H = do
  d ← some_or NoDay (day H)
  _ ← cut_verdict d (sent_entries odfi H) (cut_sendings odfi H) (file_count d (files odfi H) + length (new_files odfi H d))
  Ok (cut_summary odfi H d)
