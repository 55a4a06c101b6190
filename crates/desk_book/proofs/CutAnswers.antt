-- The answer to a cut follows from the book.
use Rattle.std.proofs.Common.{◌≡◌, ℕ, ◌+◌, List, length, map, refl, sym, ap, ◌∙◌}
use Rattle.std.specs.Prelude.{sum_by, Option, Some, None, Result, Ok, Err}
use Rattle.desk_rules.specs.declared.refusals.refusal.Refusal.{Refusal}
use Rattle.desk_rules.specs.declared.refusals.refusal.Refusal.TheVariants.{NoDay}
use Rattle.desk_rules.specs.Chain.{◌>>=◌}
use Rattle.desk_history.specs.declared.identity.Identity.{Identity}
use Rattle.desk_history.specs.declared.operations.CutSummary.{CutSummary}
use Rattle.desk_book.specs.Book.{Book, book_of}
use Rattle.desk_history.specs.Cutting.{cut, cut_verdict, lapse_count as history_lapses}
use Rattle.desk_history.specs.Files.{File, runs_of, files_from, cut_sendings as history_sends}
use Rattle.desk_history.specs.History.{day}
use Rattle.desk_history.specs.Message.{Cut, Pair}
use Rattle.desk_history.specs.Operator.{answer_to, cut_answer, IsHistory}
use Rattle.desk_history.specs.Possible.{PossibleParts}
use Rattle.desk_book.specs.RowLaws.{RowSteps}
use Rattle.desk_history.specs.Sendings.{Sending, entries_in}
use Rattle.desk_history.specs.Words.{some_or}
use Rattle.desk_book.specs.Reads.{last_sequence}
use Rattle.desk_book.specs.OnCut.{batches_after, CutFacts, cut_sendings, cut_summary, cut_facts, cut_on_day, cut_on, summary_of, cut_answer_on}
use Rattle.desk_book.proofs.CutSends.{same_sends, same_lapses}
use Rattle.desk_book.proofs.OperatorSteps.{passed}

-- ---- the facts of a cut that is made

-- their files
abbrev files_by : Book → ℕ → List Sending → List File
files_by b d ss = files_from d (b.files_on d) (runs_of (batches_after (last_sequence b) ss))

-- may the book send these on the day, in these files?
abbrev may_cut : Book → ℕ → List Sending → Result (Unit {0}) Refusal
may_cut b d ss = cut_verdict d b.sent ss (b.files_on d + length (files_by b d ss))

-- a cut that is made has a day, and reads its facts
pub facts_of_cut : (b : Book) (x : CutFacts) → cut_on b ≡ Ok x → (d : ℕ) × (b.day ≡ Some d) × (cut_facts b d ≡ x)
facts_of_cut b x made = at b.day refl made where
  at : (o : Option ℕ) → b.day ≡ o → (some_or NoDay o >>= cut_on_day b) ≡ Ok x → (d : ℕ) × (b.day ≡ Some d) × (cut_facts b d ≡ x)
  at (Some d) on h = (d, on, passed (may_cut b d (cut_sendings (cut_facts b d))) (cut_facts b d) x h)
  at None on h = cc

-- ---- the answer

-- the outcome of a cut of the book that sends these submissions and lets this many lapse
abbrev verdict_by : Book → ℕ → List Sending → ℕ → Result CutSummary Refusal
verdict_by b d ss lapsed =
    may_cut b d ss >>= (λ _.
    Ok (record { day = d; entries = sum_by (λ s. length (entries_in s)) ss; files = map (λ f. f.modifier) (files_by b d ss); lapsed = lapsed }))

-- the result comes after the same check
done_behind : {A : Type 0} (may : Result A Refusal) (x : CutFacts) → summary_of (may >>= (λ _. Ok x)) ≡ (may >>= (λ _. Ok (cut_summary x)))
done_behind (Ok _) x = refl
done_behind (Err why) x = refl

module _ (steps : RowSteps) (possible : PossibleParts) where
  -- a cut after the history has the outcome of a cut of its book
  same_cut : (identity : Identity) (key : List ℕ) (H : List Pair) → IsHistory identity H → cut identity.odfi H ≡ summary_of (cut_on (book_of identity key H))
  same_cut identity key H is = at (day H) refl where
    b : Book
    b = book_of identity key H

    at : (o : Option ℕ) → day H ≡ o → (some_or NoDay o >>= (λ d. verdict_by b d (history_sends identity.odfi H) (history_lapses identity.odfi H))) ≡ summary_of (some_or NoDay o >>= cut_on_day b)
    at None on = refl
    at (Some d) on =
        let ss = cut_sendings (cut_facts b d) in
        sym (done_behind (may_cut b d ss) (cut_facts b d)
        ∙ (λ i. verdict_by b d (same_sends steps possible identity key H d is on i) (same_lapses steps possible identity key H d is on i)))

  pub same_answer : (identity : Identity) (key : List ℕ) (H : List Pair) → IsHistory identity H → answer_to identity H Cut ≡ cut_answer_on (book_of identity key H)
  same_answer identity key H is = ap cut_answer (same_cut identity key H is)
