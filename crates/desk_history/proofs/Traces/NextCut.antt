-- The next cut makes as many files as the status has, with as many records.
use Rattle.std.proofs.Common.{◌≡◌, ◌<◌, ℕ, suc, ◌+◌, Bool, true, false, List, [], ◌∷◌, ◌++◌, length, map, zip, drop, refl, sym, ap, ◌∙◌, arith, length-append, leb-false, ◌==◌, nat_le, filter, sum_by, Option, Some, None, unwrap_or, Ok, Err}
use Rattle.std.specs.List.{enumerate_from, flat_map}
use Rattle.std.proofs.lemmas.List.{length-map}
use Rattle.std.proofs.lemmas.List.Sums.{length-filter, sum_by-append, sum_by-cons}
use Rattle.desk_plan.specs.declared.batch.Batch as plan
use Rattle.desk_plan.specs.Files.{division}
use Rattle.desk_plan.specs.Laws.{OneDivision}
use Rattle.desk_plan.specs.Modifiers.{modifier_at, most_files}
use Rattle.desk_plan.specs.Runs.{flat, in_runs}
use Rattle.desk_plan.specs.Sequences.{last_sequence, range_after, ranges}
use Rattle.desk_plan.proofs.Runs.{flat-in_runs}
use Rattle.desk_rules.specs.declared.bodies.submission.Entry.{Entry}
use Rattle.desk_rules.specs.declared.refusals.refusal.Refusal.TheVariants.{NoDay, TracesSpent, ModifiersSpent}
use Rattle.desk_rules.specs.Chain.{◌>>=◌}
use Rattle.desk_history.specs.declared.answer.Answer.{Answer}
use Rattle.desk_history.specs.declared.answer.Answer.TheVariants as answers
use Rattle.desk_history.specs.declared.answer.Outcome.TheVariants as done
use Rattle.desk_history.specs.declared.identity.Identity.{Identity}
use Rattle.desk_history.specs.declared.operations.CutSummary.{CutSummary}
use Rattle.desk_history.specs.DayFiles.{DueOfStatus, MakesDue, file_records}
use Rattle.desk_history.specs.Files.{File, cut_batches, cut_sendings, file_count, files, files_after, files_from, new_files, runs_of}
use Rattle.desk_history.specs.History.{day, sent_entries}
use Rattle.desk_history.specs.Message.{Cut, Pair, is_accepted}
use Rattle.desk_history.specs.Operator.{IsHistory, answer_to, cut_answer, next_pair}
use Rattle.desk_history.specs.Reply.{answer_of}
use Rattle.desk_history.specs.Sendings.{NumberedBatch, Sending, batch_entries, batch_of, entries_in, plan_of, record_count, records_of, sent_entry, sent_sequence}
use Rattle.desk_history.specs.SentLaws.{IsAcceptedCut, IsCutOn}
use Rattle.desk_history.specs.Status.{due_files, due_sendings, records_in, status}
use Rattle.desk_plan.specs.Reuse.{may_send}
use Rattle.desk_history.specs.Cutting.{cut_summary}
use Rattle.desk_history.specs.Words.{some_or, holds_or}
use Rattle.desk_history.proofs.Traces.AcceptedCuts.{accepted_cuts}
use Rattle.desk_history.proofs.Traces.FilesOfDays.{as_many, files_of_status}

-- ---- runs and files

-- the runs of batches are the batches
pub flat_runs : OneDivision → (bs : List NumberedBatch) → flat (runs_of bs) ≡ bs
flat_runs law bs =
    let plans : List plan.Batch = map (λ b. plan_of b.sending) bs in
    flat-in_runs (map length (division plans)) bs (law.count plans ∙ length-map bs (λ b. plan_of b.sending))

pub length-in_runs : {A : Type 0} (sizes : List ℕ) (xs : List A) → length (in_runs sizes xs) ≡ length sizes
length-in_runs [] xs = refl
length-in_runs (n ∷ sizes) xs = ap suc (length-in_runs sizes (drop n xs))

-- what batches take of a file is what was sent in them takes
planned : (last : ℕ) (ss : List Sending) → map (λ b. plan_of b.sending) (map batch_of (zip (ranges last (map (λ b. b.entries) (map plan_of ss))) ss)) ≡ map plan_of ss
planned last [] = refl
planned last (s ∷ ss) = ap (λ (more : List plan.Batch). plan_of s ∷ more) (planned (range_after last (length (entries_in s))).1 ss)

-- a cut makes as many files as the division of what it sends has
pub files_divided : (odfi : List ℕ) (H : List Pair) (d : ℕ) → length (new_files odfi H d) ≡ length (division (map plan_of (cut_sendings odfi H)))
files_divided odfi H d =
    let bs : List NumberedBatch = cut_batches odfi H in
    let runs : List (List plan.Batch) = division (map (λ b. plan_of b.sending) bs) in
    as_many d (file_count d (files odfi H)) (runs_of bs)
    ∙ length-in_runs (map length runs) bs
    ∙ length-map runs length
    ∙ ap (λ (loads : List plan.Batch). length (division loads)) (planned (last_sequence (map sent_sequence (sent_entries odfi H))) (cut_sendings odfi H))

-- ---- records

abbrev batch_records : NumberedBatch → ℕ
batch_records b = record_count b.sending.content

-- of the entries of a batch
of_entries : (b : NumberedBatch) (n : ℕ) (es : List Entry)
    → sum_by (λ e. records_of e.entry.info) (map (λ x. sent_entry b x.0 x.1) (enumerate_from n es)) ≡ sum_by (λ e. records_of e.info) es
of_entries b n [] = refl
of_entries b n (e ∷ es) =
    sum_by-cons (λ e. records_of e.entry.info) (sent_entry b n e) (map (λ x. sent_entry b x.0 x.1) (enumerate_from (n + 1) es))
    ∙ ap (λ (more : ℕ). records_of e.info + more) (of_entries b (n + 1) es)
    ∙ sym (sum_by-cons (λ (e : Entry). records_of e.info) e es)

-- of some batches
of_batches : (bs : List NumberedBatch) → sum_by (λ e. records_of e.entry.info) (flat_map batch_entries bs) ≡ sum_by batch_records bs
of_batches [] = refl
of_batches (b ∷ bs) =
    sum_by-append (λ e. records_of e.entry.info) (batch_entries b) (flat_map batch_entries bs)
    ∙ (λ i. of_entries b 1 (entries_in b.sending) i + of_batches bs i)
    ∙ sym (sum_by-cons batch_records b bs)

-- of files
of_files : (d made : ℕ) (runs : List (List NumberedBatch)) → sum_by file_records (files_from d made runs) ≡ sum_by batch_records (flat runs)
of_files d made [] = refl
of_files d made (run ∷ runs) =
    let f : File = record { day = d; modifier = modifier_at made; batches = run } in
    sum_by-cons file_records f (files_from d (made + 1) runs)
    ∙ (λ i. of_batches run i + of_files d (made + 1) runs i)
    ∙ sym (sum_by-append batch_records run (flat runs))

-- of what is sent, in batches
of_sendings : (last : ℕ) (ss : List Sending)
    → sum_by batch_records (map batch_of (zip (ranges last (map (λ b. b.entries) (map plan_of ss))) ss)) ≡ records_in (map (λ s. s.content) ss)
of_sendings last [] = refl
of_sendings last (s ∷ ss) =
    let next : ℕ = (range_after last (length (entries_in s))).1 in
    sum_by-cons batch_records (batch_of (range_after last (length (entries_in s)), s)) (map batch_of (zip (ranges next (map (λ b. b.entries) (map plan_of ss))) ss))
    ∙ ap (λ (more : ℕ). record_count s.content + more) (of_sendings next ss)
    ∙ sym (sum_by-cons record_count s.content (map (λ s. s.content) ss))

-- ---- a cut that is made

abbrev modifiers_answered : Answer → List ℕ
modifiers_answered (answers.Done (done.Cut made)) = made.files
modifiers_answered _ = []

module _ (law : OneDivision) (identity : Identity) (H : List Pair) (history : IsHistory identity H) where
  abbrev odfi : List ℕ
  odfi = identity.odfi

  -- the status lists the files of the day
  listed : (d : ℕ) → day H ≡ Some d → length (status odfi H).files ≡ file_count d (files odfi H)
  listed d on =
      ap length (files_of_status identity H history d on)
      ∙ length-map (filter (λ f. f.day == d) (files odfi H)) (λ f. f.modifier)
      ∙ length-filter (λ f. f.day == d) (files odfi H)

  makes : (made : CutSummary) → answer_to identity H Cut ≡ answers.Done (done.Cut made) → MakesDue identity H made (next_pair identity H Cut ∷ H)
  makes made is =
      let accepted : IsAcceptedCut identity H (next_pair identity H Cut) = record { history = (λ ok. refl, history); message = refl; accepted = ap is_accepted is } in
      let cut = accepted_cuts identity H (next_pair identity H Cut) accepted in
      by cut.0 cut.1
    where
      by : (d : ℕ) → IsCutOn identity H (next_pair identity H Cut) d → MakesDue identity H made (next_pair identity H Cut ∷ H)
      by d cut =
          let before : List File = files odfi H in
          let new : List File = new_files odfi H d in
          let bs : List NumberedBatch = cut_batches odfi H in
          let told : (status odfi H).due_files ≡ length new = ap (λ (o : Option ℕ). length (due_files o odfi H)) cut.on in
          let records_told : (status odfi H).due_records ≡ records_in (map (λ s. s.content) (cut_sendings odfi H)) = ap (λ (o : Option ℕ). records_in (map (λ s. s.content) (due_sendings o odfi H))) cut.on in
          let after : files odfi (next_pair identity H Cut ∷ H) ≡ before ++ new = λ i. files_after (is_accepted (is i)) Cut (unwrap_or (cut.on i) 0) bs before in
          let list = listed d cut.on in
          let fit = cut.modifiers in
          record {
            answered = ap (λ (a : Answer). length (modifiers_answered a)) (sym is ∙ cut.answer) ∙ length-map new (λ f. f.modifier) ∙ sym told;
            files_more = ap length after ∙ length-append before new ∙ ap (λ (n : ℕ). length before + n) (sym told);
            records_more = ap (sum_by file_records) after
                ∙ sum_by-append file_records before new
                ∙ ap (λ (n : ℕ). sum_by file_records before + n)
                (of_files d (file_count d before) (runs_of bs)
                ∙ ap (sum_by batch_records) (flat_runs law bs)
                ∙ of_sendings (last_sequence (map sent_sequence (sent_entries odfi H))) (cut_sendings odfi H)
                ∙ sym records_told);
            room = omega (arith, list, told, fit);
          }

  -- ---- a cut that is refused

  -- the day on which a cut has no room
  record IsFull (o : Option ℕ) (room : ℕ → Bool) : Type 0 where
    on : ℕ
    is : o ≡ Some on
    full : room on ≡ false

  full_from : (o : Option ℕ) (free room : ℕ → Bool) (made : ℕ → CutSummary)
      → cut_answer (some_or NoDay o >>= λ d. (holds_or TracesSpent (free d) >>= λ _. holds_or ModifiersSpent (room d)) >>= λ _. Ok (made d)) ≡ answer_of (Err ModifiersSpent)
      → IsFull o room
  full_from None free room made is = cc
  full_from (Some d) free room made is = by (free d) (room d) refl is where
    by : (f r : Bool) → room d ≡ r
        → cut_answer ((holds_or TracesSpent f >>= λ _. holds_or ModifiersSpent r) >>= λ _. Ok (made d)) ≡ answer_of (Err ModifiersSpent)
        → IsFull (Some d) room
    by false r at is = cc
    by true true at is = cc
    by true false at is = record { on = d; is = refl; full = at }

  spends : answer_to identity H Cut ≡ answer_of (Err ModifiersSpent) → most_files < length (status odfi H).files + (status odfi H).due_files
  spends is = by (full_from (day H) free room made is) where
    free : ℕ → Bool
    free d = may_send d (map sent_sequence (sent_entries odfi H)) (map plan_of (cut_sendings odfi H))

    room : ℕ → Bool
    room d = nat_le (file_count d (files odfi H) + length (new_files odfi H d)) most_files

    made : ℕ → CutSummary
    made d = cut_summary odfi H d

    by : IsFull (day H) room → most_files < length (status odfi H).files + (status odfi H).due_files
    by full =
        let told : (status odfi H).due_files ≡ length (new_files odfi H full.on) = ap (λ (o : Option ℕ). length (due_files o odfi H)) full.is in
        let list = listed full.on full.is in
        let more = leb-false _ _ full.full in
        omega (arith, list, told, more)

pub due_of_status : OneDivision → DueOfStatus
due_of_status law = record {
  made = λ identity H made history is. makes law identity H history made is;
  spent = λ identity H history is. spends law identity H history is;
}
