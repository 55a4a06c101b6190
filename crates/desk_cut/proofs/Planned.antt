-- The rows written for the numbered submissions of a cut are those that the cut writes.
use Rattle.std.proofs.Common.{◌≡◌, ◌∙◌, ℕ, ◌+◌, suc, Bool, true, false, List, [], ◌∷◌, ◌++◌, map, zip, length, refl, sym, ap, length-append}
use Rattle.std.specs.Prelude.{sum, sum_by, nat_le, if◌then◌else◌, Option, Some, None, Err}
use Rattle.std.specs.List.{flat_map, list_all, enumerate_from}
use Rattle.std.proofs.lemmas.List.{length-map}
use Rattle.std.proofs.lemmas.List.FromFn.{length-enumerate_from}
use Rattle.std.proofs.lemmas.List.Sums.{sum_by-cons}
use Rattle.std.proofs.lemmas.Slice.Zip.{seconds-zip}
use Rattle.desk_accounts.specs.Laws.{pairs}
use Rattle.desk_accounts.specs.Posting.{cut_line}
use Rattle.desk_plan.specs.declared.batch.Batch as plan
use Rattle.desk_plan.specs.Files.{division}
use Rattle.desk_plan.specs.Modifiers.{most_files}
use Rattle.desk_plan.specs.Reuse.{is_past}
use Rattle.desk_plan.specs.Runs.{in_runs}
use Rattle.desk_plan.specs.Sequences.{ranges, range_after}
use Rattle.desk_rules.specs.Size.{total_of}
use Rattle.desk_history.specs.Files.{files_from}
use Rattle.desk_history.specs.Postings.{if_any, sending_line}
use Rattle.desk_history.specs.Sendings.{Sending, NumberedBatch, is_debit_sending, plan_of, batch_of, entries_in, batch_entries}
use Rattle.desk_history.proofs.Traces.NextCut.{length-in_runs}
use Rattle.desk_book.specs.OnCut.{CutFacts, cut_sendings, batches, files, ranges_after, sent_rows, file_row}
use Rattle.desk_cut.specs.declared.numbers.CutNumbers.{CutNumbers}
use Rattle.desk_cut.specs.declared.fault.CutFault.{CutFault}
use Rattle.desk_cut.specs.declared.fault.CutFault.TheVariants.{TracesSpent, ModifiersSpent, DaysSpent, NoMemory}
use Rattle.desk_cut.specs.declared.plan.CutPlan.{CutPlan}
use Rattle.desk_cut.specs.Numbers.{IsNumbered, line_by, batches_in, write_of, summary_of}
use Rattle.desk_cut.specs.Sent.{due_in}
use Rattle.desk_cut.specs.Faults.{IsUnsettled, settles_beyond}
use Rattle.desk_cut.specs.Plan.{MayTake, IsPlan, Plans, has_modifiers, plan_write}

-- these are the submissions of a cut, with their sequences
abbrev pub IsOf : CutFacts → CutNumbers → Type 0
IsOf x n = IsNumbered x.holidays x.day x.last x.waiting n

-- ---- lengths

length-ranges : (last : ℕ) (counts : List ℕ) → length (ranges last counts) ≡ length counts
length-ranges last [] = refl
length-ranges last (n ∷ counts) = ap suc (length-ranges (range_after last n).1 counts)

-- each submission has a range
length-ranges_after : (last : ℕ) (ss : List Sending) → length ss ≡ length (ranges_after last ss)
length-ranges_after last ss =
    sym (length-ranges last (map (λ (b : plan.Batch). b.entries) (map plan_of ss)) ∙ length-map (map plan_of ss) (λ (b : plan.Batch). b.entries) ∙ length-map ss plan_of)

-- ---- the batches

sendings_are : (x : CutFacts) → map (λ b. b.sending) (batches x) ≡ cut_sendings x
sendings_are x = of_pairs (zip (ranges_after x.last (cut_sendings x)) (cut_sendings x)) ∙ seconds-zip (ranges_after x.last (cut_sendings x)) (cut_sendings x) (length-ranges_after x.last (cut_sendings x)) where
  of_pairs : (ps : List ((ℕ × ℕ) × Sending)) → map (λ b. b.sending) (map batch_of ps) ≡ map (λ p. p.1) ps
  of_pairs [] = refl
  of_pairs (p ∷ ps) = ap (λ (l : List Sending). p.1 ∷ l) (of_pairs ps)

pub batches_are : (x : CutFacts) (n : CutNumbers) → IsOf x n → batches_in n ≡ batches x
batches_are x n h = λ i. map batch_of (zip (h.ranges i) (h.sent i))

-- what each batch takes is what its submission takes
pub loads_are : (x : CutFacts) (n : CutNumbers) → IsOf x n → n.loads.items ≡ map (λ b. plan_of b.sending) (batches x)
loads_are x n h = h.loads ∙ ap (λ (ss : List Sending). map plan_of ss) (sym (sendings_are x)) ∙ sym (of_batches (batches x)) where
  of_batches : (bs : List NumberedBatch) → map (λ b. plan_of b.sending) bs ≡ map plan_of (map (λ b. b.sending) bs)
  of_batches [] = refl
  of_batches (b ∷ bs) = ap (λ (l : List plan.Batch). plan_of b.sending ∷ l) (of_batches bs)

entries_counted : (bs : List NumberedBatch) → length (flat_map batch_entries bs) ≡ sum_by (λ s. length (entries_in s)) (map (λ b. b.sending) bs)
entries_counted [] = refl
entries_counted (b ∷ bs) =
    let here : length (batch_entries b) ≡ length (entries_in b.sending) = simp (length-map, length-enumerate_from) in
    length-append (batch_entries b) (flat_map batch_entries bs)
    ∙ (λ i. here i + entries_counted bs i)
    ∙ sym (sum_by-cons (λ (s : Sending). length (entries_in s)) b.sending (map (λ (b : NumberedBatch). b.sending) bs))

all_counted : (x : CutFacts) (n : CutNumbers) → IsOf x n → length (flat_map batch_entries (batches_in n)) ≡ sum_by (λ s. length (entries_in s)) (cut_sendings x)
all_counted x n h =
    ap (λ (bs : List NumberedBatch). length (flat_map batch_entries bs)) (batches_are x n h)
    ∙ entries_counted (batches x)
    ∙ ap (λ (ss : List Sending). sum_by (λ s. length (entries_in s)) ss) (sendings_are x)

-- there are as many as the sizes of the files say
pub whole : (x : CutFacts) (n : CutNumbers) (sizes : List ℕ) → IsOf x n → sum sizes ≡ length n.loads.items → sum sizes ≡ length (batches_in n)
whole x n sizes h is =
    is ∙ ap length (loads_are x n h) ∙ length-map (batches x) (λ (b : NumberedBatch). plan_of b.sending) ∙ ap length (sym (batches_are x n h))

-- ---- the files

files_are : (x : CutFacts) (n : CutNumbers) (sizes : List ℕ) → IsOf x n → sizes ≡ map length (division n.loads.items)
    → files_from x.day x.made (in_runs sizes (batches_in n)) ≡ files x
files_are x n sizes h is =
    let same : sizes ≡ map length (division (map (λ (b : NumberedBatch). plan_of b.sending) (batches x))) = is ∙ ap (λ (bs : List plan.Batch). map length (division bs)) (loads_are x n h) in
    λ i. files_from x.day x.made (in_runs (same i) (batches_are x n h i))

-- a file for each size
files_counted : (x : CutFacts) (n : CutNumbers) (sizes : List ℕ) → IsOf x n → sizes ≡ map length (division n.loads.items) → length (files x) ≡ length sizes
files_counted x n sizes h is =
    ap length (sym (files_are x n sizes h is))
    ∙ length-map (enumerate_from x.made (in_runs sizes (batches_in n))) _
    ∙ length-enumerate_from x.made (in_runs sizes (batches_in n))
    ∙ length-in_runs sizes (batches_in n)

pub modifiers_are : (x : CutFacts) (n : CutNumbers) (sizes : List ℕ) → IsOf x n → sizes ≡ map length (division n.loads.items) → has_modifiers x ≡ nat_le (x.made + length sizes) most_files
modifiers_are x n sizes h is = ap (λ k. nat_le (x.made + k) most_files) (files_counted x n sizes h is)

-- ---- the postings

-- the total of a submission follows from what it takes
total_told : (is_debit : Bool) (total : ℕ) → (if is_debit then (if is_debit then total else 0) else (if is_debit then 0 else total)) ≡ total
total_told true total = refl
total_told false total = refl

line_told : (s : Sending) → line_by (s, plan_of s) ≡ sending_line s
line_told s = ap (λ cents. if_any cents (cut_line s.company.id (is_debit_sending s) cents s.settled s.content.reference)) (total_told (is_debit_sending s) (total_of (entries_in s)))

lines_told : (ss : List Sending) → flat_map line_by (zip ss (map plan_of ss)) ≡ flat_map sending_line ss
lines_told [] = refl
lines_told (s ∷ ss) = λ i. line_told s i ++ lines_told ss i

lines_are : (x : CutFacts) (n : CutNumbers) → IsOf x n → flat_map line_by (zip (map due_in n.sent.items) n.loads.items) ≡ flat_map sending_line (cut_sendings x)
lines_are x n h = (λ i. flat_map line_by (zip (h.sent i) (h.loads i))) ∙ lines_told (cut_sendings x)

-- ---- the plan

pub may_take : (x : CutFacts) (n : CutNumbers) (latest : List (Option ℕ)) (may : Bool) → IsOf x n → list_all (is_past x.day) latest ≡ may → MayTake x latest may
may_take x n latest may h past = record {
  past = past;
  take = λ sent told. h.may sent told.last ∙ ap (list_all (is_past x.day)) (sym told.settled) ∙ past;
}

pub is_plan : (x : CutFacts) (n : CutNumbers) (sizes : List ℕ) (p : CutPlan) → IsOf x n → sizes ≡ map length (division n.loads.items)
    → plan_write p ≡ write_of x.identity (files_from x.day x.made (in_runs sizes (batches_in n))) n
    → p.done ≡ summary_of x.day (files_from x.day x.made (in_runs sizes (batches_in n))) n
    → IsPlan x p
is_plan x n sizes p h is written done =
    let same : files_from x.day x.made (in_runs sizes (batches_in n)) ≡ files x = files_are x n sizes h is in
    record {
      write = written ∙ (λ i. record {
        sent = flat_map sent_rows (same i);
        lapsed = h.lapsed i;
        entries = flat_map batch_entries (batches_are x n h i);
        postings = pairs (lines_are x n h i);
        files = map (file_row x.identity) (same i);
      });
      done = done ∙ (λ i. record {
        day = x.day;
        entries = all_counted x n h i;
        files = map (λ f. f.modifier) (same i);
        lapsed = length (h.lapsed i);
      });
    }

-- a cut that is not refused is not planned where one would settle too far ahead
pub days_spent : (x : CutFacts) (n : CutNumbers) (latest : List (Option ℕ)) (fault : CutFault) → IsOf x n → MayTake x latest true → has_modifiers x ≡ true
    → IsUnsettled (map due_in n.sent.items) fault → Plans x latest (Err fault)
days_spent x n latest DaysSpent h may has beyond = (may, has, ap settles_beyond (sym h.sent) ∙ beyond)
days_spent x n latest NoMemory h may has beyond = may
days_spent x n latest TracesSpent h may has beyond = absurd beyond
days_spent x n latest ModifiersSpent h may has beyond = absurd beyond

-- ---- whether the day has modifiers

pub left : (t : Bool) (n k : ℕ) → (if t then Some n else None) ≡ Some k → (t ≡ true) × (k ≡ n)
left true n k is = (refl, cc)
left false n k is = absurd cc

pub none_left : (t : Bool) (n : ℕ) → (if t then Some n else None) ≡ None → t ≡ false
none_left true n is = absurd cc
none_left false n is = refl
