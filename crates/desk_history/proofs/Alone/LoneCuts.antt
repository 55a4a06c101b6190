-- The entries and files of a desk that serves one company alone.
use Rattle.std.proofs.Common.{◌≡◌, ℕ, suc, ◌+◌, ◌-◌, ◌≤◌, List, [], ◌∷◌, ◌++◌, length, map, reverse, Bool, true, false, cond, refl, sym, ap, ◌∙◌, arith, if◌then◌else◌, ◌==◌, bytes_eq, unwrap_or, filter, zip, All}
use Rattle.std.specs.List.{flat_map, enumerate_from, range_with_len, AllByRecursion}
use Rattle.std.proofs.lemmas.List.{map-append, length-map, reverse-append, append-nil}
use Rattle.std.proofs.lemmas.List.Elements.{All-from_recursion, filter-append}
use Rattle.std.proofs.lemmas.List.Sums.{sum_by-cons, sum_by-append}
use Rattle.desk_plan.specs.declared.batch.Batch as plan
use Rattle.desk_plan.specs.Batch.{IsBatch}
use Rattle.desk_plan.specs.Cut.{files_of}
use Rattle.desk_plan.specs.Files.{division}
use Rattle.desk_plan.specs.Laws.{SentByCut}
use Rattle.desk_plan.specs.Modifiers.{modifier_at}
use Rattle.desk_plan.specs.Runs.{in_runs}
use Rattle.desk_plan.specs.Sequences.{SentSequence, range_after, ranges, entries_from, last_sequence, after_cut}
use Rattle.desk_rules.specs.declared.bodies.submission.Entry.{Entry}
use Rattle.desk_history.specs.declared.sent_entry.SentEntry.{SentEntry}
use Rattle.desk_history.specs.Message.{Message, Cut, Pair, is_accepted}
use Rattle.desk_history.specs.Sendings.{Sending, NumberedBatch, entries_in, plan_of, sent_entry, batch_entries, sent_sequence, batch_of, batches, with_sendings}
use Rattle.desk_history.specs.History.{day, sent_entries}
use Rattle.desk_history.specs.Files.{File, cut_sendings, runs_of, file_count, files_from, files_after, files}
use Rattle.desk_history.proofs.Traces.CutBatches.{sends_are_batches}
use Rattle.desk_history.proofs.Traces.CutSequences.{counts, batches_behind}
use Rattle.desk_history.proofs.Basics.Each.{each-map}
use Rattle.desk_history.proofs.Alone.LoneCompany.{is_sending_of, filter-map, filter_all, filter_none}

-- ---- lists from the end

pub map-reverse : {X Y : Type 0} (f : X → Y) (xs : List X) → map f (reverse xs) ≡ reverse (map f xs)
map-reverse f [] = refl
map-reverse {X} {Y} f (x ∷ xs) =
    ap (map f) (reverse-append (x ∷ []) xs)
    ∙ map-append f (reverse xs) (x ∷ [])
    ∙ ap (λ (l : List Y). l ++ f x ∷ []) (map-reverse f xs)
    ∙ sym (reverse-append (f x ∷ []) (map f xs))

pub filter-reverse : {X : Type 0} (p : X → Bool) (xs : List X) → filter p (reverse xs) ≡ reverse (filter p xs)
filter-reverse p [] = refl
filter-reverse {X} p (x ∷ xs) =
    ap (filter p) (reverse-append (x ∷ []) xs)
    ∙ filter-append p (reverse xs) (x ∷ [])
    ∙ ap (λ (l : List X). l ++ filter p (x ∷ [])) (filter-reverse p xs)
    ∙ elim (p x) as (λ b. reverse (filter p xs) ++ cond b (x ∷ []) [] ≡ reverse (cond b (x ∷ filter p xs) (filter p xs))) [
      | true ↦ sym (reverse-append (x ∷ []) (filter p xs))
      | false ↦ append-nil (reverse (filter p xs))
    ]

-- ---- entries without their sequences

-- an entry without its sequence
abbrev pub unnumbered : SentEntry → SentEntry
unnumbered e = record e { sequence = 0 }

-- those of a submission
abbrev pub plain_entries : Sending → List SentEntry
plain_entries s = map unnumbered (batch_entries (record { sending = s; first = 0 }))

-- is it an entry of the company?
abbrev pub is_entry_of : List ℕ → SentEntry → Bool
is_entry_of c e = bytes_eq e.company c

unnumbered-batch : (b : NumberedBatch) (k : ℕ) (es : List Entry)
    → map unnumbered (map (λ x. sent_entry b x.0 x.1) (enumerate_from k es)) ≡ map unnumbered (map (λ x. sent_entry (record { sending = b.sending; first = 0 }) x.0 x.1) (enumerate_from k es))
unnumbered-batch b k [] = refl
unnumbered-batch b k (e ∷ es) = ap (λ (l : List SentEntry). unnumbered (sent_entry b k e) ∷ l) (unnumbered-batch b (k + 1) es)

unnumbered-batches : (last : ℕ) (ss : List Sending) → map unnumbered (flat_map batch_entries (batches_behind last ss)) ≡ flat_map plain_entries ss
unnumbered-batches last [] = refl
unnumbered-batches last (s ∷ ss) =
    let r = range_after last (length (entries_in s)) in
    map-append unnumbered (batch_entries (batch_of (r, s))) (flat_map batch_entries (batches_behind r.1 ss))
    ∙ (λ i. unnumbered-batch (batch_of (r, s)) 1 (entries_in s) i ++ unnumbered-batches r.1 ss i)

unnumbered-sent_with : (es : List SentEntry) (ss : List Sending) → map unnumbered (with_sendings es ss) ≡ reverse (flat_map plain_entries ss) ++ map unnumbered es
unnumbered-sent_with es ss =
    map-append unnumbered (reverse (flat_map batch_entries (batches es ss))) es
    ∙ ap (λ (l : List SentEntry). l ++ map unnumbered es)
    (map-reverse unnumbered (flat_map batch_entries (batches es ss)) ∙ ap (λ (l : List SentEntry). reverse l) (unnumbered-batches (last_sequence (map sent_sequence es)) ss))

own_plain : (c : List ℕ) (s : Sending) (b : Bool) → is_sending_of c s ≡ b → filter (is_entry_of c) (plain_entries s) ≡ cond b (plain_entries s) []
own_plain c s true own =
    filter-map (is_entry_of c) (is_entry_of c) unnumbered (λ _. refl) (batch_entries (record { sending = s; first = 0 }))
    ∙ ap (map unnumbered) (filter_all (is_entry_of c) (λ x. sent_entry (record { sending = s; first = 0 }) x.0 x.1) (λ _. own) (enumerate_from 1 (entries_in s)))
own_plain c s false other =
    filter-map (is_entry_of c) (is_entry_of c) unnumbered (λ _. refl) (batch_entries (record { sending = s; first = 0 }))
    ∙ ap (map unnumbered) (filter_none (is_entry_of c) (λ x. sent_entry (record { sending = s; first = 0 }) x.0 x.1) (λ _. other) (enumerate_from 1 (entries_in s)))

own_entries : (c : List ℕ) (ss : List Sending) → filter (is_entry_of c) (flat_map plain_entries ss) ≡ flat_map plain_entries (filter (is_sending_of c) ss)
own_entries c [] = refl
own_entries c (s ∷ ss) =
    filter-append (is_entry_of c) (plain_entries s) (flat_map plain_entries ss)
    ∙ (λ i. own_plain c s (is_sending_of c s) refl i ++ own_entries c ss i)
    ∙ elim (is_sending_of c s) as (λ b. cond b (plain_entries s) [] ++ flat_map plain_entries (filter (is_sending_of c) ss) ≡ flat_map plain_entries (cond b (s ∷ filter (is_sending_of c) ss) (filter (is_sending_of c) ss))) [
      | true ↦ refl
      | false ↦ refl
    ]

-- A cut keeps it that the company's entries are those of the desk that serves it alone, but for sequences.
pub same_entries : (c : List ℕ) (es lone : List SentEntry) (ss : List Sending) → map unnumbered lone ≡ filter (is_entry_of c) (map unnumbered es)
    → map unnumbered (with_sendings lone (filter (is_sending_of c) ss)) ≡ filter (is_entry_of c) (map unnumbered (with_sendings es ss))
same_entries c es lone ss same =
    unnumbered-sent_with lone (filter (is_sending_of c) ss)
    ∙ (λ i. reverse (sym (own_entries c ss) i) ++ same i)
    ∙ ap (λ (l : List SentEntry). l ++ filter (is_entry_of c) (map unnumbered es)) (sym (filter-reverse (is_entry_of c) (flat_map plain_entries ss)))
    ∙ sym (filter-append (is_entry_of c) (reverse (flat_map plain_entries ss)) (map unnumbered es))
    ∙ ap (filter (is_entry_of c)) (sym (unnumbered-sent_with es ss))

-- ---- the sequences of a cut

as_batch : (b : NumberedBatch) (k first : ℕ) (es : List Entry) → 1 ≤ k → b.first + (k - 1) ≡ first
    → map sent_sequence (map (λ x. sent_entry b x.0 x.1) (enumerate_from k es)) ≡ map (λ s. record { sequence = s; settled = b.sending.settled }) (range_with_len first (length es))
as_batch b k first [] some is = refl
as_batch b k first (e ∷ es) some is =
    λ i. record { sequence = is i; settled = b.sending.settled } ∷ as_batch b (k + 1) (first + 1) es (omega arith) (omega arith) i

as_batches : (last : ℕ) (ss : List Sending) → map sent_sequence (flat_map batch_entries (batches_behind last ss)) ≡ flat_map (λ x. entries_from x.0.0 x.1) (zip (ranges last (counts ss)) (map plan_of ss))
as_batches last [] = refl
as_batches last (s ∷ ss) =
    let r = range_after last (length (entries_in s)) in
    map-append sent_sequence (batch_entries (batch_of (r, s))) (flat_map batch_entries (batches_behind r.1 ss))
    ∙ (λ i. as_batch (batch_of (r, s)) 1 r.0 (entries_in s) (omega arith) (omega arith) i ++ as_batches r.1 ss i)

-- what a cut sends has the sequences that the plan gives it
pub as_sent_with : SentByCut → (es : List SentEntry) (ss : List Sending) → All IsBatch (map plan_of ss) → map sent_sequence (with_sendings es ss) ≡ after_cut (map sent_sequence es) (map plan_of ss)
as_sent_with law es ss all =
    map-append sent_sequence (reverse (flat_map batch_entries (batches es ss))) es
    ∙ ap (λ (l : List SentSequence). l ++ map sent_sequence es)
    (map-reverse sent_sequence (flat_map batch_entries (batches es ss)) ∙ ap (λ (l : List SentSequence). reverse l) (as_batches (last_sequence (map sent_sequence es)) ss))
    ∙ sym (law.entries (map sent_sequence es) (map plan_of ss) all)

-- ---- the files of a day

length-in_runs : {X : Type 0} (sizes : List ℕ) (xs : List X) → length (in_runs sizes xs) ≡ length sizes
length-in_runs [] xs = refl
length-in_runs (n ∷ sizes) xs = ap suc (length-in_runs sizes _)

plans_of : (last : ℕ) (ss : List Sending) → map (λ b. plan_of b.sending) (batches_behind last ss) ≡ map plan_of ss
plans_of last [] = refl
plans_of last (s ∷ ss) = ap (λ (l : List plan.Batch). plan_of s ∷ l) (plans_of (range_after last (length (entries_in s))).1 ss)

-- a cut makes as many files as its plan has runs
pub files_count : (es : List SentEntry) (ss : List Sending) → length (runs_of (batches es ss)) ≡ length (division (map plan_of ss))
files_count es ss =
    length-in_runs (map length (division (map (λ b. plan_of b.sending) (batches es ss)))) (batches es ss)
    ∙ length-map (division (map (λ b. plan_of b.sending) (batches es ss))) length
    ∙ ap (λ (l : List plan.Batch). length (division l)) (plans_of (last_sequence (map sent_sequence es)) ss)

abbrev if_on : ℕ → ℕ → ℕ → ℕ
if_on on d n = if on == d then n else 0

either_same : (b : Bool) (n : ℕ) → n ≡ (if b then n else n)
either_same true n = refl
either_same false n = refl

made_from : (d on n : ℕ) (runs : List (List NumberedBatch)) → file_count d (files_from on n runs) ≡ if_on on d (length runs)
made_from d on n [] = either_same (on == d) 0
made_from d on n (run ∷ runs) =
    sum_by-cons (λ (f : File). cond (f.day == d) 1 0) (record { day = on; modifier = modifier_at n; batches = run }) (files_from on (n + 1) runs)
    ∙ ap (λ m. cond (on == d) 1 0 + m) (made_from d on (n + 1) runs)
    ∙ elim (on == d) as (λ b. cond b 1 0 + (if b then length runs else 0) ≡ (if b then suc (length runs) else 0)) [ true ↦ omega arith | false ↦ refl ]

pub made_after : (d on : ℕ) (es : List SentEntry) (ss : List Sending) (before : List File)
    → file_count d (files_after true Cut on (batches es ss) before) ≡ file_count d before + if_on on d (length (division (map plan_of ss)))
made_after d on es ss before =
    sum_by-append (λ (f : File). cond (f.day == d) 1 0) before (files_from on (file_count on before) (runs_of (batches es ss)))
    ∙ ap (λ m. file_count d before + m) (made_from d on (file_count on before) (runs_of (batches es ss)) ∙ ap (if_on on d) (files_count es ss))

-- the batches of each cut of a day
abbrev pub cuts_after : Bool → Message → ℕ → ℕ → List plan.Batch → List (List plan.Batch) → List (List plan.Batch)
cuts_after true Cut d on bs before = if on == d then bs ∷ before else before
cuts_after _ _ d on bs before = before

abbrev pub cuts_on : List ℕ → List Pair → ℕ → List (List plan.Batch)
cuts_on odfi [] d = []
cuts_on odfi (x ∷ H) d = cuts_after (is_accepted x.answer) x.message d (unwrap_or (day H) 0) (map plan_of (cut_sendings odfi H)) (cuts_on odfi H d)

-- its files are those of the cuts
pub made_cut : (d on : ℕ) (es : List SentEntry) (ss : List Sending) (before : List File) (cuts : List (List plan.Batch)) → file_count d before ≡ files_of cuts
    → file_count d (files_after true Cut on (batches es ss) before) ≡ files_of (cuts_after true Cut d on (map plan_of ss) cuts)
made_cut d on es ss before cuts same =
    made_after d on es ss before
    ∙ elim (on == d) as (λ b. file_count d before + (if b then length (division (map plan_of ss)) else 0) ≡ files_of (if b then map plan_of ss ∷ cuts else cuts)) [
      | true ↦ let more = sum_by-cons (λ (bs : List plan.Batch). length (division bs)) (map plan_of ss) cuts in omega arith
      | false ↦ omega arith
    ]

made_step : (ok : Bool) (m : Message) (d on : ℕ) (es : List SentEntry) (ss : List Sending) (before : List File) (cuts : List (List plan.Batch)) → file_count d before ≡ files_of cuts
    → file_count d (files_after ok m on (batches es ss) before) ≡ files_of (cuts_after ok m d on (map plan_of ss) cuts)
made_step true Cut d on es ss before cuts same = made_cut d on es ss before cuts same
made_step false m d on es ss before cuts same = same
made_step true m d on es ss before cuts same = same

pub made_is : (odfi : List ℕ) (H : List Pair) (d : ℕ) → file_count d (files odfi H) ≡ files_of (cuts_on odfi H d)
made_is odfi [] d = refl
made_is odfi (x ∷ H) d = made_step (is_accepted x.answer) x.message d (unwrap_or (day H) 0) (sent_entries odfi H) (cut_sendings odfi H) (files odfi H) (cuts_on odfi H d) (made_is odfi H d)

-- each is a plan of batches
pub plans_are_batches : (odfi : List ℕ) (H : List Pair) → All IsBatch (map plan_of (cut_sendings odfi H))
plans_are_batches odfi H = All-from_recursion IsBatch (map plan_of (cut_sendings odfi H)) (each-map IsBatch plan_of (cut_sendings odfi H) (sends_are_batches odfi H))

cuts_step : (ok : Bool) (m : Message) (d on : ℕ) (bs : List plan.Batch) (cuts : List (List plan.Batch)) → All IsBatch bs → AllByRecursion (All IsBatch) cuts → AllByRecursion (All IsBatch) (cuts_after ok m d on bs cuts)
cuts_step true Cut d on bs cuts all before = elim (on == d) as (λ b. AllByRecursion (All IsBatch) (if b then bs ∷ cuts else cuts)) [ true ↦ (all, before) | false ↦ before ]
cuts_step false m d on bs cuts all before = before
cuts_step true m d on bs cuts all before = before

cuts_of_batches : (odfi : List ℕ) (H : List Pair) (d : ℕ) → AllByRecursion (All IsBatch) (cuts_on odfi H d)
cuts_of_batches odfi [] d = tt
cuts_of_batches odfi (x ∷ H) d = cuts_step (is_accepted x.answer) x.message d (unwrap_or (day H) 0) (map plan_of (cut_sendings odfi H)) (cuts_on odfi H d) (plans_are_batches odfi H) (cuts_of_batches odfi H d)

pub cuts_are_batches : (odfi : List ℕ) (H : List Pair) (d : ℕ) → All (All IsBatch) (cuts_on odfi H d)
cuts_are_batches odfi H d = All-from_recursion (All IsBatch) (cuts_on odfi H d) (cuts_of_batches odfi H d)
