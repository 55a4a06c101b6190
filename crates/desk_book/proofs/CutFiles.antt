-- The files that a cut writes: the submissions in them, their printed places and their texts.
use Rattle.std.proofs.Common.{◌≡◌, ℕ, ◌+◌, List, [], ◌∷◌, ◌++◌, length, map, Bool, true, false, ◌&&◌, refl, sym, ap, ◌∙◌, append_assoc}
use Rattle.std.specs.Prelude.{◌==◌, if◌then◌else◌, fold, filter, find, Option, Some, is_none, option_map, bytes_eq}
use Rattle.std.specs.List.{enumerate_from, flat_map}
use Rattle.std.proofs.lemmas.List.{append-nil, map-append}
use Rattle.std.proofs.lemmas.List.Concat.{flat_map-append}
use Rattle.std.proofs.lemmas.Simd.{map-map}
use Rattle.desk_plan.specs.Laws.{OneDivision}
use Rattle.desk_plan.specs.Modifiers.{modifier_at}
use Rattle.desk_plan.specs.Runs.{flat}
use Rattle.desk_plan.specs.Sequences.{range_after}
use Rattle.desk_history.specs.declared.sent_entry.FilePlace.{FilePlace}
use Rattle.desk_history.specs.Files.{File, runs_of, files_from, is_batch_of, places_in_file}
use Rattle.desk_history.specs.Sendings.{Sending, NumberedBatch, entries_in}
use Rattle.desk_history.proofs.Traces.NextCut.{flat_runs}
use Rattle.desk_book.specs.Standing as standing
use Rattle.desk_book.proofs.Finds.{first_more}
use Rattle.desk_book.specs.declared.flat_rows.SentRow.{SentRow}
use Rattle.desk_book.specs.OnCut.{batches_after, sent_row, sent_rows, CutFacts, cut_sendings, files}
use Rattle.desk_book.proofs.CutRowsOnBook.{sending_turn}
use Rattle.desk_book.proofs.Turns.{Turn}

-- ---- the submissions of the files

-- what becomes of the row of a submission that is sent
abbrev pub sent_turn : SentRow → List ℕ × Turn
sent_turn s = (s.company, record { order = s.order; change = standing.sent_row s.settled })

-- what is made of numbered things without their numbers
without_numbers : {X Y : Type 0} (g : X → Y) (n : ℕ) (xs : List X) → map (λ x. g x.1) (enumerate_from n xs) ≡ map g xs
without_numbers g n [] = refl
without_numbers {Y = Y} g n (x ∷ xs) = ap (λ (more : List Y). g x ∷ more) (without_numbers g (n + 1) xs)

-- and of that of a batch
abbrev batch_turn : NumberedBatch → List ℕ × Turn
batch_turn b = sending_turn b.sending

-- the rows that files write are those of their batches
files_turn : (day made : ℕ) (runs : List (List NumberedBatch)) → map sent_turn (flat_map sent_rows (files_from day made runs)) ≡ map batch_turn (flat runs)
files_turn day made [] = refl
files_turn day made (run ∷ runs) =
    let f : File = record { day = day; modifier = modifier_at made; batches = run } in
    map-append sent_turn (sent_rows f) (flat_map sent_rows (files_from day (made + 1) runs))
    ∙ (λ i. (map-map sent_turn (sent_row f) (enumerate_from 1 run) ∙ without_numbers batch_turn 1 run) i ++ files_turn day (made + 1) runs i)
    ∙ sym (map-append batch_turn run (flat runs))

-- and batches those of what is sent
batches_turn : (last : ℕ) (ss : List Sending) → map batch_turn (batches_after last ss) ≡ map sending_turn ss
batches_turn last [] = refl
batches_turn last (s ∷ ss) = ap (λ (more : List (List ℕ × Turn)). sending_turn s ∷ more) (batches_turn (range_after last (length (entries_in s))).1 ss)

-- the files hold what the cut sends, in its order
pub files_hold_sends : OneDivision → (x : CutFacts) → map sent_turn (flat_map sent_rows (files x)) ≡ map sending_turn (cut_sendings x)
files_hold_sends law x =
    files_turn x.day x.made (runs_of (batches_after x.last (cut_sendings x)))
    ∙ ap (map batch_turn) (flat_runs law (batches_after x.last (cut_sendings x)))
    ∙ batches_turn x.last (cut_sendings x)

-- ---- printed places

-- the place of a row, if it is of the submission
abbrev pub printed_by : List ℕ → ℕ → SentRow → List FilePlace
printed_by c order s = if bytes_eq s.company c && s.order == order then s.printed ∷ [] else []

-- those of one file
places_of : (c : List ℕ) (order : ℕ) (f : File) (xs : List (ℕ × NumberedBatch))
    → flat_map (printed_by c order) (map (sent_row f) xs) ≡ map (λ x. record { day = f.day; modifier = f.modifier; batch = x.0 }) (filter (is_batch_of c order) xs)
places_of c order f [] = refl
places_of c order f (x ∷ xs) =
    let place : ℕ × NumberedBatch → FilePlace = λ y. record { day = f.day; modifier = f.modifier; batch = y.0 } in
    let rest = places_of c order f xs in
    elim (is_batch_of c order x) as (λ (t : Bool).
    (if t then place x ∷ [] else []) ++ flat_map (printed_by c order) (map (sent_row f) xs) ≡ map place (if t then x ∷ filter (is_batch_of c order) xs else filter (is_batch_of c order) xs)) [
      | true ↦ ap (λ (more : List FilePlace). place x ∷ more) rest
      | false ↦ rest
    ]

-- the rows of files say where they print a submission
pub places_in_files : (c : List ℕ) (order : ℕ) (fs : List File) → flat_map (printed_by c order) (flat_map sent_rows fs) ≡ flat_map (places_in_file c order) fs
places_in_files c order [] = refl
places_in_files c order (f ∷ fs) =
    flat_map-append (printed_by c order) (sent_rows f) (flat_map sent_rows fs)
    ∙ (λ i. places_of c order f (enumerate_from 1 f.batches) i ++ places_in_files c order fs i)

-- ---- what is found first

-- what a list adds to what was found before it
pub found_in_turn : {X Y : Type 0} (value : X → Y) (p : X → Bool) (before xs : List X)
    → fold (λ o x. if p x && is_none o then Some (value x) else o) (option_map value (find p before)) xs ≡ option_map value (find p (before ++ xs))
found_in_turn value p before [] = ap (λ (l : List _). option_map value (find p l)) (sym (append-nil before))
found_in_turn {X} {Y} value p before (x ∷ xs) =
    ap (λ (o : Option Y). fold (λ o x. if p x && is_none o then Some (value x) else o) o xs) (sym (first_more value p before x))
    ∙ found_in_turn value p (before ++ x ∷ []) xs
    ∙ ap (λ (l : List X). option_map value (find p l)) (append_assoc before (x ∷ []) xs)
