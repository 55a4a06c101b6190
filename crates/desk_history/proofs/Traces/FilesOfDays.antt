-- The files of a day have the first modifiers, in their order.
use Rattle.std.proofs.Common.{◌≡◌, ◌<◌, ◌≤◌, ℕ, suc, ◌+◌, Bool, true, false, ◌==◌, cond, List, [], ◌∷◌, ◌++◌, map, filter, length, take, refl, sym, subst, ap, ◌∙◌, arith, eqb-true, Option, unwrap_or}
use Rattle.std.proofs.lemmas.List.{append-nil, append_assoc, map-append, take_more}
use Rattle.std.proofs.lemmas.List.Elements.{filter-append}
use Rattle.std.proofs.lemmas.List.Sums.{sum_by-append, sum_by-cons}
use Rattle.desk_plan.specs.Modifiers.{modifiers, modifier_at, most_files}
use Rattle.desk_history.specs.declared.identity.Identity.{Identity}
use Rattle.desk_history.specs.DayFiles.{modifiers_among, FilesOfStatus}
use Rattle.desk_history.specs.Files.{File, cut_batches, file_count, files, files_after, files_from, runs_of}
use Rattle.desk_history.specs.History.{day}
use Rattle.desk_history.specs.Message.{Message, Cut, Pair, is_accepted}
use Rattle.desk_history.specs.Operator.{IsHistory}
use Rattle.desk_history.specs.Sendings.{NumberedBatch}
use Rattle.desk_history.specs.Status.{modifiers_on}
use Rattle.desk_history.proofs.Traces.AcceptedCuts.{accepted_cuts}

abbrev are_first : (d : ℕ) → List File → Type 0
are_first d fs = modifiers_among d fs ≡ take (file_count d fs) modifiers

count_more : (d : ℕ) (fs : List File) (f : File) → file_count d (fs ++ f ∷ []) ≡ file_count d fs + cond (f.day == d) 1 0
count_more d fs f =
    sum_by-append (λ (g : File). cond (g.day == d) 1 0) fs (f ∷ [])
    ∙ ap (λ n. file_count d fs + n) (sum_by-cons (λ (g : File). cond (g.day == d) 1 0) f [] ∙ (let e : cond (f.day == d) 1 0 + 0 ≡ cond (f.day == d) 1 0 = omega arith in e))

next_modifier : (n : ℕ) → n < most_files → take (n + 1) modifiers ≡ take n modifiers ++ modifier_at n ∷ []
unfolding modifiers
next_modifier n within = take_more modifiers n 0 within

-- one file more, which has the next modifier where it is one of the day
file_more : (d : ℕ) (fs : List File) (f : File) → are_first d fs → (f.day == d ≡ true → (f.modifier ≡ modifier_at (file_count d fs)) × (file_count d fs < most_files)) → are_first d (fs ++ f ∷ [])
file_more d fs f first next =
    ap (map (λ g. g.modifier)) (filter-append (λ g. g.day == d) fs (f ∷ []))
    ∙ map-append (λ (g : File). g.modifier) (filter (λ g. g.day == d) fs) (filter (λ g. g.day == d) (f ∷ []))
    ∙ ap (λ l. l ++ modifiers_among d (f ∷ [])) first
    ∙ go (f.day == d) next
    ∙ sym (ap (λ n. take n modifiers) (count_more d fs f))
  where
    made : ℕ
    made = file_count d fs

    go : (t : Bool) → (t ≡ true → (f.modifier ≡ modifier_at made) × (made < most_files)) → take made modifiers ++ map (λ (g : File). g.modifier) (cond t (f ∷ []) []) ≡ take (made + cond t 1 0) modifiers
    go true next = ap (λ c. take made modifiers ++ c ∷ []) (next refl).0 ∙ sym (next_modifier made (next refl).1)
    go false next = append-nil (take made modifiers) ∙ ap (λ n. take n modifiers) (let e : made ≡ made + 0 = omega arith in e)

-- the files of a cut more
files_more : (d on made : ℕ) (runs : List (List NumberedBatch)) (fs : List File) → are_first d fs → (on == d ≡ true → file_count d fs ≡ made) → made + length runs ≤ most_files → are_first d (fs ++ files_from on made runs)
files_more d on made [] fs first are room = subst (are_first d) (sym (append-nil fs)) first
files_more d on made (run ∷ runs) fs first are room =
    let f : File = record { day = on; modifier = modifier_at made; batches = run } in
    subst (are_first d) (append_assoc fs (f ∷ []) (files_from on (made + 1) runs))
    (files_more d on (made + 1) runs (fs ++ f ∷ [])
    (file_more d fs f first (λ is. let count : file_count d fs ≡ made = are is in (ap modifier_at (sym count), omega arith)))
    (λ is. count_more d fs f ∙ (λ i. are is i + cond (is i) 1 0))
    (omega arith))

pub as_many : (on made : ℕ) (runs : List (List NumberedBatch)) → length (files_from on made runs) ≡ length runs
as_many on made [] = refl
as_many on made (run ∷ runs) = ap suc (as_many on (made + 1) runs)

-- the files after a message
after : (ok : Bool) (m : Message) (on d : ℕ) (bs : List NumberedBatch) (before : List File) → (ok ≡ true → m ≡ Cut → file_count on before + length (runs_of bs) ≤ most_files) → are_first d before → are_first d (files_after ok m on bs before)
after true Cut on d bs before room first = files_more d on (file_count on before) (runs_of bs) before first (λ is. ap (λ e. file_count e before) (sym (eqb-true on d is))) (room refl refl)
after ok m on d bs before room first = first

-- of every day
files_first : (identity : Identity) (H : List Pair) → IsHistory identity H → (d : ℕ) → are_first d (files identity.odfi H)
files_first identity [] history d = refl
files_first identity (x ∷ H) history d =
    after (is_accepted x.answer) x.message (unwrap_or (day H) 0) d (cut_batches identity.odfi H) (files identity.odfi H) room (files_first identity H history.1 d)
  where
    room : is_accepted x.answer ≡ true → x.message ≡ Cut → file_count (unwrap_or (day H) 0) (files identity.odfi H) + length (runs_of (cut_batches identity.odfi H)) ≤ most_files
    room accepted cut =
        let made = accepted_cuts identity H x (record { history = history; message = cut; accepted = accepted }) in
        let before = file_count made.0 (files identity.odfi H) in
        let runs = runs_of (cut_batches identity.odfi H) in
        let count = as_many made.0 before runs in
        let fit = made.1.modifiers in
        let fits : before + length runs ≤ most_files = omega (arith, count, fit) in
        subst (λ (o : Option ℕ). file_count (unwrap_or o 0) (files identity.odfi H) + length runs ≤ most_files) (sym made.1.on) fits

pub files_of_status : FilesOfStatus
files_of_status identity H history d on = ap (λ (o : Option ℕ). modifiers_on o (λ e. file_count e (files identity.odfi H))) on ∙ sym (files_first identity H history d)
