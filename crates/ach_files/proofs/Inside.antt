-- A record's bytes, one after the other.
use Rattle.ach_files.proofs.Printable.{IsPrintable, test_is}
use Rattle.std.proofs.Common.{◌≡◌, ℕ, ◌+◌, ◌<◌, ◌≤◌, Bool, true, false, List, [], ◌∷◌, ◌++◌, Option, Some, None, length, refl, ap, ◌∙◌, arith, append_assoc, length-append, ◌||◌}
use Rattle.std.specs.Prelude.{◌==◌}
use Rattle.std.proofs.lemmas.List.{nil_from_length}
use Rattle.std.proofs.lemmas.Bool.{eqb-true}
use Rattle.std.specs.List.{fold, All}
use Rattle.std.proofs.lemmas.List.Elements.{All-head, All-tail}
use Rattle.std.proofs.lemmas.Bool.{ne_eqb, eq-eqb}
use Rattle.ach_files.specs.declared.fault.Fault.{Fault}
use Rattle.ach_files.specs.RecordFault.{record_fault}
use Rattle.ach_files.specs.Layout.{may_begin, Place, InRecord, AfterRecord, AfterReturn, AfterLine, InTail, Move, Put, Layout, move_at, layout_after_move, next_layout, is_end, layout, start}
use Rattle.ach_files.specs.FirstFault.{byte_fault, move_fault, map_fault, place_fault, or_else, first_fault, early_fault}
use Rattle.std.proofs.lemmas.List.Sums.{fold-append}
use Rattle.ach_files.proofs.Firsts.{layout_more, first_append}
use Rattle.ach_files.proofs.Bytes.{fault_small, next_is}
use Rattle.ach_files.proofs.Runs.{Whole}

abbrev pub faults : ℕ → Layout → List ℕ → Option Fault
faults n l [] = None
faults n l (b ∷ bs) = or_else (place_fault n l b) (faults (n + 1) (next_layout l b) bs)

pub first_faults : (seen xs : List ℕ) → first_fault seen xs ≡ faults (length seen) (layout seen) xs
unfolding first_fault
first_faults seen [] = refl
first_faults seen (b ∷ bs) =
    let n : length (seen ++ b ∷ []) ≡ length seen + 1 = omega (arith, length-append seen (b ∷ [])) in
    let e : first_fault (seen ++ b ∷ []) bs ≡ faults (length seen + 1) (next_layout (layout seen) b) bs = first_faults (seen ++ b ∷ []) bs ∙ rw (n, layout_more seen b) refl in
    ap (or_else (place_fault (length seen) (layout seen) b)) e

pub record Passes (n : ℕ) (l : Layout) (xs : List ℕ) (l2 : Layout) : Type 0 where
  pub none : faults n l xs ≡ None
  pub comes : fold next_layout l xs ≡ l2

both_none : (x y : Option Fault) → or_else x y ≡ None → (x ≡ None) × (y ≡ None)
both_none None y e = (refl, e)
both_none (Some f) y e = absurd cc

pub pass_on : (n : ℕ) (l : Layout) (xs ys : List ℕ) (m k : Layout) → Passes n l xs m → Passes (n + length xs) m ys k → Passes n l (xs ++ ys) k
pass_on n l [] ys m k h g =
    let z : n + 0 ≡ n = omega arith in
    let start : l ≡ m = h.comes in
    let g2 : Passes n m ys k = rw z at g in
    rw start g2
pass_on n l (x ∷ xs) ys m k h g =
    let z : n + length (x ∷ xs) ≡ (n + 1) + length xs = omega arith in
    let p = both_none (place_fault n l x) (faults (n + 1) (next_layout l x) xs) h.none in
    let rest = pass_on (n + 1) (next_layout l x) xs ys m k (record { none = p.1; comes = h.comes }) (rw z at g) in
    record { none = rw p.0 rest.none; comes = rest.comes }

pub one_passes : (n : ℕ) (l : Layout) (b : ℕ) (m : Move) → m ≡ move_at l.place b → n < 4194304 → move_fault l.records b m ≡ None → Passes n l (b ∷ []) (layout_after_move l b m)
one_passes n l b m e lt none = record { none = rw (fault_small n l b m e lt, none) refl; comes = next_is l b m e }

plain_is : (b : ℕ) → IsPrintable b → is_end b ≡ false
plain_is b p = rw (ne_eqb b 10 (λ (e : b ≡ 10). omega arith), ne_eqb b 13 (λ (e : b ≡ 13). omega arith)) refl

other_byte : (n : ℕ) (rs : List (List ℕ)) (done : List ℕ) (b : ℕ) → length done < 93 → IsPrintable b → n < 4194304
    → Passes n (record { records = rs; place = InRecord done }) (b ∷ []) (record { records = rs; place = InRecord (done ++ b ∷ []) })
unfolding move_at
other_byte n rs done b len p lt =
    let l : length (done ++ b ∷ []) ≡ length done + 1 = omega (arith, length-append done (b ∷ [])) in
    let f : byte_fault rs done b ≡ None = rw (plain_is b p, test_is b p, ne_eqb (length (done ++ b ∷ [])) 94 (λ (e : length (done ++ b ∷ []) ≡ 94). omega arith)) refl in
    let h = one_passes n (record { records = rs; place = InRecord done }) b (Put done) refl lt f in
    record { none = h.none; comes = h.comes ∙ rw (ne_eqb (length done) 93 (λ (e : length done ≡ 93). omega arith)) refl }

-- the fault of a record is found at its last byte
last_tells : (n : ℕ) (rs : List (List ℕ)) (done : List ℕ) (b : ℕ) → length done ≡ 93 → IsPrintable b → n < 4194304
    → place_fault n (record { records = rs; place = InRecord done }) b ≡ map_fault (length rs + 1) (record_fault rs (done ++ b ∷ []))
unfolding move_at
last_tells n rs done b len p lt =
    let l : length (done ++ b ∷ []) ≡ 94 = omega (arith, length-append done (b ∷ [])) in
    let f : byte_fault rs done b ≡ record_fault rs (done ++ b ∷ []) = rw (plain_is b p, test_is b p, eq-eqb _ _ l) refl in
    fault_small n (record { records = rs; place = InRecord done }) b (Put done) refl lt ∙ ap (map_fault (length rs + 1)) f

-- these bytes end a record, and nothing is wrong with them but what is wrong with the record
pub record Judges (n : ℕ) (rs : List (List ℕ)) (place : Place) (text xs : List ℕ) : Type 0 where
  pub tells : faults n (record { records = rs; place = place }) xs ≡ map_fault (length rs + 1) (record_fault rs text)
  pub comes : fold next_layout (record { records = rs; place = place }) xs ≡ record { records = rs ++ text ∷ []; place = AfterRecord }

or_right : (x : Option Fault) → or_else x None ≡ x
or_right None = refl
or_right (Some f) = refl

inside : (rs : List (List ℕ)) (todo : List ℕ) (n : ℕ) (done : List ℕ) (b : ℕ) → length done + length (b ∷ todo) ≡ 94 → All IsPrintable (b ∷ todo) → n + length (b ∷ todo) ≤ 4194304
    → Judges n rs (InRecord done) (done ++ b ∷ todo) (b ∷ todo)
unfolding move_at
inside rs [] n done b len p room =
    let l : length done ≡ 93 = omega arith in
    record {
      tells = or_right _ ∙ last_tells n rs done b l (All-head IsPrintable b [] p) (omega arith);
      comes = next_is (record { records = rs; place = InRecord done }) b (Put done) refl ∙ rw (eq-eqb _ _ l) refl;
    }
inside rs (c ∷ todo) n done b len p room =
    let l : Layout = record { records = rs; place = InRecord done } in
    let first = other_byte n rs done b (omega arith) (All-head IsPrintable b (c ∷ todo) p) (omega arith) in
    let grown : length (done ++ b ∷ []) ≡ length done + 1 = omega (arith, length-append done (b ∷ [])) in
    let regroup : (done ++ b ∷ []) ++ c ∷ todo ≡ done ++ b ∷ c ∷ todo = append_assoc done (b ∷ []) (c ∷ todo) in
    let rest : Judges (n + 1) rs (InRecord (done ++ b ∷ [])) ((done ++ b ∷ []) ++ c ∷ todo) (c ∷ todo) = inside rs todo (n + 1) (done ++ b ∷ []) c (omega arith) (All-tail IsPrintable b (c ∷ todo) p) (omega arith) in
    let on : Judges (n + 1) rs (InRecord (done ++ b ∷ [])) (done ++ b ∷ c ∷ todo) (c ∷ todo) = rw regroup at rest in
    let fine = both_none (place_fault n l b) None first.none in
    record { tells = rw (fine.0, first.comes) on.tells; comes = rw first.comes on.comes }

abbrev pub Begins : Place → Type 0
Begins place = (b : ℕ) → is_end b ≡ false → move_at place b ≡ Put []

same_fault : (n : ℕ) (rs : List (List ℕ)) (place : Place) (b : ℕ) → move_at place b ≡ Put [] → place_fault n (record { records = rs; place = place }) b ≡ place_fault n (record { records = rs; place = InRecord [] }) b
unfolding place_fault move_at
same_fault n rs place b e = rw e refl

same_next : (rs : List (List ℕ)) (place : Place) (b : ℕ) → move_at place b ≡ Put [] → next_layout (record { records = rs; place = place }) b ≡ next_layout (record { records = rs; place = InRecord [] }) b
unfolding next_layout move_at
same_next rs place b e = rw e refl

-- a whole record
pub record_judges : (n : ℕ) (rs : List (List ℕ)) (place : Place) (t : List ℕ) → Begins place → Whole t → n + length t ≤ 4194304 → Judges n rs place t t
record_judges n rs place [] may_begin w room = let l = w.len in absurd (omega arith)
record_judges n rs place (b ∷ todo) may_begin w room =
    let e = may_begin b (plain_is b (All-head IsPrintable b todo w.printable)) in
    let l = w.len in
    let h = inside rs todo n [] b (omega arith) w.printable room in
    record { tells = rw (same_fault n rs place b e, same_next rs place b e) h.tells; comes = rw (same_next rs place b e) h.comes }

pub record_passes : (n : ℕ) (rs : List (List ℕ)) (place : Place) (t : List ℕ) → Begins place → Whole t → record_fault rs t ≡ None → n + length t ≤ 4194304
    → Passes n (record { records = rs; place = place }) t (record { records = rs ++ t ∷ []; place = AfterRecord })
record_passes n rs place t may_begin w none room =
    let h = record_judges n rs place t may_begin w room in
    record { none = h.tells ∙ ap (map_fault (length rs + 1)) none; comes = h.comes }

-- bytes without a fault, and a whole record after them
pub record Reads (seen text : List ℕ) : Type 0 where
  pub tells : early_fault (seen ++ text) ≡ map_fault (length (layout seen).records + 1) (record_fault (layout seen).records text)
  pub comes : layout (seen ++ text) ≡ record { records = (layout seen).records ++ text ∷ []; place = AfterRecord }

pub record_read : (seen text : List ℕ) → early_fault seen ≡ None → Begins (layout seen).place → Whole text → length seen + length text ≤ 4194304 → Reads seen text
unfolding layout
record_read seen text fine may_begin w room =
    let l = layout seen in
    let h = record_judges (length seen) l.records l.place text may_begin w room in
    record {
      tells = first_append [] seen text ∙ ap (λ o. or_else o (first_fault seen text)) fine ∙ first_faults seen text ∙ h.tells;
      comes = fold-append next_layout start seen text ∙ h.comes;
    }

pub or_false : (x y : Bool) → (x || y) ≡ false → (x ≡ false) × (y ≡ false)
or_false true y e = absurd cc
or_false false y e = (refl, e)

nothing_is : (bytes : List ℕ) → (length bytes == 0) ≡ true → bytes ≡ []
nothing_is bytes e = nil_from_length bytes (eqb-true _ _ e)

-- where a record may begin, any byte but CR and LF begins one
pub begins_is : (place : Place) → may_begin place ≡ true → Begins place
unfolding move_at
begins_is (InRecord bytes) e b plain = ap Put (nothing_is bytes e)
begins_is AfterRecord e b plain = let p = or_false (b == 10) (b == 13) plain in rw (p.0, p.1) refl
begins_is AfterLine e b plain = rw plain refl
begins_is AfterReturn e b plain = absurd cc
begins_is InTail e b plain = absurd cc
