-- One byte more.
use Rattle.ach_fields.specs.Characters.{is_printable}
use Rattle.std.proofs.Common.{◌≡◌, ℕ, ◌+◌, ◌<◌, ◌≤◌, true, false, List, [], ◌∷◌, ◌++◌, Some, Result, Ok, Err, length, take, set, refl, sym, ap, ◌∙◌, arith, length-take, take_all}
use Rattle.std.specs.Prelude.{MatchResult, OnOk}
use Rattle.std.proofs.lemmas.Bool.{le-leb, lt-leb, eq-eqb}
use Rattle.std.proofs.lemmas.List.{take_more_set, length-set}
use Rattle.ach_files.specs.declared.fault.FileFault.TheVariants as faults
use Rattle.ach_files.specs.RecordFault.{record_fault}
use Rattle.ach_files.specs.Layout.{Move, Put, AfterRecord, Layout, move_at, layout_after_move, next_layout, is_end}
use Rattle.ach_files.specs.FirstFault.{byte_fault, move_fault, map_fault, place_fault, record_of, fault_at}

-- the record that is whole
pub whole_is : (part : List ℕ) (count b : ℕ) → length part ≡ 94 → count ≡ 93 → set part count b ≡ take count part ++ b ∷ []
whole_is part count b len e =
    let lt : count < length part = omega arith in
    let all : length (set part count b) ≤ count + 1 = omega (arith, length-set part count b) in
    sym (take_all (count + 1) (set part count b) all) ∙ take_more_set part count b lt

pub whole_fault_is : (records : List (List ℕ)) (part : List ℕ) (count b : ℕ) → is_end b ≡ false → is_printable b ≡ true → length part ≡ 94 → count ≡ 93
    → byte_fault records (take count part) b ≡ record_fault records (set part count b)
whole_fault_is records part count b plain printable len e =
    let w = whole_is part count b len e in
    let l : length (take count part ++ b ∷ []) ≡ 94 = ap length (sym w) ∙ omega (arith, length-set part count b) in
    rw (plain, printable, eq-eqb _ _ l, w) refl

pub whole_moved : (l : Layout) (part : List ℕ) (count b : ℕ) → length part ≡ 94 → count ≡ 93 → layout_after_move l b (Put (take count part)) ≡ record { records = l.records ++ set part count b ∷ []; place = AfterRecord }
whole_moved l part count b len e =
    let k : length (take count part) ≡ 93 = omega (arith, length-take count part) in
    rw (eq-eqb _ _ k, whole_is part count b len e) refl

-- where the limit is passed
pub fault_large : (n : ℕ) (l : Layout) (b : ℕ) (m : Move) → m ≡ move_at l.place b → 4194304 ≤ n → place_fault n l b ≡ Some (fault_at (record_of l.records m) faults.TooLarge)
unfolding place_fault
fault_large n l b m e le = rw (← e, le-leb _ _ le) refl

pub fault_small : (n : ℕ) (l : Layout) (b : ℕ) (m : Move) → m ≡ move_at l.place b → n < 4194304 → place_fault n l b ≡ map_fault (record_of l.records m) (move_fault l.records b m)
unfolding place_fault
fault_small n l b m e lt = rw (← e, lt-leb _ _ lt) refl

pub next_is : (l : Layout) (b : ℕ) (m : Move) → m ≡ move_at l.place b → next_layout l b ≡ layout_after_move l b m
unfolding next_layout
next_is l b m e = rw (← e) refl

pub match_ok : {A E : Type 0} (r : Result A E) (P P2 : A → Type 0) (Q Q2 : E → Type 0) (X : Type 0) → MatchResult r P Q → OnOk r X → ((x : A) → P x → X → P2 x) → ((e : E) → Q e → Q2 e) → MatchResult r P2 Q2
match_ok (Ok x) P P2 Q Q2 X h o f g = f x h o
match_ok (Err e) P P2 Q Q2 X h o f g = g e h
