-- What the indexes of rows find, as rows are added and covered.
use Rattle.std.proofs.Common.{◌≡◌, ◌∙◌, ℕ, suc, ◌+◌, ◌<◌, ◌≤◌, ◌==◌, Bool, true, false, cond, List, [], ◌∷◌, ◌++◌, map, take, length, get_or, Option, None, Some, refl, ap, sym, subst, nat_eq, true≢false, arith}
use Rattle.std.specs.Prelude.{◌&&◌, if◌then◌else◌, bytes_eq, filter, filter_map, find, slice_get, option_map, unwrap_or}
use Rattle.std.specs.List.{enumerate_from, cons_option}
use Rattle.std.specs.Option.{option_eq, option_or}
use Rattle.std.specs.Ordering.{is_eq}
use Rattle.std.specs.Cmp.Lexicographic.{same_text}
use Rattle.std.proofs.Math.Seq.{take-length}
use Rattle.std.proofs.lemmas.Bool.{eqb-true}
use Rattle.std.proofs.lemmas.Option.{none-some, slice_get-get_or, slice_get_past}
use Rattle.std.proofs.lemmas.List.{take_more, take-append-le, length-append, length-map, length-take-le, append-nil, get_or-map, map-append}
use Rattle.desk_rules.specs.declared.bodies.submission.Retry.{Retry}
use Rattle.desk_history.specs.Retries.{is_same_entry}
use Rattle.desk_history.proofs.Alone.LoneCompany.{find_filtered}
use Rattle.desk_book.specs.declared.row.Row.{Row}
use Rattle.desk_book.specs.OpenRows.{is_open_row}
use Rattle.desk_book.specs.Standing.{is_row_under, retry_rows, row_under}
use Rattle.desk_book.specs.Steps.{CutWrite, IntakeWrite}
use Rattle.desk_store.specs.Changes.{in_turn, send_in, lapse_in, return_in, cut_in, intake_in}
use Rattle.desk_store.specs.Rows.{CompanyRow, Rows}
use Rattle.memory_store.specs.Finds.{passes, passing_at, rows_for}
use Rattle.memory_store.specs.Kept.{row_in}
use Rattle.memory_store.specs.Open.{is_found_open, may_be_open}
use Rattle.memory_store.specs.Keyed.{IsOfContent, IsSteady, sent_same, lapsed_same, returned_same}
use Rattle.memory_store.specs.Placed.{ArePlaced, FindsAll, IsPlaced, is_key, key_in, listed_under, picked, place_under, places_of, under, whole}
use Rattle.memory_store.specs.RowKeys.{is_same_key, key_cmp, key_cmp_ties}
use Rattle.memory_store.specs.declared.entries.RowFilter.{RowFilter}
use Rattle.memory_store.specs.declared.list_store.KeptSubmission.{KeptSubmission}
use Rattle.memory_store.specs.declared.place_index.KeyKind.{KeyKind}
use Rattle.memory_store.specs.declared.place_index.KeyKind.TheVariants as kinds
use Rattle.memory_store.specs.declared.place_index.PlaceIndex.{PlaceIndex}
use Rattle.memory_store.specs.declared.row_key.RowKey.{RowKey}
use Rattle.memory_store.specs.declared.row_places.RowPlaces.{RowPlaces}

-- ---- keys

and_true : (t : Bool) → (t && true) ≡ t
and_true true = refl
and_true false = refl

both_true : (s t : Bool) → (s && t) ≡ true → (s ≡ true) × (t ≡ true)
both_true true t is = (refl, is)
both_true false t is = absurd (true≢false (sym is))

-- keys that the order does not distinguish are equal
key_ties : (k l : RowKey) → is_eq (key_cmp k l) ≡ is_same_key k l
key_ties k l = sym (key_cmp_ties k l)

same_option : {A : Type 0} (E : A → A → Bool) → ((x y : A) → E x y ≡ true → x ≡ y) → (first second : Option A) → option_eq E first second ≡ true → first ≡ second
same_option E same None None is = refl
same_option E same None (Some y) is = absurd (true≢false (sym is))
same_option E same (Some x) None is = absurd (true≢false (sym is))
same_option E same (Some x) (Some y) is = ap Some (same x y is)

-- keys that are one are equal
same_keys : (k l : RowKey) → is_same_key k l ≡ true → k ≡ l
same_keys k l is =
    let parts = both_true (bytes_eq k.company l.company && option_eq bytes_eq k.reference l.reference) (option_eq nat_eq k.order l.order) is in
    let texts = both_true (bytes_eq k.company l.company) (option_eq bytes_eq k.reference l.reference) parts.0 in
    let company : k.company ≡ l.company = same_text k.company l.company (sym texts.0) in
    let reference : k.reference ≡ l.reference = same_option bytes_eq (λ x y e. same_text x y (sym e)) k.reference l.reference texts.1 in
    let order : k.order ≡ l.order = same_option nat_eq eqb-true k.order l.order parts.1 in
    (λ i. record { company = company i; reference = reference i; order = order i })

-- ---- one more place

-- one key has one more place, and all others have what they had
pub one_more_under : {X : Type 0} (items : X → List ℕ) (f g : RowKey → Option X) (key : RowKey) (w : X) (place : ℕ)
    → ((k : RowKey) → g k ≡ cond (is_eq (key_cmp key k)) (Some w) (f k)) → items w ≡ unwrap_or (option_map items (f key)) [] ++ place ∷ []
    → (k : RowKey) → unwrap_or (option_map items (g k)) [] ≡ unwrap_or (option_map items (f k)) [] ++ place_under k (Some key) place
one_more_under items f g key w place puts more k =
    ap (λ o. unwrap_or (option_map items o) []) (puts k ∙ ap (λ (t : Bool). cond t (Some w) (f k)) (key_ties key k))
    ∙ of_key (is_same_key key k) refl where
      of_key : (t : Bool) → is_same_key key k ≡ t → unwrap_or (option_map items (cond t (Some w) (f k))) [] ≡ unwrap_or (option_map items (f k)) [] ++ (if t then place ∷ [] else [])
      of_key true is = more ∙ ap (λ (l : RowKey). unwrap_or (option_map items (f l)) [] ++ place ∷ []) (same_keys key k is)
      of_key false is = sym (append-nil _)

-- a key whose places are written back as they were
pub as_many_under : {X : Type 0} (items : X → List ℕ) (f g : RowKey → Option X) (key : RowKey) (w : X)
    → ((k : RowKey) → g k ≡ cond (is_eq (key_cmp key k)) (Some w) (f k)) → items w ≡ unwrap_or (option_map items (f key)) []
    → (k : RowKey) → unwrap_or (option_map items (g k)) [] ≡ unwrap_or (option_map items (f k)) []
as_many_under items f g key w puts same k =
    ap (λ o. unwrap_or (option_map items o) []) (puts k ∙ ap (λ (t : Bool). cond t (Some w) (f k)) (key_ties key k))
    ∙ of_key (is_same_key key k) refl where
      of_key : (t : Bool) → is_same_key key k ≡ t → unwrap_or (option_map items (cond t (Some w) (f k))) [] ≡ unwrap_or (option_map items (f k)) []
      of_key true is = same ∙ ap (λ (l : RowKey). unwrap_or (option_map items (f l)) []) (same_keys key k is)
      of_key false is = refl

-- the places of the elements that pass a test, from the first number on
abbrev places_where : {X : Type 0} → (X → Bool) → ℕ → List X → List ℕ
places_where test n xs = map (λ y. y.0) (filter (λ y. test y.1) (enumerate_from n xs))

places_where_more : {X : Type 0} (test : X → Bool) (n : ℕ) (xs : List X) (x : X) (at : ℕ) → n + length xs ≡ at → places_where test n (xs ++ x ∷ []) ≡ places_where test n xs ++ (if test x then at ∷ [] else [])
places_where_more {X} test n [] x at is = of_test (test x) (omega (arith, is)) where
  of_test : (t : Bool) → n ≡ at → map (λ (z : ℕ × X). z.0) (if t then (n, x) ∷ [] else []) ≡ (if t then at ∷ [] else [])
  of_test true e = ap (λ (m : ℕ). m ∷ []) e
  of_test false e = refl
places_where_more {X} test n (y ∷ xs) x at is = of_test (test y) (places_where_more test (n + 1) xs x at (omega (arith, is))) where
  of_test : (t : Bool) → places_where test (n + 1) (xs ++ x ∷ []) ≡ places_where test (n + 1) xs ++ (if test x then at ∷ [] else [])
      → map (λ (z : ℕ × X). z.0) (if t then (n, y) ∷ filter (λ (z : ℕ × X). test z.1) (enumerate_from (n + 1) (xs ++ x ∷ [])) else filter (λ (z : ℕ × X). test z.1) (enumerate_from (n + 1) (xs ++ x ∷ [])))
      ≡ map (λ (z : ℕ × X). z.0) (if t then (n, y) ∷ filter (λ (z : ℕ × X). test z.1) (enumerate_from (n + 1) xs) else filter (λ (z : ℕ × X). test z.1) (enumerate_from (n + 1) xs)) ++ (if test x then at ∷ [] else [])
  of_test true rest = ap (λ zs. n ∷ zs) rest
  of_test false rest = rest

-- one more row
pub placed_more : (kind : KeyKind) (rows : List CompanyRow) (old new : PlaceIndex) (x : CompanyRow) → old.indexed < length rows → x ≡ get_or rows old.indexed x
    → ((k : RowKey) → listed_under k new ≡ listed_under k old ++ place_under k (key_in kind x) old.indexed) → new.indexed ≡ old.indexed + 1 → IsPlaced kind rows old → IsPlaced kind rows new
placed_more kind rows old new x some is put one held =
    let at = old.indexed in
    let keys = map (key_in kind) rows in
    let before = take at keys in
    let within : at < length keys = omega (arith, length-map rows (key_in kind), some) in
    let here : get_or keys at (key_in kind x) ≡ key_in kind x = get_or-map (key_in kind) rows at x (key_in kind x) some ∙ ap (key_in kind) (sym is) in
    let more : take new.indexed keys ≡ before ++ key_in kind x ∷ [] =
    ap (λ (n : ℕ). take n keys) one ∙ take_more keys at (key_in kind x) within ∙ ap (λ (o : Option RowKey). before ++ o ∷ []) here in
    let so_many : length before ≡ at = length-take-le at keys (omega (arith, within)) in
    record {
      within = omega (arith, one, some);
      places = λ k.
          put k
          ∙ ap (λ (ps : List ℕ). ps ++ place_under k (key_in kind x) at) (held.places k)
          ∙ sym (places_where_more (is_key k) 0 before (key_in kind x) at (omega (arith, so_many)))
          ∙ ap (places_of k) (sym more);
    }

-- an index that covers all rows finds all places
pub placed_whole : (kind : KeyKind) (rows : List CompanyRow) (index : PlaceIndex) → IsPlaced kind rows index → index.indexed ≡ length rows → FindsAll kind rows index
placed_whole kind rows index held whole k =
    let keys = map (key_in kind) rows in
    held.places k ∙ ap (places_of k) (ap (λ (n : ℕ). take n keys) (whole ∙ sym (length-map rows (key_in kind))) ∙ take-length keys)

-- ---- other rows of the same keys

pub placed_as : (kind : KeyKind) (rows found : List CompanyRow) (old new : PlaceIndex) → map (key_in kind) found ≡ map (key_in kind) rows → new ≡ old → IsPlaced kind rows old → IsPlaced kind found new
placed_as kind rows found old new same kept held =
    let so_many : length found ≡ length rows = sym (length-map found (key_in kind)) ∙ ap length same ∙ length-map rows (key_in kind) in
    let with_old : IsPlaced kind found old = record {
      within = omega (arith, so_many, held.within);
      places = λ k. held.places k ∙ ap (λ (keys : List (Option RowKey)). places_of k (take old.indexed keys)) (sym same);
    } in
    subst (λ (index : PlaceIndex). IsPlaced kind found index) (sym kept) with_old

-- rows that come later are not covered
pub placed_behind : (kind : KeyKind) (rows more : List CompanyRow) (index : PlaceIndex) → IsPlaced kind rows index → IsPlaced kind (rows ++ more) index
placed_behind kind rows more index held =
    let keys = map (key_in kind) rows in
    let so_far : index.indexed ≤ length keys = omega (arith, length-map rows (key_in kind), held.within) in
    let same : take index.indexed (map (key_in kind) (rows ++ more)) ≡ take index.indexed keys =
    ap (take index.indexed) (map-append (key_in kind) rows more) ∙ take-append-le index.indexed keys (map (key_in kind) more) so_far in
    record {
      within = omega (arith, length-append rows more, held.within);
      places = λ k. held.places k ∙ ap (places_of k) (sym same);
    }

-- an index that finds the same, whatever else it is
pub placed_alike : (kind : KeyKind) (rows : List CompanyRow) (old new : PlaceIndex) → ((k : RowKey) → listed_under k new ≡ listed_under k old) → new.indexed ≡ old.indexed → IsPlaced kind rows old → IsPlaced kind rows new
placed_alike kind rows old new alike same held = record {
  within = omega (arith, same, held.within);
  places = λ k. alike k ∙ held.places k ∙ ap (λ (n : ℕ). places_of k (take n (map (key_in kind) rows))) (sym same);
}

-- ---- what stands at the places

-- the places of a key have all elements with it
found : {X Y Z : Type 0} (g : ℕ → Option X) (r : X → Y) (f : Y → Z) (test : Z → Bool) (n : ℕ) (xs : List X) → ((i : ℕ) → g (n + i) ≡ slice_get xs i) → filter_map g (places_where test n (map f (map r xs))) ≡ filter (λ x. test (f (r x))) xs
found g r f test n [] stands = refl
found {X} g r f test n (x ∷ xs) stands =
    let here : g n ≡ Some x = ap g (omega arith) ∙ stands 0 in
    of_test (test (f (r x))) here (found g r f test (n + 1) xs (λ i. ap g (omega arith) ∙ stands (suc i))) where
      later : List ℕ
      later = places_where test (n + 1) (map f (map r xs))

      of_test : (t : Bool) → g n ≡ Some x → filter_map g later ≡ filter (λ y. test (f (r y))) xs
          → filter_map g (map (λ y. y.0) (if t then (n, f (r x)) ∷ filter (λ y. test y.1) (enumerate_from (n + 1) (map f (map r xs))) else filter (λ y. test y.1) (enumerate_from (n + 1) (map f (map r xs)))))
          ≡ (if t then x ∷ filter (λ y. test (f (r y))) xs else filter (λ y. test (f (r y))) xs)
      of_test true here rest = (λ i. cons_option (here i) (rest i))
      of_test false here rest = rest

picked_all : (kind : KeyKind) (k : RowKey) (kept : List KeptSubmission) → picked kept (places_of k (map (key_in kind) (map row_in kept))) ≡ filter (λ x. is_key k (key_in kind (row_in x))) kept
picked_all kind k kept = found (slice_get kept) row_in (key_in kind) (is_key k) 0 kept (λ i. ap (slice_get kept) (omega arith))

-- rows that pass no test are not needed for what passes it
narrowed : (P : Row → Bool) (c : List ℕ) (Q : KeptSubmission → Bool) (kept : List KeptSubmission)
    → ((x : KeptSubmission) → bytes_eq x.company c ≡ true → P (row_in x).row ≡ true → Q x ≡ true) → filter P (rows_for (filter Q kept) c) ≡ filter P (rows_for kept c)
narrowed P c Q [] all = refl
narrowed P c Q (x ∷ kept) all = of_Q (Q x) refl (narrowed P c Q kept all) where
  row : Row
  row = (row_in x).row

  few : List Row
  few = rows_for (filter Q kept) c

  many : List Row
  many = rows_for kept c

  fewer : List CompanyRow
  fewer = filter (λ y. bytes_eq y.company c) (map row_in (filter Q kept))

  others : List CompanyRow
  others = filter (λ y. bytes_eq y.company c) (map row_in kept)

  same_company : (t : Bool) → filter P few ≡ filter P many → filter P (map (λ y. y.row) (if t then row_in x ∷ fewer else fewer)) ≡ filter P (map (λ y. y.row) (if t then row_in x ∷ others else others))
  same_company true rest = ap (λ (rows : List Row). if P row then row ∷ rows else rows) rest
  same_company false rest = rest

  not_P : (p : Bool) → P row ≡ p → (p ≡ true → ⊥) → filter P few ≡ filter P many → filter P few ≡ (if p then row ∷ filter P many else filter P many)
  not_P true is none rest = absurd (none refl)
  not_P false is none rest = rest

  left_out : Q x ≡ false → (t : Bool) → bytes_eq x.company c ≡ t → filter P few ≡ filter P many → filter P few ≡ filter P (map (λ y. y.row) (if t then row_in x ∷ others else others))
  left_out out true own rest = not_P (P row) refl (λ passes. true≢false (sym (all x own passes) ∙ out)) rest
  left_out out false own rest = rest

  of_Q : (q : Bool) → Q x ≡ q → filter P few ≡ filter P many → filter P (rows_for (if q then x ∷ filter Q kept else filter Q kept) c) ≡ filter P (map (λ y. y.row) (if bytes_eq x.company c then row_in x ∷ others else others))
  of_Q true is rest = same_company (bytes_eq x.company c) rest
  of_Q false is rest = left_out is (bytes_eq x.company c) refl rest

-- the rows that pass a test, if all that pass it have the key
pub passing_all : (P : Row → Bool) (c : List ℕ) (kind : KeyKind) (k : RowKey) (kept : List KeptSubmission) (places : List ℕ) → places ≡ places_of k (map (key_in kind) (map row_in kept))
    → ((x : KeptSubmission) → bytes_eq x.company c ≡ true → P (row_in x).row ≡ true → is_key k (key_in kind (row_in x)) ≡ true) → filter P (rows_for (picked kept places) c) ≡ filter P (rows_for kept c)
passing_all P c kind k kept places are all =
    ap (λ (ps : List ℕ). filter P (rows_for (picked kept ps) c)) are
    ∙ ap (λ (some : List KeptSubmission). filter P (rows_for some c)) (picked_all kind k kept)
    ∙ narrowed P c (λ x. is_key k (key_in kind (row_in x))) kept all

-- a company's key is that of its rows
pub own_key : (x : KeptSubmission) (c : List ℕ) → bytes_eq x.company c ≡ true → is_key (whole c) (Some (whole x.company)) ≡ true
own_key x c own = ap (λ (t : Bool). (t && true) && true) own

-- those that may be open
pub open_all : (since : ℕ) (c : List ℕ) (kept : List KeptSubmission) (places : List ℕ) → places ≡ places_of (whole c) (map (key_in (kinds.OpenSince since)) (map row_in kept))
    → filter (is_found_open since) (rows_for (picked kept places) c) ≡ filter (is_found_open since) (rows_for kept c)
open_all since c kept places are = passing_all (is_found_open since) c (kinds.OpenSince since) (whole c) kept places are has_key where
  has_key : (x : KeptSubmission) → bytes_eq x.company c ≡ true → is_found_open since (row_in x).row ≡ true → is_key (whole c) (key_in (kinds.OpenSince since) (row_in x)) ≡ true
  has_key x own found =
      let may : may_be_open since x.settled ≡ true = (both_true (may_be_open since x.settled) (is_open_row since (row_in x).row) found).0 in
      ap (λ (t : Bool). is_key (whole c) (if t then Some (whole x.company) else None)) may ∙ own_key x c own

-- the retries of an entry
pub retries_all : (of : List ℕ) (index : ℕ) (c : List ℕ) (kept : List KeptSubmission) (places : List ℕ) → places ≡ places_of (under c of) (map (key_in kinds.Original) (map row_in kept))
    → retry_rows (rows_for (picked kept places) c) of index ≡ retry_rows (rows_for kept c) of index
retries_all of index c kept places are = passing_all (λ row. is_same_entry of index row.retry) c kinds.Original (under c of) kept places are (λ x own same. has_key x own x.retry refl same) where
  has_key : (x : KeptSubmission) → bytes_eq x.company c ≡ true → (retry : Option Retry) → x.retry ≡ retry → is_same_entry of index retry ≡ true → is_key (under c of) (option_map (λ r. under x.company r.of) retry) ≡ true
  has_key x own None is same = absurd (true≢false (sym same))
  has_key x own (Some retry) is same = (λ i. (own i && (both_true (bytes_eq retry.of of) (retry.index == index) same).0 i) && true)

-- the submission with a reference
pub under_all : (reference c : List ℕ) (kept : List KeptSubmission) (places : List ℕ) → places ≡ places_of (under c reference) (map (key_in kinds.Reference) (map row_in kept))
    → row_under (rows_for (picked kept places) c) reference ≡ row_under (rows_for kept c) reference
under_all reference c kept places are =
    let named = is_row_under reference in
    sym (find_filtered named (rows_for (picked kept places) c))
    ∙ ap (find named) (passing_all named c kinds.Reference (under c reference) kept places are (λ x own same. (λ i. (own i && same i) && true)))
    ∙ find_filtered named (rows_for kept c)

-- how many rows a company has
counted : (c : List ℕ) (n : ℕ) (kept : List KeptSubmission) → length (places_where (is_key (whole c)) n (map (key_in kinds.Company) (map row_in kept))) ≡ length (rows_for kept c)
counted c n [] = refl
counted c n (x ∷ kept) =
    ap later (and_true (bytes_eq x.company c && true) ∙ and_true (bytes_eq x.company c)) ∙ of_test (bytes_eq x.company c) (counted c (n + 1) kept) where
      rest : List (ℕ × Option RowKey)
      rest = filter (λ y. is_key (whole c) y.1) (enumerate_from (n + 1) (map (key_in kinds.Company) (map row_in kept)))

      others : List CompanyRow
      others = filter (λ y. bytes_eq y.company c) (map row_in kept)

      later : Bool → ℕ
      later t = length (map (λ y. y.0) (if t then (n, Some (whole x.company)) ∷ rest else rest))

      of_test : (t : Bool) → length (map (λ y. y.0) rest) ≡ length (rows_for kept c) → later t ≡ length (map (λ y. y.row) (if t then row_in x ∷ others else others))
      of_test true same = ap suc same
      of_test false same = same

pub counted_all : (c : List ℕ) (kept : List KeptSubmission) → length (places_of (whole c) (map (key_in kinds.Company) (map row_in kept))) ≡ length (rows_for kept c)
counted_all c kept = counted c 0 kept

-- ---- looks at one place after another

-- what passes at one place more
pub passing_more : (kept : List KeptSubmission) (place : ℕ) (places : List ℕ) (c : List ℕ) (f : RowFilter)
    → filter (passes f) (rows_for (picked kept (place ∷ places)) c) ≡ passing_at kept place c f ++ filter (passes f) (rows_for (picked kept places) c)
passing_more kept place places c f = of_place (slice_get kept place) where
  later : List KeptSubmission
  later = picked kept places

  of_row : (x : KeptSubmission) (own : Bool)
      → filter (passes f) (map (λ y. y.row) (if own then row_in x ∷ filter (λ y. bytes_eq y.company c) (map row_in later) else filter (λ y. bytes_eq y.company c) (map row_in later)))
      ≡ filter (passes f) (map (λ y. y.row) (if own then row_in x ∷ [] else [])) ++ filter (passes f) (rows_for later c)
  of_row x true = of_test (passes f (row_in x).row) where
    of_test : (t : Bool) → (if t then (row_in x).row ∷ filter (passes f) (rows_for later c) else filter (passes f) (rows_for later c)) ≡ (if t then (row_in x).row ∷ [] else []) ++ filter (passes f) (rows_for later c)
    of_test true = refl
    of_test false = refl
  of_row x false = refl

  of_place : (o : Option KeptSubmission) → filter (passes f) (rows_for (cons_option o later) c) ≡ filter (passes f) (rows_for (cons_option o []) c) ++ filter (passes f) (rows_for later c)
  of_place None = refl
  of_place (Some x) = of_row x (bytes_eq x.company c)

-- the element at a place, within the list and past it
pub picked_here : (kept : List KeptSubmission) (place : ℕ) (x : KeptSubmission) → place < length kept → x ≡ get_or kept place x → picked kept (place ∷ []) ≡ x ∷ []
picked_here kept place x within is = ap (λ (o : Option KeptSubmission). cons_option o []) (slice_get-get_or kept place x within ∙ ap Some (sym is))

pub picked_past : (kept : List KeptSubmission) (place : ℕ) → length kept ≤ place → picked kept (place ∷ []) ≡ []
picked_past kept place past = ap (λ (o : Option KeptSubmission). cons_option o []) (slice_get_past kept place past)

pub passing_here : (kept : List KeptSubmission) (place : ℕ) (x : KeptSubmission) (c : List ℕ) (f : RowFilter) → place < length kept → x ≡ get_or kept place x
    → passing_at kept place c f ≡ (if bytes_eq x.company c && passes f (row_in x).row then (row_in x).row ∷ [] else [])
passing_here kept place x c f within is =
    ap (λ (xs : List KeptSubmission). filter (passes f) (rows_for xs c)) (picked_here kept place x within is) ∙ of_company (bytes_eq x.company c) where
      of_company : (own : Bool) → filter (passes f) (map (λ y. y.row) (if own then row_in x ∷ [] else [])) ≡ (if own && passes f (row_in x).row then (row_in x).row ∷ [] else [])
      of_company true = refl
      of_company false = refl

pub passing_past : (kept : List KeptSubmission) (place : ℕ) (c : List ℕ) (f : RowFilter) → length kept ≤ place → passing_at kept place c f ≡ []
passing_past kept place c f past = ap (λ (xs : List KeptSubmission). filter (passes f) (rows_for xs c)) (picked_past kept place past)

-- the first submission with a reference, at a place or at those after it
under_more : (kept : List KeptSubmission) (place : ℕ) (places : List ℕ) (c reference : List ℕ)
    → row_under (rows_for (picked kept (place ∷ places)) c) reference ≡ option_or (row_under (rows_for (picked kept (place ∷ [])) c) reference) (row_under (rows_for (picked kept places) c) reference)
under_more kept place places c reference = of_place (slice_get kept place) where
  later : List KeptSubmission
  later = picked kept places

  of_row : (x : KeptSubmission) (own : Bool)
      → find (is_row_under reference) (map (λ y. y.row) (if own then row_in x ∷ filter (λ y. bytes_eq y.company c) (map row_in later) else filter (λ y. bytes_eq y.company c) (map row_in later)))
      ≡ option_or (find (is_row_under reference) (map (λ y. y.row) (if own then row_in x ∷ [] else []))) (row_under (rows_for later c) reference)
  of_row x true = of_test (is_row_under reference (row_in x).row) where
    of_test : (t : Bool) → (if t then Some (row_in x).row else row_under (rows_for later c) reference) ≡ option_or (if t then Some (row_in x).row else None) (row_under (rows_for later c) reference)
    of_test true = refl
    of_test false = refl
  of_row x false = refl

  of_place : (o : Option KeptSubmission) → row_under (rows_for (cons_option o later) c) reference ≡ option_or (row_under (rows_for (cons_option o []) c) reference) (row_under (rows_for later c) reference)
  of_place None = refl
  of_place (Some x) = of_row x (bytes_eq x.company c)

-- it is at the place
pub under_here : (kept : List KeptSubmission) (place : ℕ) (places : List ℕ) (c reference : List ℕ) (row : Row) → row_under (rows_for (picked kept (place ∷ [])) c) reference ≡ Some row → row_under (rows_for (picked kept (place ∷ places)) c) reference ≡ Some row
under_here kept place places c reference row here = under_more kept place places c reference ∙ ap (λ (o : Option Row). option_or o (row_under (rows_for (picked kept places) c) reference)) here

-- it does not
pub under_later : (kept : List KeptSubmission) (place : ℕ) (places : List ℕ) (c reference : List ℕ) → row_under (rows_for (picked kept (place ∷ [])) c) reference ≡ None → row_under (rows_for (picked kept (place ∷ places)) c) reference ≡ row_under (rows_for (picked kept places) c) reference
under_later kept place places c reference here = under_more kept place places c reference ∙ ap (λ (o : Option Row). option_or o (row_under (rows_for (picked kept places) c) reference)) here

-- ---- an index that is brought up to date, and what it then finds

-- one index, or all that are kept together
pub covered : {X : Type 0} (P : List CompanyRow → X → Type 0) (kind : KeyKind) (own kept : List KeptSubmission) (old new : X) (index : PlaceIndex) → own ≡ kept → P (map row_in kept) old
    → (P (map row_in own) old → P (map row_in own) new) → (P (map row_in own) old → FindsAll kind (map row_in own) index) → P (map row_in kept) new × FindsAll kind (map row_in kept) index
covered P kind own kept old new index same held right whole =
    let before : P (map row_in own) old = subst (λ (xs : List KeptSubmission). P (map row_in xs) old) (sym same) held in
    (subst (λ (xs : List KeptSubmission). P (map row_in xs) new) same (right before), subst (λ (xs : List KeptSubmission). FindsAll kind (map row_in xs) index) same (whole before))

-- the places that it then has for a key
pub standing : (kind : KeyKind) (asked key : RowKey) (rows : List CompanyRow) (index : PlaceIndex) (places : List ℕ) → asked ≡ key → FindsAll kind rows index → places ≡ listed_under asked index → places ≡ places_of key (map (key_in kind) rows)
standing kind asked key rows index places is finds are = are ∙ finds asked ∙ ap (λ (k : RowKey). places_of k (map (key_in kind) rows)) is

-- ---- what writes leave of the keys

pub each_same : (key : CompanyRow → Option RowKey) (change : CompanyRow → CompanyRow) → ((x : CompanyRow) → key (change x) ≡ key x) → (rows : List CompanyRow) → map key (map change rows) ≡ map key rows
each_same key change same [] = refl
each_same key change same (x ∷ rows) = (λ i. same x i ∷ each_same key change same rows i)

turns_same : {X : Type 0} (key : CompanyRow → Option RowKey) (change : X → CompanyRow → CompanyRow) → ((c : X) (x : CompanyRow) → key (change c x) ≡ key x) → (cs : List X) (rows : List CompanyRow) → map key (in_turn change cs rows) ≡ map key rows
turns_same key change same [] rows = refl
turns_same key change same (c ∷ cs) rows = turns_same key change same cs (map (change c) rows) ∙ each_same key (change c) (same c) rows

cut_same : (key : CompanyRow → Option RowKey) → IsSteady key → (w : CutWrite) (r : Rows) → map key (cut_in w r).submissions ≡ map key r.submissions
cut_same key steady w r = turns_same key lapse_in (lapsed_same key steady) w.lapsed (in_turn send_in w.sent r.submissions) ∙ turns_same key send_in (sent_same key steady) w.sent r.submissions

-- the indexes after a cut: that of open rows has no day
pub placed_after_cut : (w : CutWrite) (r : Rows) (rows : List CompanyRow) (old new : RowPlaces) → rows ≡ (cut_in w r).submissions → new ≡ record old { since = None } → ArePlaced r.submissions old → ArePlaced rows new
placed_after_cut w r rows old new are left held =
    subst (λ (index : RowPlaces). ArePlaced rows index) (sym left) (record {
      companies = placed_as kinds.Company r.submissions rows old.companies old.companies (kept kinds.Company (λ x s l es. refl)) refl held.companies;
      references = placed_as kinds.Reference r.submissions rows old.references old.references (kept kinds.Reference (λ x s l es. refl)) refl held.references;
      orders = placed_as kinds.Order r.submissions rows old.orders old.orders (kept kinds.Order (λ x s l es. refl)) refl held.orders;
      originals = placed_as kinds.Original r.submissions rows old.originals old.originals (kept kinds.Original (λ x s l es. refl)) refl held.originals;
      recent = λ since is. absurd (none-some since is);
    }) where
      kept : (kind : KeyKind) → IsSteady (key_in kind) → map (key_in kind) rows ≡ map (key_in kind) r.submissions
      kept kind steady = ap (map (key_in kind)) are ∙ cut_same (key_in kind) steady w r

-- the indexes after an incoming file
pub placed_after_intake : (w : IntakeWrite) (r : Rows) (rows : List CompanyRow) (old new : RowPlaces) → rows ≡ (intake_in w r).submissions → new ≡ old → ArePlaced r.submissions old → ArePlaced rows new
placed_after_intake w r rows old new are left held =
    subst (λ (index : RowPlaces). ArePlaced rows index) (sym left) (record {
      companies = placed_as kinds.Company r.submissions rows old.companies old.companies (kept kinds.Company (λ x es. refl)) refl held.companies;
      references = placed_as kinds.Reference r.submissions rows old.references old.references (kept kinds.Reference (λ x es. refl)) refl held.references;
      orders = placed_as kinds.Order r.submissions rows old.orders old.orders (kept kinds.Order (λ x es. refl)) refl held.orders;
      originals = placed_as kinds.Original r.submissions rows old.originals old.originals (kept kinds.Original (λ x es. refl)) refl held.originals;
      recent = λ since is. placed_as (kinds.OpenSince since) r.submissions rows old.recent old.recent (kept (kinds.OpenSince since) (λ x es. refl)) refl (held.recent since is);
    }) where
      kept : (kind : KeyKind) → IsOfContent (key_in kind) → map (key_in kind) rows ≡ map (key_in kind) r.submissions
      kept kind steady = ap (map (key_in kind)) are ∙ turns_same (key_in kind) return_in (returned_same (key_in kind) steady) w.returned r.submissions

-- the indexes, with one more row at the end
pub placed_before : (rows found : List CompanyRow) (more : List CompanyRow) (places : RowPlaces) → found ≡ rows ++ more → ArePlaced rows places → ArePlaced found places
placed_before rows found more places are held =
    subst (λ (all : List CompanyRow). ArePlaced all places) (sym are) (record {
      companies = placed_behind kinds.Company rows more places.companies held.companies;
      references = placed_behind kinds.Reference rows more places.references held.references;
      orders = placed_behind kinds.Order rows more places.orders held.orders;
      originals = placed_behind kinds.Original rows more places.originals held.originals;
      recent = λ since is. placed_behind (kinds.OpenSince since) rows more places.recent (held.recent since is);
    })
