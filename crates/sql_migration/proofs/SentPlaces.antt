-- The places that stand in the table of entries are those of all sent entries.
use Rattle.std.proofs.Common.{◌≡◌, ℕ, zero, suc, ◌+◌, ◌≤◌, nat_le, Bool, true, false, ◌||◌, ◌==◌, cond, List, [], ◌∷◌, map, filter, flat_map, find, slice_get, Option, Some, None, option_map, unwrap_or, refl, sym, subst, ap, ◌∙◌, arith, true≢false}
use Rattle.std.specs.List.{All, AllPairs, AllByRecursion, Contains, enumerate_from, list_any}
use Rattle.std.proofs.lemmas.Bool.{and_from, eq-eqb, ne_eqb, eqb-true}
use Rattle.std.proofs.lemmas.List.Elements.{recursion_from_All}
use Rattle.std.proofs.lemmas.List.Folds.{list_any-append, list_any_at}
use Rattle.std.proofs.lemmas.Slice.Eq.{bytes_eq-Decides}
use Rattle.sqlite_keyed.proofs.ListLemmas.{all_of, all-map, all-flat_map, all-slice_get}
use Rattle.desk_history.specs.declared.sent_entry.SentEntry.{SentEntry}
use Rattle.desk_store.specs.Rows.{CompanyRow, Rows}
use Rattle.sql_tables.specs.Beside.{AreApart, IsSentFrom}
use Rattle.sql_tables.specs.Encodes.{is_entry, entry_record, entry_records}
use Rattle.sql_tables.specs.TableReads.{is_place, is_at_place, is_since}
use Rattle.sql_tables.specs.declared.records.EntryRecord.{EntryRecord}
use Rattle.sql_tables.proofs.Lists.{ascending_from_pairs}
use Rattle.sql_read_laws.proofs.SentPlaces.{place_is}
use Rattle.sql_migration.specs.Migrated.{has_place, places_of}

abbrev is_numbered : ℕ → ℕ × SentEntry → Bool
is_numbered s p = p.0 == s

same_bools : (a b : Bool) → (a ≡ true → b ≡ true) → (b ≡ true → a ≡ true) → a ≡ b
same_bools true b to from = sym (to refl)
same_bools false true to from = from refl
same_bools false false to from = refl

-- ---- what stands in the table is a place

found_number : (p : ℕ × SentEntry → Bool) (sent : List (ℕ × SentEntry)) (n : ℕ) → option_map (λ (q : ℕ × SentEntry). q.0) (find p sent) ≡ Some n → list_any (is_numbered n) sent ≡ true
found_number p [] n is = absurd (let e = is in cc)
found_number p (q ∷ sent) n is = go (p q) is (found_number p sent n)
  where
    go : (b : Bool) → option_map (λ (q : ℕ × SentEntry). q.0) (cond b (Some q) (find p sent)) ≡ Some n → (option_map (λ (q : ℕ × SentEntry). q.0) (find p sent) ≡ Some n → list_any (is_numbered n) sent ≡ true)
        → (is_numbered n q || list_any (is_numbered n) sent) ≡ true
    go true is more = let at : q.0 ≡ n = (let e = is in cc) in ap (λ b. b || list_any (is_numbered n) sent) (eq-eqb q.0 n at)
    go false is more = elim (is_numbered n q) as (λ b. (b || list_any (is_numbered n) sent) ≡ true) [ true ↦ refl | false ↦ more is ]

module _ (r : Rows) where
  abbrev HasIts : EntryRecord → Type 0
  HasIts e = (n : ℕ) → e.place ≡ Some n → list_any (is_numbered n) (enumerate_from 1 r.sent) ≡ true

  all_have : AllByRecursion HasIts (flat_map (entry_records r.sent) r.submissions)
  all_have =
      all-flat_map HasIts (entry_records r.sent) r.submissions
      (all_of (λ x. AllByRecursion HasIts (entry_records r.sent x))
      (λ x. all-map HasIts (entry_record r.sent x.company x.row.order) (λ p n is. found_number (λ q. is_entry x.company x.row.order p.0 q.1) (enumerate_from 1 r.sent) n is) (enumerate_from 1 x.row.content.entries)) r.submissions)

  stands_numbered : (s : ℕ) (es : List EntryRecord) → AllByRecursion HasIts es → list_any (λ p. p == s) (places_of es) ≡ true → list_any (is_numbered s) (enumerate_from 1 r.sent) ≡ true
  stands_numbered s [] all is = absurd (true≢false (sym is))
  stands_numbered s (e ∷ es) all is = go e.place refl is (stands_numbered s es all.1)
    where
      one : (n : ℕ) → e.place ≡ Some n → (b : Bool) → (n == s) ≡ b → (b || list_any (λ p. p == s) (places_of es)) ≡ true → (list_any (λ p. p == s) (places_of es) ≡ true → list_any (is_numbered s) (enumerate_from 1 r.sent) ≡ true)
          → list_any (is_numbered s) (enumerate_from 1 r.sent) ≡ true
      one n at true same is more = subst (λ k. list_any (is_numbered k) (enumerate_from 1 r.sent) ≡ true) (eqb-true n s same) (all.0 n at)
      one n at false same is more = more is

      placed : (n : ℕ) → e.place ≡ Some n → (b : Bool) → list_any (λ p. p == s) (map (λ (e : EntryRecord). unwrap_or e.place 0) (cond b (e ∷ filter has_place es) (filter has_place es))) ≡ true
          → (list_any (λ p. p == s) (places_of es) ≡ true → list_any (is_numbered s) (enumerate_from 1 r.sent) ≡ true) → list_any (is_numbered s) (enumerate_from 1 r.sent) ≡ true
      placed n at true is more = one n at (n == s) refl (ap (λ (o : Option ℕ). unwrap_or o 0 == s || list_any (λ p. p == s) (places_of es)) (sym at) ∙ is) more
      placed n at false is more = more is

      go : (o : Option ℕ) → e.place ≡ o → list_any (λ p. p == s) (map (λ (e : EntryRecord). unwrap_or e.place 0) (cond (is_since 1 e.place) (e ∷ filter has_place es) (filter has_place es))) ≡ true
          → (list_any (λ p. p == s) (places_of es) ≡ true → list_any (is_numbered s) (enumerate_from 1 r.sent) ≡ true) → list_any (is_numbered s) (enumerate_from 1 r.sent) ≡ true
      go None at is more = more (ap (λ o. list_any (λ p. p == s) (map (λ (e : EntryRecord). unwrap_or e.place 0) (cond (is_since 1 o) (e ∷ filter has_place es) (filter has_place es)))) (sym at) ∙ is)
      go (Some n) at is more = placed n at (is_since 1 e.place) is more

-- ---- the place of each sent entry stands there

module _ {X : Type 0} (q : X → Bool) where
  any_in_flat : {A : Type 0} (f : A → List X) (xs : List A) → list_any q (flat_map f xs) ≡ list_any (λ x. list_any q (f x)) xs
  any_in_flat f [] = refl
  any_in_flat f (x ∷ xs) = list_any-append q (f x) (flat_map f xs) ∙ ap (λ b. list_any q (f x) || b) (any_in_flat f xs)

  any_in_map : {A : Type 0} (f : A → X) (xs : List A) → list_any q (map f xs) ≡ list_any (λ x. q (f x)) xs
  any_in_map f [] = refl
  any_in_map f (x ∷ xs) = ap (λ b. q (f x) || b) (any_in_map f xs)

  any_of : (xs : List X) (x : X) → Contains xs x → q x ≡ true → list_any q xs ≡ true
  any_of xs x has is = list_any_at q xs has.0 x has.1 (subst (λ y. q y ≡ true) (sym has.2) is)

numbered_sent : (s n : ℕ) (sent : List SentEntry) → list_any (is_numbered s) (enumerate_from n sent) ≡ true → (j : ℕ) × (e : SentEntry) × (slice_get sent j ≡ Some e) × (n + j ≡ s)
numbered_sent s n [] is = absurd (true≢false (sym is))
numbered_sent s n (e ∷ sent) is = go (n == s) refl is (numbered_sent s (n + 1) sent)
  where
    go : (b : Bool) → (n == s) ≡ b → (b || list_any (is_numbered s) (enumerate_from (n + 1) sent)) ≡ true → (list_any (is_numbered s) (enumerate_from (n + 1) sent) ≡ true → (j : ℕ) × (e : SentEntry) × (slice_get sent j ≡ Some e) × (n + 1 + j ≡ s))
        → (j : ℕ) × (f : SentEntry) × (slice_get (e ∷ sent) j ≡ Some f) × (n + j ≡ s)
    go true same is more = let at = eqb-true n s same in (zero, e, refl, (let is : n + zero ≡ s = omega (arith, at) in is))
    go false same is more = let it = more is in let at = it.3 in (suc it.0, it.1, it.2, (let is : n + suc it.0 ≡ s = omega (arith, at) in is))

-- the places that are s are those of the entries that have it
module _ (s : ℕ) (some : 1 ≤ s) where
  module _ (e : EntryRecord) (es : List EntryRecord) where
    abbrev rest : Bool
    rest = list_any (λ p. p == s) (places_of es)

    abbrev with_one : Bool → Bool
    with_one b = list_any (λ p. p == s) (map (λ (e : EntryRecord). unwrap_or e.place 0) (cond b (e ∷ filter has_place es) (filter has_place es)))

    low : (n : ℕ) → nat_le 1 n ≡ false → (n == s) ≡ false
    low n is = ne_eqb n s (λ same. grind arith)

    placed : (n : ℕ) → e.place ≡ Some n → (b : Bool) → nat_le 1 n ≡ b → with_one b ≡ (n == s || rest)
    placed n at true is = ap (λ (o : Option ℕ). unwrap_or o 0 == s || rest) at
    placed n at false is = ap (λ b. b || rest) (sym (low n is))

    one_more : (o : Option ℕ) → e.place ≡ o → with_one (is_since 1 e.place) ≡ (is_place s e.place || rest)
    one_more None at = ap (λ o. with_one (is_since 1 o)) at ∙ ap (λ o. is_place s o || rest) (sym at)
    one_more (Some n) at = ap (λ o. with_one (is_since 1 o)) at ∙ placed n at (nat_le 1 n) refl ∙ ap (λ o. is_place s o || rest) (sym at)

  at_place : (es : List EntryRecord) → list_any (λ p. p == s) (places_of es) ≡ list_any (is_at_place s) es
  at_place [] = refl
  at_place (e ∷ es) = one_more e es e.place refl ∙ ap (λ b. is_at_place s e || b) (at_place es)

module _ (r : Rows) (apart : AllPairs AreApart r.sent) (from : All (IsSentFrom r.submissions) r.sent) where
  sent_stands : (j : ℕ) (e : SentEntry) → slice_get r.sent j ≡ Some e → list_any (is_at_place (1 + j)) (flat_map (entry_records r.sent) r.submissions) ≡ true
  sent_stands j e at =
      let is : IsSentFrom r.submissions e = all-slice_get (IsSentFrom r.submissions) r.sent j e at (recursion_from_All (IsSentFrom r.submissions) r.sent from) in
      let x : CompanyRow = is.from in
      let its : is_entry x.company x.row.order e.index e ≡ true =
      and_from _ _ (and_from _ _ ((bytes_eq-Decides e.company x.company).1 (sym is.company)) (eq-eqb e.order x.row.order (sym is.content.0))) (eq-eqb e.index e.index refl) in
      let placed : is_at_place (1 + j) (entry_record r.sent x.company x.row.order (e.index, e.entry)) ≡ true =
      place_is x.company x.row.order e.index 1 j r.sent e (ascending_from_pairs AreApart r.sent apart) at ∙ its in
      any_in_flat (is_at_place (1 + j)) (entry_records r.sent) r.submissions
      ∙ any_of (λ y. list_any (is_at_place (1 + j)) (entry_records r.sent y)) r.submissions x is.stands
      (any_in_map (is_at_place (1 + j)) (entry_record r.sent x.company x.row.order) (enumerate_from 1 x.row.content.entries)
      ∙ any_of (λ p. is_at_place (1 + j) (entry_record r.sent x.company x.row.order p)) (enumerate_from 1 x.row.content.entries) (e.index, e.entry) is.entry placed)

  pub places_are : (entries : List EntryRecord) → entries ≡ flat_map (entry_records r.sent) r.submissions → (s : ℕ) → list_any (λ p. p == s) (places_of entries) ≡ list_any (is_numbered s) (enumerate_from 1 r.sent)
  places_are entries are s =
      same_bools (list_any (λ p. p == s) (places_of entries)) (list_any (is_numbered s) (enumerate_from 1 r.sent))
      (stands_numbered r s entries (subst (AllByRecursion (HasIts r)) (sym are) (all_have r)))
      (λ is.
      let it = numbered_sent s 1 r.sent is in
      let low : 1 ≤ s = let at = it.3 in omega (arith, at) in
      at_place s low entries ∙ subst (λ k. list_any (is_at_place k) entries ≡ true) it.3 (ap (list_any (is_at_place (1 + it.0))) are ∙ sent_stands it.0 it.1 it.2))
