-- What a SELECT of one plain table answers.
use Rattle.std.proofs.Common.{◌≡◌, ℕ, ℤ, pos, negsuc, zero, suc, take, reverse, Bool, true, false, not, cond, nat_le, List, [], ◌∷◌, ◌++◌, map, filter, flat_map, Some, None, Option, unwrap_or, refl, sym, ap, ◌∙◌, subst, Less, IsPermutation, true≢false, Ok, Err, ◌^◌}
use Rattle.std.specs.List.{list_all}
use Rattle.std.proofs.lemmas.List.Sorted.{IsPermutation-map}
use Rattle.sqlite_value.specs.Order.{Row}
use Rattle.sqlite_value.specs.declared.keys.Key.{Key}
use Rattle.sqlite_value.specs.declared.value.Value.TheVariants.{Null, Int}
use Rattle.sqlite_trees.specs.Tree.{Trees, IsAscending}
use Rattle.sqlite_sql.specs.Term.{Term, holds, eval_all}
use Rattle.sqlite_sql.specs.Query.{Query, limited, as_count, matches, inner, end, key_cmp, Output, output, output_cmp, IsAnswer}
use Rattle.sqlite_sql.specs.Program.{overlay, given_at}
use Rattle.sqlite_sql.proofs.QueryLemmas.{output_cmp_total}
use Rattle.sqlite_schema.specs.declared.command.Command.{Command}
use Rattle.sqlite_schema.specs.declared.command.Command.TheVariants.{Select}
use Rattle.sqlite_schema.specs.declared.schema.Schema.{Schema}
use Rattle.sqlite_keyed.proofs.ListLemmas.{map-map, filter-map, ascending-map, ascending-filter, IsPermutation-filter}
use Rattle.sqlite_keyed.proofs.SortLemmas.{sorted_unique}
use Rattle.sqlite.specs.Effect.{Reads}
use Rattle.sqlite.specs.State.{State, Shown}
use Rattle.sqlite.specs.Listing.{understood}
use Rattle.sqlite.proofs.Callers.{command_of, reads_as}
use Rattle.sql_statements.specs.StoredRows.{Form, row_of, Stores}
use Rattle.sql_statements.specs.Statements.{query_from, query_within, plain_query, HasNoLets, is_select, IsSelect}

pub overlay_none : (db : Trees) (t : ℕ) → overlay db [] t ≡ db t
overlay_none db t = elim (nat_le (2 ^ 31) t) as (λ b. unwrap_or (cond b (Rattle.std.proofs.Common.slice_get (given_none) (Rattle.std.proofs.Common.◌-◌ t (2 ^ 31))) None) (db t) ≡ db t) [ true ↦ refl | false ↦ refl ]
  where
    given_none : List (List Row)
    given_none = []

module _ {X : Type 0} (form : Form X) (tree : ℕ) (tests : List Term) (params : Row) (p : ℤ × X → Bool)
    (tested : (i : ℤ) (x : X) → list_all (holds (params ∷ row_of form (i, x) ∷ [])) tests ≡ p (i, x)) where
  pub passing : (db : Trees) (ps : List (ℤ × X)) → db tree ≡ map (row_of form) ps
      → matches db tests (inner tree end) (params ∷ []) ≡ map (λ r. params ∷ row_of form r ∷ []) (filter p ps)
  passing db ps are = ap (flat_map (λ r. matches db tests end (params ∷ r ∷ []))) are ∙ each ps
    where
      each : (ps : List (ℤ × X)) → flat_map (λ r. matches db tests end (params ∷ r ∷ [])) (map (row_of form) ps) ≡ map (λ r. params ∷ row_of form r ∷ []) (filter p ps)
      each [] = refl
      each (r ∷ ps) =
          rw (tested r.0 r.1, each ps)
          (elim (p r) as (λ b. cond b ((params ∷ row_of form r ∷ []) ∷ []) [] ++ map (λ r. params ∷ row_of form r ∷ []) (filter p ps)
          ≡ map (λ r. params ∷ row_of form r ∷ []) (cond b (r ∷ filter p ps) (filter p ps))) [ true ↦ refl | false ↦ refl ])

limited_map : {A B : Type 0} (n : Option ℕ) (f : A → B) (xs : List A) → limited n (map f xs) ≡ map f (limited n xs)
limited_map None f xs = refl
limited_map (Some n) f xs = taken n xs
  where
    taken : (n : ℕ) (xs : List _) → take n (map f xs) ≡ map f (take n xs)
    taken zero xs = refl
    taken (suc n) [] = refl
    taken (suc n) (x ∷ xs) = ap (λ l. f x ∷ l) (taken n xs)

-- the rows that a text shows are an answer of its query
pub shown_answer : (schema : Schema) (sql : List ℕ) (q : Query) (params : Row) → IsSelect schema sql q → (old new : State) → old.now.schema ≡ schema → (rows : List Row) → Shown sql params old new rows → IsAnswer q (overlay old.now.trees []) params rows
shown_answer schema sql q params is old new has rows seen =
    let reads = reads_as sql params old new schema has (command_of (understood schema sql)) refl is.plain is.unlisted rows seen in
    answer (command_of (understood schema sql)) is.selects is.body is.alone reads
  where
    some_is : {A : Type 0} (a b : A) → Some a ≡ Some b → a ≡ b
    some_is a b e = cc

    answer : (c : Command) → is_select c ≡ true → plain_query c ≡ Some q → HasNoLets c → Reads c old.now params rows → IsAnswer q (overlay old.now.trees []) params rows
    answer (Select s names) picks body none got =
        subst (λ b. IsAnswer b (overlay old.now.trees []) params rows) (some_is _ _ body) ((subst (λ l. Rattle.sqlite_sql.specs.Program.IsProgramAnswer l s.body old.now.trees params rows) none got.answer) Null)
    answer _ picks body none got = absurd (true≢false (sym picks))

module _ {X : Type 0} (many : ℤ) (form : Form X) (tree : ℕ) (tests shown : List Term) (order : List (Term × Key)) (params : Row) (p : X → Bool) (show : X → Row) (sort : X → Row)
    (tested : (i : ℤ) (x : X) → list_all (holds (params ∷ row_of form (i, x) ∷ [])) tests ≡ p x)
    (shows : (i : ℤ) (x : X) → eval_all shown (params ∷ row_of form (i, x) ∷ []) ≡ show x)
    (sorts : (i : ℤ) (x : X) → eval_all (map (λ k. k.0) order) (params ∷ row_of form (i, x) ∷ []) ≡ sort x) where
  abbrev q : Query
  q = query_within many tree tests shown order

  abbrev out : X → Output
  out x = (sort x, show x)

  outputs_are : (rs : List (ℤ × X)) → map (output q) (map (λ r. params ∷ row_of form r ∷ []) rs) ≡ map out (map (λ r. r.1) rs)
  outputs_are [] = refl
  outputs_are (r ∷ rs) = rw (sorts r.0 r.1, shows r.0 r.1, outputs_are rs) refl

  -- the values that pass, in the order of the list
  pub answered : (db : Trees) (xs : List X) (rows : List Row) → Stores form (db tree) xs → IsAscending (λ a b. key_cmp 0 (map (λ k. k.1) order) (sort a) (sort b) ≡ Less) xs
      → IsAnswer q db params rows → rows ≡ map show (limited (as_count (Int many)) (filter p xs))
  answered db xs rows h up a =
      let all = map (λ (r : ℤ × X). r.1) h.numbered in
      let kept : a.kept ≡ map out (filter p all) =
      a.distinct ∙ ap (map (output q)) (a.grouped ∙ passing form tree tests params (λ r. p r.1) tested db h.numbered h.are) ∙ outputs_are _ ∙ ap (map out) (sym (filter-map p (λ r. r.1) h.numbered)) in
      let same : IsPermutation (map out (filter p xs)) a.ordered =
      Rattle.std.proofs.lemmas.List.Sorted.IsPermutation-trans _ _ _
      (Rattle.std.proofs.lemmas.List.Sorted.IsPermutation-sym _ _ (IsPermutation-map out _ _ (IsPermutation-filter p _ _ h.same)))
      (subst (λ l. IsPermutation l a.ordered) kept a.same) in
      let rises = ascending-map (λ x y. output_cmp q x y ≡ Less) out _ (ascending-filter _ p xs up) in
      let ordered = sorted_unique (output_cmp q) (output_cmp_total q) _ a.ordered rises same a.sorted in
      a.shown ∙ ap (λ l. limited (as_count (Int many)) (map (λ (o : Output). o.1) l)) ordered ∙ ap (limited (as_count (Int many))) (map-map (λ (o : Output). o.1) out _) ∙ limited_map (as_count (Int many)) show _

  -- the rows that the text shows
  pub selected_within : (schema : Schema) (sql : List ℕ) → IsSelect schema sql q → (old new : State) → old.now.schema ≡ schema → (xs : List X) → Stores form (old.now.trees tree) xs
      → IsAscending (λ a b. key_cmp 0 (map (λ k. k.1) order) (sort a) (sort b) ≡ Less) xs → (rows : List Row) → Shown sql params old new rows → rows ≡ map show (limited (as_count (Int many)) (filter p xs))
  selected_within schema sql is old new has xs h up rows seen =
      answered (overlay old.now.trees []) xs rows (subst (λ l. Stores form l xs) (sym (overlay_none old.now.trees tree)) h) up (shown_answer schema sql q params is old new has rows seen)

module _ {X : Type 0} (form : Form X) (tree : ℕ) (tests shown : List Term) (order : List (Term × Key)) (params : Row) (p : X → Bool) (show : X → Row) (sort : X → Row)
    (tested : (i : ℤ) (x : X) → list_all (holds (params ∷ row_of form (i, x) ∷ [])) tests ≡ p x)
    (shows : (i : ℤ) (x : X) → eval_all shown (params ∷ row_of form (i, x) ∷ []) ≡ show x)
    (sorts : (i : ℤ) (x : X) → eval_all (map (λ k. k.0) order) (params ∷ row_of form (i, x) ∷ []) ≡ sort x) where
  pub selected : (schema : Schema) (sql : List ℕ) → IsSelect schema sql (query_from tree tests shown order) → (old new : State) → old.now.schema ≡ schema → (xs : List X) → Stores form (old.now.trees tree) xs
      → IsAscending (λ a b. key_cmp 0 (map (λ k. k.1) order) (sort a) (sort b) ≡ Less) xs → (rows : List Row) → Shown sql params old new rows → rows ≡ map show (filter p xs)
  selected = selected_within (negsuc 0) form tree tests shown order params p show sort tested shows sorts
