-- The queries that show the last row of an order.
use Rattle.std.proofs.Common.{◌≡◌, ℕ, ℤ, pos, Bool, true, false, cond, List, [], ◌∷◌, ◌++◌, map, filter, take, reverse, slice_get, Option, option_map, unwrap_or, refl, sym, ap, ◌∙◌}
use Rattle.std.proofs.lemmas.Grind.{reverse_onto}
use Rattle.std.proofs.lemmas.List.{append-nil}
use Rattle.std.proofs.lemmas.List.Elements.{filter-append}
use Rattle.std.specs.Ordering.{nat_cmp}
use Rattle.sqlite.specs.State.{State}
use Rattle.sqlite_keyed.proofs.ListLemmas.{ascending_weaker}
use Rattle.sqlite_sql.specs.Term.{eval_all}
use Rattle.sqlite_value.specs.declared.value.Value.TheVariants.{Text}
use Rattle.sqlite_value.specs.Order.{Row}
use Rattle.sql_statements.proofs.Conditions.{text_is}
use Rattle.sql_statements.proofs.LastRows.{backwards, last_selected}
use Rattle.sql_statements.proofs.StoredRows.{stores_in}
use Rattle.sql_statements.specs.Statements.{IsSelect, query_within, column_is, falling}
use Rattle.sql_statements.specs.StoredRows.{row_of}
use Rattle.sql_statements.specs.Findings.{Finds}
use Rattle.sql_tables.specs.ByName as named
use Rattle.sql_tables.specs.Description.{as_row, form, table}
use Rattle.sql_tables.specs.DeskTables as the
use Rattle.sql_tables.specs.Schema.{desk_schema}
use Rattle.sql_tables.specs.Columns.{number}
use Rattle.sql_tables.specs.Layout.{desk_layout}
use Rattle.sql_tables.specs.TableReads.{number_of_last, is_of, last_order, IsLastNumber}
use Rattle.sql_tables.specs.declared.records.NumberRecord.{NumberRecord}
use Rattle.sql_query_laws.proofs.Conditions.{one}
use Rattle.sql_query_laws.proofs.Found.{same_option, first_found}
use Rattle.sql_query_laws.proofs.Injective.{number_rows, number_columns}
use Rattle.sql_query_laws.proofs.Keys.{by_falling_number, by_falling_text_then_number}
use Rattle.sql_query_laws.proofs.Listings.{Listing, suspense}
use Rattle.sql_query_laws.proofs.Selects.{all_pass, itself}
use Rattle.sql_query_laws.proofs.Texts.{places, last_order_is, last_number_is, last_suspense_is}
use Rattle.sql_query_laws.specs.Shows.{ShowsFirst, ReadsFirst}
use Rattle.sql_query_laws.specs.Questions as questions

pub backwards_is : {X : Type 0} (xs : List X) → backwards xs ≡ reverse xs
backwards_is [] = refl
backwards_is (x ∷ xs) = ap (λ l. l ++ x ∷ []) (backwards_is xs) ∙ sym (reverse_onto xs x [])

-- what passes of the list from its end
passing_backwards : {X : Type 0} (p : X → Bool) (xs : List X) → filter p (backwards xs) ≡ reverse (filter p xs)
passing_backwards p [] = refl
passing_backwards p (x ∷ xs) =
    filter-append p (backwards xs) (x ∷ []) ∙ ap (λ l. l ++ filter p (x ∷ [])) (passing_backwards p xs)
    ∙ elim (p x) as (λ b. reverse (filter p xs) ++ cond b (x ∷ []) [] ≡ reverse (cond b (x ∷ filter p xs) (filter p xs))) [ true ↦ sym (reverse_onto (filter p xs) x []) | false ↦ append-nil _ ]

first_taken : {X Y : Type 0} (show : Y → Row) (f : X → Y) (xs : List X) (rows : List Row) → rows ≡ map (λ x. show (f x)) (take 1 xs) → slice_get rows 0 ≡ option_map show (option_map f (slice_get xs 0))
first_taken show f [] rows are = ap (λ l. slice_get l 0) are
first_taken show f (x ∷ xs) rows are = ap (λ l. slice_get l 0) are

pub last_order_shown : (c : List ℕ) → ShowsFirst questions.last_order.text (Text c ∷ []) (λ n. number n ∷ []) (λ t. option_map (λ s. s.head.order) (slice_get (reverse (filter (is_of c) t.submissions)) 0))
last_order_shown c = record {
  row = λ t old new h rows seen.
      first_taken (λ n. number n ∷ []) (λ s. s.head.order) (reverse (filter (is_of c) t.submissions)) rows
      (last_selected (form the.submissions) (table the.submissions).tree (column_is 1 0 ∷ []) (places (2 ∷ [])) (falling 1 ∷ falling 2 ∷ []) (Text c ∷ []) (is_of c) (λ s. number s.head.order ∷ []) (λ s. Text s.head.company ∷ number s.head.order ∷ [])
      (λ i s. one (text_is s.head.company c)) (λ i s. refl) (λ i s. refl) desk_schema questions.last_order.text last_order_is.asks old new h.0 t.submissions (h.1.stands named.submissions).stored
      (ascending_weaker _ _ (λ x y less. by_falling_text_then_number x.head.company y.head.company x.head.order y.head.order ∙ less) t.submissions (h.1.stands named.submissions).rise) rows seen
      ∙ ap (λ l. map (λ s. number s.head.order ∷ []) (take 1 l)) (passing_backwards (is_of c) t.submissions));
}

pub last_order_found : {c : List ℕ} {old new : State} {o : Option ℕ} {n : ℕ} → ReadsFirst questions.last_order.text (Text c ∷ []) (λ n. number n ∷ []) old new o → unwrap_or o 0 ≡ n → Finds desk_layout (λ t. n ≡ last_order c t) old
last_order_found {c} read is =
    let found = first_found _ number_columns (last_order_shown c) read in
    record { was_open = found.was_open; told = λ t h. sym is ∙ ap (λ o. unwrap_or o 0) (found.told t h) }

pub last_number_found : {old new : State} {x : Option NumberRecord} → ReadsFirst questions.last_number.text [] (as_row the.sequences) old new x → Finds desk_layout (IsLastNumber x) old
last_number_found {old} {new} {x} read = record {
  was_open = read.was_open;
  told = λ t h by_place same up.
      same_option (as_row the.sequences) number_rows x (slice_get (reverse by_place) 0)
      (read.is ∙ first_taken (as_row the.sequences) (λ n. n) (reverse by_place) read.rows
      (last_selected (form the.sequences) (table the.sequences).tree [] (places (0 ∷ 2 ∷ [])) (falling 2 ∷ []) [] (λ _. true) (as_row the.sequences) (λ n. number n.place ∷ []) (λ i n. refl) (λ i n. refl) (λ i n. refl) desk_schema questions.last_number.text last_number_is.asks old new h.0 by_place
      (stores_in (form the.sequences) (old.now.trees (table the.sequences).tree) t.numbers by_place same (h.1.stands named.numbers).stored)
      (ascending_weaker _ _ (λ a b less. by_falling_number a.place b.place ∙ less) by_place up) read.rows read.shown
      ∙ ap (λ l. map (as_row the.sequences) (take 1 l)) (all_pass (backwards by_place) ∙ backwards_is by_place))
      ∙ ap (option_map (as_row the.sequences)) (itself (slice_get (reverse by_place) 0)));
}

-- the last number of a table whose rows are put under their numbers
module _ {X : Type 0} (of : Listing X) (number_of : X → ℕ) (sql : List ℕ) (is : IsSelect desk_schema sql (query_within (pos 1) of.table.tree [] (places (0 ∷ [])) (falling 0 ∷ [])))
    (shows : (i : ℤ) (x : X) → eval_all (places (0 ∷ [])) ([] ∷ row_of of.stored_as (i, x) ∷ []) ≡ number (number_of x) ∷ [])
    (compares : (x y : X) → of.cmp x y ≡ nat_cmp (number_of x) (number_of y)) where
  pub number_shown : ShowsFirst sql [] (λ n. number n ∷ []) (λ t. option_map number_of (slice_get (reverse (of.records t)) 0))
  number_shown = record {
    row = λ t old new h rows seen.
        let table = of.stored old.now.trees t h.1 in
        let xs = of.records t in
        let show = λ (x : X). number (number_of x) ∷ [] in
        first_taken (λ n. number n ∷ []) number_of (reverse xs) rows
        (last_selected of.stored_as of.table.tree [] (places (0 ∷ [])) (falling 0 ∷ []) [] (λ _. true) show show (λ i x. refl) shows shows desk_schema sql is old new h.0 xs table.stored
        (ascending_weaker _ _ (λ x y less. by_falling_number (number_of x) (number_of y) ∙ sym (compares x y) ∙ less) xs table.rise) rows seen
        ∙ ap (λ l. map show (take 1 l)) (all_pass (backwards xs) ∙ backwards_is xs));
  }

pub last_suspense_found : {old new : State} {o : Option ℕ} {n : ℕ} → ReadsFirst questions.last_suspense.text [] (λ n. number n ∷ []) old new o → unwrap_or o 0 ≡ n → Finds desk_layout (λ t. n ≡ number_of_last (λ s. s.number) t.suspense) old
last_suspense_found read is =
    let found = first_found _ number_columns (number_shown suspense (λ s. s.number) questions.last_suspense.text last_suspense_is.asks (λ i s. refl) (λ s u. refl)) read in
    record { was_open = found.was_open; told = λ t h. sym is ∙ ap (λ o. unwrap_or o 0) (found.told t h) }
