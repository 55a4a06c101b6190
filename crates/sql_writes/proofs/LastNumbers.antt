-- The queries of the last number of a table.
use Rattle.std.proofs.Common.{◌≡◌, ◌+◌, ℕ, ℤ, pos, List, [], ◌∷◌, Option, unwrap_or, refl, ap, ◌∙◌}
use Rattle.std.specs.Ordering.{nat_cmp}
use Rattle.sqlite.specs.Listing.{understood}
use Rattle.sqlite.specs.State.{State}
use Rattle.sqlite_resolve.specs.Compile.{first}
use Rattle.sqlite_sql.specs.Term.{eval_all}
use Rattle.sqlite_tied.specs.Compute.{everything}
use Rattle.sql_statements.specs.SelectTexts.{IsSelectText}
use Rattle.sql_statements.specs.Statements.{IsSelect, query_within, falling}
use Rattle.sql_statements.specs.StoredRows.{row_of}
use Rattle.sql_statements.proofs.Edits.{makes_told}
use Rattle.sql_statements.specs.Edits.{only_tells}
use Rattle.sql_statements.specs.Transactions.{Makes}
use Rattle.sql_statements.specs.Promises.{SeesInside}
use Rattle.sql_tables.specs.Schema.{desk_schema}
use Rattle.sql_tables.specs.Columns.{number}
use Rattle.sql_tables.specs.Layout.{desk_layout}
use Rattle.sql_tables.specs.TableEdits.{next_number}
use Rattle.sql_query_laws.proofs.Found.{first_found}
use Rattle.sql_query_laws.proofs.Injective.{number_columns}
use Rattle.sql_query_laws.proofs.LastShown.{number_shown}
use Rattle.sql_query_laws.proofs.Listings.{Listing, postings, returns, changes, suspense}
use Rattle.sql_query_laws.proofs.Texts.{places, last_suspense_is}
use Rattle.sql_query_laws.specs.Shows.{ReadsFirst}
use Rattle.sql_writes.specs.Numbering.{next_is}
use Rattle.sql_writes.specs.LineTexts.{last_text}
use Rattle.sql_writes.specs.declared.numbering.NumberedTable.{NumberedTable}
use Rattle.sql_writes.specs.declared.numbering.NumberedTable.TheVariants as tables

-- ---- the texts

pub last_selects : (table : NumberedTable) → IsSelectText (last_text table)
unfolding first everything
last_selects tables.Postings = refl
last_selects tables.Returns = refl
last_selects tables.Changes = refl
last_selects tables.Suspense = last_suspense_is.selects

last_posting_is : IsSelect desk_schema (last_text tables.Postings) (query_within (pos 1) 14 [] (places (0 ∷ [])) (falling 0 ∷ []))
unfolding understood everything
last_posting_is = record { selects = refl; body = refl; alone = refl; unlisted = refl; plain = (refl, refl) }

last_return_is : IsSelect desk_schema (last_text tables.Returns) (query_within (pos 1) 11 [] (places (0 ∷ [])) (falling 0 ∷ []))
unfolding understood everything
last_return_is = record { selects = refl; body = refl; alone = refl; unlisted = refl; plain = (refl, refl) }

last_change_is : IsSelect desk_schema (last_text tables.Changes) (query_within (pos 1) 13 [] (places (0 ∷ [])) (falling 0 ∷ []))
unfolding understood everything
last_change_is = record { selects = refl; body = refl; alone = refl; unlisted = refl; plain = (refl, refl) }

-- ---- what they show

-- of a table whose rows are put under their numbers
module _ {X : Type 0} (of : Listing X) (number_of : X → ℕ) (sql : List ℕ) (is : IsSelect desk_schema sql (query_within (pos 1) of.table.tree [] (places (0 ∷ [])) (falling 0 ∷ [])))
    (shows : (i : ℤ) (x : X) → eval_all (places (0 ∷ [])) ([] ∷ row_of of.stored_as (i, x) ∷ []) ≡ number (number_of x) ∷ [])
    (compares : (x y : X) → of.cmp x y ≡ nat_cmp (number_of x) (number_of y)) where
  next_found : {old new : State} {o : Option ℕ} {n : ℕ} → ReadsFirst sql [] (λ n. number n ∷ []) old new o → SeesInside old new → n ≡ unwrap_or o 0 + 1
      → Makes desk_layout (only_tells (λ t. n ≡ next_number number_of (of.records t))) old new
  next_found {old} {new} {o} {n} read shown is_next =
      let found = first_found (λ n. number n ∷ []) number_columns (number_shown of number_of sql is shows compares) read in
      makes_told desk_layout (λ t. n ≡ next_number number_of (of.records t)) old new shown (λ t h. is_next ∙ ap (λ last. unwrap_or last 0 + 1) (found.told t h))

pub next_read : (table : NumberedTable) {old new : State} {o : Option ℕ} {n : ℕ} → ReadsFirst (last_text table) [] (λ n. number n ∷ []) old new o → SeesInside old new → n ≡ unwrap_or o 0 + 1
    → Makes desk_layout (next_is table n) old new
next_read tables.Postings = next_found postings (λ p. p.number) (last_text tables.Postings) last_posting_is (λ i x. refl) (λ x y. refl)
next_read tables.Returns = next_found returns (λ r. r.number) (last_text tables.Returns) last_return_is (λ i x. refl) (λ x y. refl)
next_read tables.Changes = next_found changes (λ c. c.number) (last_text tables.Changes) last_change_is (λ i x. refl) (λ x y. refl)
next_read tables.Suspense = next_found suspense (λ s. s.number) (last_text tables.Suspense) last_suspense_is.asks (λ i x. refl) (λ x y. refl)
