-- What the queries of the version, and of its row, show of a desk.
use Rattle.std.proofs.Common.{◌≡◌, ◌≢◌, ◌⊎◌, ℕ, ℤ, inl, inr, [], ◌∷◌, Option, Some, List, slice_get, pos, true, refl, ap, ◌∙◌}
use Rattle.sqlite.specs.Listing.{understood}
use Rattle.sqlite.specs.State.{State, Shown}
use Rattle.sqlite.specs.Schema.{Schema}
use Rattle.sqlite_tied.specs.Compute.{everything}
use Rattle.sqlite_value.specs.Order.{Row}
use Rattle.sqlite_value.specs.declared.value.Value.TheVariants.{Int}
use Rattle.sqlite_sql.specs.Term.{lit}
use Rattle.sql_statements.specs.Statements.{IsSelect, query_from, query_within, number_is as is_number, by}
use Rattle.sql_statements.specs.StoredRows.{whole, Stores}
use Rattle.sql_statements.proofs.Selects.{selected, selected_within}
use Rattle.sql_tables.specs.Schema.{desk_schema}
use Rattle.sql_tables.specs.Columns.{number}
use Rattle.sql_tables.specs.declared.records.DeskRecord.{DeskRecord}
use Rattle.sql_query_laws.proofs.Conditions.{one, number_is}
use Rattle.sql_query_laws.proofs.Found.{same_option}
use Rattle.sql_query_laws.proofs.Texts.{places}
use Rattle.sql_query_laws.specs.Shows.{ReadsFirst, IsInjective}
use Rattle.sql_setup.specs.Versions.{version_text, row_text, version_row, first_schema, versioned_row, IsOfVersion}

version_in_first : IsSelect first_schema version_text (query_from 0 (is_number 1 (pos 1) ∷ []) (places (2 ∷ [])) (by 1 ∷ []))
unfolding understood everything
version_in_first = record { selects = refl; body = refl; alone = refl; unlisted = refl; plain = (refl, refl) }

version_in_second : IsSelect desk_schema version_text (query_from 0 (is_number 1 (pos 1) ∷ []) (places (2 ∷ [])) (by 1 ∷ []))
unfolding understood everything
version_in_second = record { selects = refl; body = refl; alone = refl; unlisted = refl; plain = (refl, refl) }

rows_shown : (n : ℕ) (d : DeskRecord) (schema : Schema) → IsSelect schema version_text (query_from 0 (is_number 1 (pos 1) ∷ []) (places (2 ∷ [])) (by 1 ∷ [])) → (old new : State) → old.now.schema ≡ schema
    → Stores (whole (versioned_row n)) (old.now.trees 0) (d ∷ []) → (rows : List Row) → Shown version_text [] old new rows → rows ≡ version_row (pos n) ∷ []
rows_shown n d schema is old new has stored rows seen =
    selected (whole (versioned_row n)) 0 (is_number 1 (pos 1) ∷ []) (places (2 ∷ [])) (by 1 ∷ []) [] (λ _. true) (λ _. version_row (pos n)) (λ _. number 1 ∷ [])
    (λ i d. one (number_is 1 1)) (λ i d. refl) (λ i d. refl) schema version_text is old new has (d ∷ []) stored (tt, tt) rows seen

pub version_shown : (n : ℕ) (old new : State) → IsOfVersion old.now n → (rows : List Row) → Shown version_text [] old new rows → rows ≡ version_row (pos n) ∷ []
version_shown n old new h rows seen = go h.schema
  where
    go : (old.now.schema ≡ first_schema) ⊎ (old.now.schema ≡ desk_schema) → rows ≡ version_row (pos n) ∷ []
    go (inl has) = rows_shown n h.desk first_schema version_in_first old new has h.row rows seen
    go (inr has) = rows_shown n h.desk desk_schema version_in_second old new has h.row rows seen

rows_apart : IsInjective version_row
rows_apart x y e = cc

pub version_found : (old new : State) (found : Option ℤ) → ReadsFirst version_text [] version_row old new found → (n : ℕ) → IsOfVersion old.now n → found ≡ Some (pos n)
version_found old new found read n h =
    same_option version_row rows_apart found (Some (pos n)) (read.is ∙ ap (λ l. slice_get l 0) (version_shown n old new h read.rows read.shown))

-- ---- whether there is a row

row_in_first : IsSelect first_schema row_text (query_within (pos 1) 0 [] (lit (Int (pos 1)) ∷ []) [])
unfolding understood everything
row_in_first = record { selects = refl; body = refl; alone = refl; unlisted = refl; plain = (refl, refl) }

row_in_second : IsSelect desk_schema row_text (query_within (pos 1) 0 [] (lit (Int (pos 1)) ∷ []) [])
unfolding understood everything
row_in_second = record { selects = refl; body = refl; alone = refl; unlisted = refl; plain = (refl, refl) }

one_shown : (n : ℕ) (d : DeskRecord) (schema : Schema) → IsSelect schema row_text (query_within (pos 1) 0 [] (lit (Int (pos 1)) ∷ []) []) → (old new : State) → old.now.schema ≡ schema
    → Stores (whole (versioned_row n)) (old.now.trees 0) (d ∷ []) → (rows : List Row) → Shown row_text [] old new rows → rows ≡ (Int (pos 1) ∷ []) ∷ []
one_shown n d schema is old new has stored rows seen =
    selected_within (pos 1) (whole (versioned_row n)) 0 [] (lit (Int (pos 1)) ∷ []) [] [] (λ _. true) (λ _. Int (pos 1) ∷ []) (λ _. [])
    (λ i d. refl) (λ i d. refl) (λ i d. refl) schema row_text is old new has (d ∷ []) stored (tt, tt) rows seen

pub row_shown : (n : ℕ) (old new : State) → IsOfVersion old.now n → (rows : List Row) → Shown row_text [] old new rows → rows ≢ []
row_shown n old new h rows seen none = go h.schema
  where
    go : (old.now.schema ≡ first_schema) ⊎ (old.now.schema ≡ desk_schema) → ⊥
    go (inl has) = let one = one_shown n h.desk first_schema row_in_first old new has h.row rows seen in absurd cc
    go (inr has) = let one = one_shown n h.desk desk_schema row_in_second old new has h.row rows seen in absurd cc
