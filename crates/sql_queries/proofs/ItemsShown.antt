-- The queries of what came back of entries.
use Rattle.std.proofs.Common.{ℕ, List, [], ◌∷◌, bytes_eq, true, map, subst, refl}
use Rattle.sqlite_value.specs.declared.value.Value.TheVariants.{Text}
use Rattle.sql_statements.proofs.Conditions.{text_is}
use Rattle.sql_statements.specs.Statements.{column_is, at_least}
use Rattle.sql_tables.specs.Columns.{number}
use Rattle.sql_tables.specs.QueryRows.{entry_return_row, change_line_row, suspense_line_row}
use Rattle.sql_tables.specs.Selected.{return_of, change_line_of}
use Rattle.sql_tables.specs.TableReads.{is_return_in, returns_in, is_return_at, return_at, is_return_since, orders_returned, change_lines_in, suspense_in}
use Rattle.sql_query_laws.proofs.Conditions.{one, two, three, number_is, number_least}
use Rattle.sql_query_laws.proofs.Listings.{returns, changes, suspense}
use Rattle.sql_query_laws.proofs.Selects.{all_selected, first_selected, all_pass}
use Rattle.sql_query_laws.proofs.Texts.{places, returns_is, return_is, returned_orders_is, change_lines_is, suspense_is}
use Rattle.sql_query_laws.specs.Shows.{ShowsAll, ShowsFirst}
use Rattle.sql_query_laws.specs.Questions as questions

pub returns_shown : (c : List ℕ) (order : ℕ) → ShowsAll questions.returns.text (Text c ∷ number order ∷ []) entry_return_row (returns_in c order)
returns_shown c order =
    all_selected returns questions.returns.text (column_is 2 0 ∷ column_is 3 1 ∷ []) (places (4 ∷ 5 ∷ 6 ∷ 7 ∷ [])) (Text c ∷ number order ∷ []) (is_return_in c order) return_of entry_return_row
    returns_is.asks (λ i r. two (text_is r.company c) (number_is r.order order)) (λ i r. refl)

pub return_shown : (c : List ℕ) (order index : ℕ) → ShowsFirst questions.return.text (Text c ∷ number order ∷ number index ∷ []) entry_return_row (return_at c order index)
return_shown c order index =
    first_selected returns questions.return.text (column_is 2 0 ∷ column_is 3 1 ∷ column_is 4 2 ∷ []) (places (4 ∷ 5 ∷ 6 ∷ 7 ∷ [])) (Text c ∷ number order ∷ number index ∷ []) (is_return_at c order index) return_of entry_return_row
    return_is.asks (λ i r. three (text_is r.company c) (number_is r.order order) (number_is r.index index)) (λ i r. refl)

pub returned_orders_shown : (c : List ℕ) (since : ℕ) → ShowsAll questions.returned_orders.text (Text c ∷ number since ∷ []) (λ n. number n ∷ []) (orders_returned c since)
returned_orders_shown c since =
    all_selected returns questions.returned_orders.text (column_is 2 0 ∷ at_least 6 1 ∷ []) (places (3 ∷ [])) (Text c ∷ number since ∷ []) (is_return_since c since) (λ r. r.order) (λ n. number n ∷ [])
    returned_orders_is.asks (λ i r. two (text_is r.company c) (number_least r.day since)) (λ i r. refl)

pub change_lines_shown : (c : List ℕ) → ShowsAll questions.change_lines.text (Text c ∷ []) change_line_row (change_lines_in c)
change_lines_shown c =
    all_selected changes questions.change_lines.text (column_is 2 0 ∷ []) (places (3 ∷ 4 ∷ 5 ∷ 6 ∷ 7 ∷ [])) (Text c ∷ []) (λ x. bytes_eq x.company c) change_line_of change_line_row change_lines_is.asks (λ i x. one (text_is x.company c)) (λ i x. refl)

pub suspense_shown : ShowsAll questions.suspense.text [] suspense_line_row suspense_in
suspense_shown =
    subst (ShowsAll questions.suspense.text [] suspense_line_row) (λ i t. map (λ s. s.row) (all_pass t.suspense i))
    (all_selected suspense questions.suspense.text [] (places (2 ∷ 3 ∷ 4 ∷ 5 ∷ 6 ∷ 7 ∷ 8 ∷ [])) [] (λ _. true) (λ s. s.row) suspense_line_row suspense_is.asks (λ i s. refl) (λ i s. refl))
