-- The queries of the desk, its calendar and its companies.
use Rattle.std.proofs.Common.{ℕ, true, List, [], ◌∷◌, Some, refl, subst, ◌∙◌, filter}
use Rattle.sqlite.specs.Values.{or_null}
use Rattle.sqlite_value.specs.declared.value.Value.TheVariants.{Text}
use Rattle.sql_statements.proofs.Conditions.{text_is}
use Rattle.sql_statements.specs.Statements.{column_is, columns}
use Rattle.sql_statements.specs.Statements as sql
use Rattle.std.proofs.Common.{pos}
use Rattle.desk_history.specs.Operator.{has_id}
use Rattle.sql_tables.specs.Columns.{number}
use Rattle.sql_tables.specs.Description.{as_row}
use Rattle.sql_tables.specs.DeskTables as the
use Rattle.sql_tables.specs.QueryRows.{keyed_identity_row}
use Rattle.sql_tables.specs.Selected.{keyed_identity_of}
use Rattle.sql_tables.specs.TableReads.{company_in}
use Rattle.sql_query_laws.proofs.Conditions.{one, number_is}
use Rattle.sql_query_laws.proofs.Listings.{desk, holidays, companies}
use Rattle.sql_query_laws.proofs.Selects.{all_selected, first_selected, itself, each_itself, all_pass}
use Rattle.sql_query_laws.proofs.Texts.{places, keyed_identity_is, day_is, company_is, companies_is, holidays_is}
use Rattle.sql_query_laws.specs.Shows.{ShowsAll, ShowsFirst}
use Rattle.sql_query_laws.specs.Questions as questions

pub keyed_identity_shown : ShowsFirst questions.keyed_identity.text [] keyed_identity_row (λ t. Some (keyed_identity_of t.desk))
keyed_identity_shown = first_selected desk questions.keyed_identity.text (sql.number_is 1 (pos 1) ∷ []) (places (3 ∷ 4 ∷ 5 ∷ 6 ∷ 7 ∷ [])) [] (λ _. true) keyed_identity_of keyed_identity_row keyed_identity_is.asks (λ i d. one (number_is 1 1)) (λ i d. refl)

pub day_shown : ShowsFirst questions.day.text [] (λ day. or_null number day ∷ []) (λ t. Some t.desk.day)
day_shown = first_selected desk questions.day.text (sql.number_is 1 (pos 1) ∷ []) (places (8 ∷ [])) [] (λ _. true) (λ d. d.day) (λ day. or_null number day ∷ []) day_is.asks (λ i d. one (number_is 1 1)) (λ i d. refl)

pub company_shown : (id : List ℕ) → ShowsFirst questions.company.text (Text id ∷ []) (as_row the.companies) (company_in id)
company_shown id =
    subst (ShowsFirst questions.company.text (Text id ∷ []) (as_row the.companies)) (λ i t. itself (company_in id t) i)
    (first_selected companies questions.company.text (column_is 1 0 ∷ []) (columns 6) (Text id ∷ []) (has_id id) (λ k. k) (as_row the.companies) company_is.asks (λ i k. one (text_is k.id id)) (λ i k. refl))

pub companies_shown : ShowsAll questions.companies.text [] (as_row the.companies) (λ t. t.companies)
companies_shown =
    subst (ShowsAll questions.companies.text [] (as_row the.companies)) (λ i t. (each_itself (filter (λ _. true) t.companies) ∙ all_pass t.companies) i)
    (all_selected companies questions.companies.text [] (columns 6) [] (λ _. true) (λ k. k) (as_row the.companies) companies_is.asks (λ i k. refl) (λ i k. refl))

pub holidays_shown : ShowsAll questions.holidays.text [] (as_row the.holidays) (λ t. t.holidays)
holidays_shown =
    subst (ShowsAll questions.holidays.text [] (as_row the.holidays)) (λ i t. (each_itself (filter (λ _. true) t.holidays) ∙ all_pass t.holidays) i)
    (all_selected holidays questions.holidays.text [] (columns 1) [] (λ _. true) (λ d. d) (as_row the.holidays) holidays_is.asks (λ i d. refl) (λ i d. refl))
