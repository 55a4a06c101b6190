-- The queries of submissions.
use Rattle.std.proofs.Common.{◌≡◌, ℕ, List, [], ◌∷◌, Option, Some, None, ◌&&◌, refl, true}
use Rattle.sqlite.specs.Values.{or_null}
use Rattle.sqlite_sql.specs.Ops.{binary, is_true}
use Rattle.sqlite_sql.specs.declared.ops.BinaryOp.TheVariants.{Compare}
use Rattle.sqlite_sql.specs.declared.ops.CompareOp.TheVariants.{Eq}
use Rattle.sqlite_value.specs.declared.keys.Collation.TheVariants.{Binary}
use Rattle.sqlite_value.specs.declared.value.Value.TheVariants.{Text}
use Rattle.sql_statements.proofs.Conditions.{text_is}
use Rattle.sql_statements.specs.Statements.{column_is, at_least, columns}
use Rattle.desk_history.specs.declared.reports.RetriedEntry.{RetriedEntry}
use Rattle.std.specs.Prelude.{option_map}
use Rattle.sql_tables.specs.Columns.{number}
use Rattle.sql_tables.specs.CutTables.{is_row}
use Rattle.sql_tables.specs.QueryRows.{submission_head_row, submission_facts_row, order_and_settlement_row}
use Rattle.sql_tables.specs.Selected.{head_of, facts_of, order_of}
use Rattle.sql_tables.specs.TableReads.{is_of, is_under, is_retry_of, tries, heads_in, head_under, order_in, facts_in, authorized_in, is_authorization_of}
use Rattle.sql_query_laws.proofs.Conditions.{one, two, number_is, number_if_any_least}
use Rattle.sql_query_laws.proofs.Listings.{submissions, authorizations}
use Rattle.sql_query_laws.proofs.Selects.{all_selected, first_selected}
use Rattle.sql_query_laws.proofs.Texts.{places, submissions_of_is, settled_submissions_is, retries_is, numbered_submission_is, submission_is, order_is, facts_is, authorization_is}
use Rattle.sql_query_laws.specs.Shows.{ShowsAll, ShowsFirst}
use Rattle.sql_query_laws.specs.Questions as questions
use Rattle.sql_queries.specs.Waiting.{is_settled_of}

pub submissions_of_shown : (c : List ℕ) → ShowsAll questions.submissions_of.text (Text c ∷ []) submission_head_row (heads_in (is_of c))
submissions_of_shown c =
    all_selected submissions questions.submissions_of.text (column_is 1 0 ∷ []) (columns 11) (Text c ∷ []) (is_of c) head_of submission_head_row submissions_of_is.asks (λ i s. one (text_is s.head.company c)) (λ i s. refl)

pub settled_submissions_shown : (c : List ℕ) (since : ℕ) → ShowsAll questions.settled_submissions.text (Text c ∷ number since ∷ []) submission_head_row (heads_in (is_settled_of c since))
settled_submissions_shown c since =
    all_selected submissions questions.settled_submissions.text (column_is 1 0 ∷ at_least 11 1 ∷ []) (columns 11) (Text c ∷ number since ∷ []) (is_settled_of c since) head_of submission_head_row
    settled_submissions_is.asks (λ i s. two (text_is s.head.company c) (number_if_any_least s.head.settled since)) (λ i s. refl)

retries_it : (of : List ℕ) (index : ℕ) (r : Option RetriedEntry)
    → (is_true (binary (Compare Eq Binary) (or_null Text (option_map (λ t. t.of) r)) (Text of)) && (is_true (binary (Compare Eq Binary) (or_null number (option_map (λ t. t.index) r)) (number index)) && true)) ≡ tries of index r
unfolding binary
retries_it of index None = refl
retries_it of index (Some r) = two (text_is r.of of) (number_is r.index index)

pub retries_shown : (c of : List ℕ) (index : ℕ) → ShowsAll questions.retries.text (Text c ∷ Text of ∷ number index ∷ []) submission_head_row (heads_in (is_retry_of c of index))
retries_shown c of index =
    all_selected submissions questions.retries.text (column_is 1 0 ∷ column_is 8 1 ∷ column_is 9 2 ∷ []) (columns 11) (Text c ∷ Text of ∷ number index ∷ []) (is_retry_of c of index) head_of submission_head_row
    retries_is.asks (λ i s. let a = text_is s.head.company c in let b = retries_it of index s.head.retried in λ j. a j && b j) (λ i s. refl)

pub numbered_submission_shown : (c : List ℕ) (order : ℕ) → ShowsAll questions.numbered_submission.text (Text c ∷ number order ∷ []) submission_head_row (heads_in (is_row c order))
numbered_submission_shown c order =
    all_selected submissions questions.numbered_submission.text (column_is 1 0 ∷ column_is 2 1 ∷ []) (columns 11) (Text c ∷ number order ∷ []) (is_row c order) head_of submission_head_row
    numbered_submission_is.asks (λ i s. two (text_is s.head.company c) (number_is s.head.order order)) (λ i s. refl)

pub submission_shown : (c r : List ℕ) → ShowsFirst questions.submission.text (Text c ∷ Text r ∷ []) submission_head_row (head_under c r)
submission_shown c r =
    first_selected submissions questions.submission.text (column_is 1 0 ∷ column_is 3 1 ∷ []) (columns 11) (Text c ∷ Text r ∷ []) (is_under c r) head_of submission_head_row
    submission_is.asks (λ i s. two (text_is s.head.company c) (text_is s.head.reference r)) (λ i s. refl)

pub order_shown : (c r : List ℕ) → ShowsFirst questions.order.text (Text c ∷ Text r ∷ []) order_and_settlement_row (order_in c r)
order_shown c r =
    first_selected submissions questions.order.text (column_is 1 0 ∷ column_is 3 1 ∷ []) (places (2 ∷ 11 ∷ [])) (Text c ∷ Text r ∷ []) (is_under c r) order_of order_and_settlement_row
    order_is.asks (λ i s. two (text_is s.head.company c) (text_is s.head.reference r)) (λ i s. refl)

pub facts_shown : (c : List ℕ) (order : ℕ) → ShowsFirst questions.facts.text (Text c ∷ number order ∷ []) submission_facts_row (facts_in c order)
facts_shown c order =
    first_selected submissions questions.facts.text (column_is 1 0 ∷ column_is 2 1 ∷ []) (places (3 ∷ 4 ∷ 5 ∷ 11 ∷ [])) (Text c ∷ number order ∷ []) (is_row c order) facts_of submission_facts_row
    facts_is.asks (λ i s. two (text_is s.head.company c) (number_is s.head.order order)) (λ i s. refl)

pub authorization_shown : (c : List ℕ) (order : ℕ) → ShowsFirst questions.authorization.text (Text c ∷ number order ∷ []) (λ day. number day ∷ []) (authorized_in c order)
authorization_shown c order =
    first_selected authorizations questions.authorization.text (column_is 1 0 ∷ column_is 2 1 ∷ []) (places (3 ∷ [])) (Text c ∷ number order ∷ []) (is_authorization_of c order) (λ a. a.day) (λ day. number day ∷ [])
    authorization_is.asks (λ i a. two (text_is a.company c) (number_is a.order order)) (λ i a. refl)
