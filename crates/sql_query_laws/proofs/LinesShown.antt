-- The queries of the lines of accounts, and of files.
use Rattle.std.proofs.Common.{true, false, cond, map, filter, sym, ap, ◌∙◌, ◌≡◌, ℕ, Bool, List, [], ◌∷◌, bytes_eq, subst, refl}
use Rattle.sqlite_value.specs.declared.value.Value.TheVariants.{Text, Blob}
use Rattle.sql_statements.proofs.Conditions.{text_is}
use Rattle.sql_statements.specs.Statements.{column_is, columns}
use Rattle.std.specs.Prelude.{◌==◌}
use Rattle.desk_book.specs.Steps.{is_file}
use Rattle.desk_history.specs.Intake.{has_key}
use Rattle.sqlite.specs.State.{State}
use Rattle.sql_statements.specs.Findings.{Finds}
use Rattle.desk_accounts.proofs.Same.{same_is}
use Rattle.desk_accounts.specs.Posting.{same_account}
use Rattle.desk_accounts.specs.declared.account.Account.{Account}
use Rattle.desk_accounts.specs.declared.account.Account.TheVariants as accounts
use Rattle.desk_accounts.specs.declared.posting.Posting.{Posting}
use Rattle.sql_tables.specs.Beside.{is_balance_of}
use Rattle.sql_tables.specs.Description.{as_row}
use Rattle.sql_tables.specs.DeskTables as the
use Rattle.sql_tables.specs.Layout.{desk_layout}
use Rattle.sql_tables.specs.QueryRows.{day_sum_row, posting_line_row}
use Rattle.sql_tables.specs.Selected.{day_sum_of, posting_line_of}
use Rattle.sql_tables.specs.declared.records.PostingRecord.{PostingRecord}
use Rattle.sql_tables.specs.declared.row.lines.PostingLine.{PostingLine}
use Rattle.sql_query_laws.specs.Postings.{posting_of}
use Rattle.sql_tables.specs.Columns.{number, letter, account_text, decimal_text}
use Rattle.sql_tables.specs.TableReads.{lines_in, sums_in, sum_in, modifiers_in, text_in, taken_in}
use Rattle.sql_query_laws.proofs.Conditions.{one, two, number_is, letter_is}
use Rattle.sql_query_laws.proofs.Listings.{files, taken, balances, postings}
use Rattle.sql_query_laws.proofs.Selects.{all_selected, first_selected, itself}
use Rattle.sql_query_laws.proofs.Texts.{places, postings_is, sums_is, sum_is, modifiers_is, file_is, taken_is}
use Rattle.sql_query_laws.specs.Shows.{ShowsAll, ShowsFirst}
use Rattle.sql_query_laws.specs.Questions as questions

pub modifiers_shown : (day : ℕ) → ShowsAll questions.modifiers.text (number day ∷ []) (λ n. letter n ∷ []) (modifiers_in day)
modifiers_shown day =
    all_selected files questions.modifiers.text (column_is 1 0 ∷ []) (places (2 ∷ [])) (number day ∷ []) (λ f. f.day == day) (λ f. f.modifier) (λ n. letter n ∷ []) modifiers_is.asks (λ i f. one (number_is f.day day)) (λ i f. refl)

pub file_shown : (day modifier : ℕ) → ShowsFirst questions.file.text (number day ∷ letter modifier ∷ []) (λ text. Blob text ∷ []) (text_in day modifier)
file_shown day modifier =
    first_selected files questions.file.text (column_is 1 0 ∷ column_is 2 1 ∷ []) (places (3 ∷ [])) (number day ∷ letter modifier ∷ []) (is_file day modifier) (λ f. f.text) (λ text. Blob text ∷ [])
    file_is.asks (λ i f. two (number_is f.day day) (letter_is f.modifier modifier)) (λ i f. refl)

pub taken_shown : (key : List ℕ) → ShowsFirst questions.taken.text (Text key ∷ []) (as_row the.taken) (taken_in key)
taken_shown key =
    subst (ShowsFirst questions.taken.text (Text key ∷ []) (as_row the.taken)) (λ i t. itself (taken_in key t) i)
    (first_selected taken questions.taken.text (column_is 1 0 ∷ []) (columns 7) (Text key ∷ []) (has_key key) (λ f. f) (as_row the.taken) taken_is.asks (λ i f. one (text_is f.key key)) (λ i f. refl))

-- an account has a text of its own
pub accounts_are : (a b : Account) → bytes_eq (account_text a) (account_text b) ≡ same_account a b
accounts_are (accounts.Company x) (accounts.Company y) = refl
accounts_are (accounts.Company x) accounts.Operator = refl
accounts_are (accounts.Company x) accounts.Suspense = refl
accounts_are accounts.Operator (accounts.Company y) = refl
accounts_are accounts.Operator accounts.Operator = refl
accounts_are accounts.Operator accounts.Suspense = refl
accounts_are accounts.Suspense (accounts.Company y) = refl
accounts_are accounts.Suspense accounts.Operator = refl
accounts_are accounts.Suspense accounts.Suspense = refl

pub sums_shown : (account : Account) → ShowsAll questions.sums.text (Text (account_text account) ∷ []) day_sum_row (sums_in account)
sums_shown account =
    all_selected balances questions.sums.text (column_is 1 0 ∷ []) (places (2 ∷ 3 ∷ [])) (Text (account_text account) ∷ []) (λ b. same_account b.account account) day_sum_of day_sum_row
    sums_is.asks (λ i b. one (text_is (account_text b.account) (account_text account) ∙ accounts_are b.account account)) (λ i b. refl)

pub sum_shown : (account : Account) (day : ℕ) → ShowsFirst questions.sum.text (Text (account_text account) ∷ number day ∷ []) (λ cents. decimal_text cents ∷ []) (sum_in account day)
sum_shown account day =
    first_selected balances questions.sum.text (column_is 1 0 ∷ column_is 2 1 ∷ []) (places (3 ∷ [])) (Text (account_text account) ∷ number day ∷ []) (is_balance_of account day) (λ b. b.cents) (λ cents. decimal_text cents ∷ [])
    sum_is.asks (λ i b. two (text_is (account_text b.account) (account_text account) ∙ accounts_are b.account account) (number_is b.value_day day)) (λ i b. refl)

pub postings_shown : (account : Account) → ShowsAll questions.postings.text (Text (account_text account) ∷ []) posting_line_row (λ t. map (λ p. posting_line_of p.posting) (filter (λ p. same_account p.posting.account account) t.postings))
postings_shown account =
    all_selected postings questions.postings.text (column_is 2 0 ∷ []) (places (3 ∷ 4 ∷ 5 ∷ 6 ∷ 7 ∷ [])) (Text (account_text account) ∷ []) (λ p. same_account p.posting.account account) (λ p. posting_line_of p.posting) posting_line_row
    postings_is.asks (λ i p. one (text_is (account_text p.posting.account) (account_text account) ∙ accounts_are p.posting.account account)) (λ i p. refl)

-- the lines of an account are its postings without it
with_account : (account : Account) (ps : List PostingRecord)
    → map (posting_of account) (map (λ p. posting_line_of p.posting) (filter (λ p. same_account p.posting.account account) ps)) ≡ map (λ p. p.posting) (filter (λ p. same_account p.posting.account account) ps)
with_account account [] = refl
with_account account (p ∷ ps) = go (same_account p.posting.account account) refl (with_account account ps)
  where
    go : (b : Bool) → same_account p.posting.account account ≡ b
        → map (posting_of account) (map (λ p. posting_line_of p.posting) (filter (λ p. same_account p.posting.account account) ps)) ≡ map (λ p. p.posting) (filter (λ p. same_account p.posting.account account) ps)
        → map (posting_of account) (map (λ p. posting_line_of p.posting) (cond b (p ∷ filter (λ p. same_account p.posting.account account) ps) (filter (λ p. same_account p.posting.account account) ps)))
        ≡ map (λ p. p.posting) (cond b (p ∷ filter (λ p. same_account p.posting.account account) ps) (filter (λ p. same_account p.posting.account account) ps))
    go true e more = let own = sym ((same_is true p.posting.account account (sym e)).0 refl) in λ i. record p.posting { account = own i } ∷ more i
    go false e more = more

pub postings_found : {account : Account} {s : State} {lines : List PostingLine} {found : List Posting} → Finds desk_layout (λ t. lines ≡ map (λ p. posting_line_of p.posting) (filter (λ p. same_account p.posting.account account) t.postings)) s
    → found ≡ map (posting_of account) lines → Finds desk_layout (λ t. found ≡ lines_in account t) s
postings_found {account} finds are = record { was_open = finds.was_open; told = λ t h. are ∙ ap (map (posting_of account)) (finds.told t h) ∙ with_account account t.postings }
