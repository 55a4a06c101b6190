-- The sum of an account and value day is read.
use Rattle.std.proofs.Common.{◌≡◌, ℕ, ℤ, true, [], ◌∷◌, Option}
use Rattle.sqlite.specs.State.{State}
use Rattle.sqlite_value.specs.declared.value.Value.TheVariants.{Text}
use Rattle.sql_statements.proofs.Edits.{makes_told}
use Rattle.sql_statements.specs.Transactions.{Makes}
use Rattle.desk_accounts.specs.Balance.{fits_i128}
use Rattle.desk_accounts.specs.declared.account.Account.{Account}
use Rattle.sql_statements.specs.Promises.{SeesInside}
use Rattle.sql_tables.specs.Columns.{number, account_text, decimal_text}
use Rattle.sql_tables.specs.Layout.{desk_layout}
use Rattle.sql_tables.specs.Ranges.{FitsIfAny}
use Rattle.sql_tables.specs.TableReads.{sum_in}
use Rattle.sql_query_laws.proofs.Found.{first_found_within}
use Rattle.sql_query_laws.proofs.LinesShown.{sum_shown}
use Rattle.sql_query_laws.proofs.SumRows.{sums_apart}
use Rattle.sql_query_laws.specs.Shows.{ReadsFirst}
use Rattle.sql_query_laws.specs.Questions as questions
use Rattle.sql_writes.specs.LineEdits.{sum_is}

pub sum_read : (account : Account) (day : ℕ) {old new : State} {sum : Option ℤ} → ReadsFirst questions.sum.text (Text (account_text account) ∷ number day ∷ []) (λ n. decimal_text n ∷ []) old new sum → FitsIfAny (λ n. fits_i128 n ≡ true) sum
    → SeesInside old new → Makes desk_layout (sum_is account day sum) old new
sum_read account day {old} {new} {sum} read fits shown =
    let found = first_found_within (λ n. decimal_text n ∷ []) (λ n. fits_i128 n ≡ true) sums_apart (sum_shown account day) read fits in
    makes_told desk_layout (λ t. sum ≡ sum_in account day t) old new shown found.told
