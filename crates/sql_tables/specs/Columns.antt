-- How a value stands in a column.
use Rattle.std.specs.Prelude.{ℕ, ◌+◌, ℤ, pos, Bool, true, false, List, [], ◌∷◌, ◌++◌, codes, Option, Some, None, option_map}
use Rattle.std.specs.Fmt.{signed_decimal}
use Rattle.sqlite.specs.Values.{or_null}
use Rattle.sqlite_value.specs.Order.{Row, column}
use Rattle.sqlite_value.specs.declared.value.Value.{Value}
use Rattle.sqlite_value.specs.declared.value.Value.TheVariants.{Null, Int, Text}
use Rattle.desk_accounts.specs.declared.account.Account.{Account}
use Rattle.desk_accounts.specs.declared.account.Account.TheVariants as accounts
use Rattle.desk_accounts.specs.declared.posting.Cause.{Cause}
use Rattle.desk_accounts.specs.declared.posting.Cause.TheVariants as causes
use Rattle.desk_history.specs.declared.operations.SuspenseReason.{SuspenseReason}
use Rattle.desk_history.specs.declared.operations.SuspenseReason.TheVariants as reasons
use Rattle.desk_history.specs.Resolve.{is_savings}
use Rattle.desk_history.specs.declared.reports.RetriedEntry.{RetriedEntry}
use Rattle.desk_rules.specs.declared.bodies.submission.Direction.{Direction}
use Rattle.desk_rules.specs.declared.bodies.submission.Direction.TheVariants as directions
use Rattle.desk_rules.specs.declared.bodies.submission.Entry.{Entry}

-- a number, and a day by its number
abbrev pub number : ℕ → Value
number n = Int (pos n)

abbrev pub flag : Bool → Value
flag true = number 1
flag false = number 0

-- a number as decimal text: sums may be longer than a column's integer
abbrev pub decimal_text : ℤ → Value
decimal_text n = Text (signed_decimal n)

-- a text of one character
abbrev pub letter : ℕ → Value
letter c = Text (c ∷ [])

-- the reference of a line, as the empty text where it has none: no reference is empty, so that no line
-- would store NULL
abbrev pub line_reference : Option (List ℕ) → Value
line_reference None = Text []
line_reference (Some []) = Null
line_reference (Some (c ∷ s)) = Text (c ∷ s)

abbrev pub direction_text : Direction → List ℕ
direction_text directions.Credit = codes "credit"
direction_text directions.Debit = codes "debit"

abbrev pub cause_text : Cause → List ℕ
cause_text causes.Cut = codes "cut"
cause_text causes.Return = codes "return"

abbrev pub reason_text : SuspenseReason → List ℕ
reason_text reasons.NoTrace = codes "NoTrace"
reason_text reasons.Differs = codes "Differs"
reason_text reasons.CodeOutside = codes "CodeOutside"
reason_text reasons.AlreadyReturned = codes "AlreadyReturned"

-- `C:` and the company, `O` or `S`
abbrev pub account_text : Account → List ℕ
account_text (accounts.Company id) = codes "C:" ++ id
account_text accounts.Operator = codes "O"
account_text accounts.Suspense = codes "S"

-- of_ref, of_index
abbrev pub retried_columns : Option RetriedEntry → Row
retried_columns r = or_null Text (option_map (λ t. t.of) r) ∷ or_null number (option_map (λ t. t.index) r) ∷ []

-- routing, account, savings, prenote, cents, ident, name, info
abbrev pub entry_columns : Entry → Row
entry_columns e =
    Text e.routing ∷ Text e.account ∷ flag (is_savings e.kind) ∷ flag e.prenote ∷ number e.cents
    ∷ Text e.id ∷ Text e.name ∷ or_null Text e.info ∷ []

-- the eight columns of a row that an entry stands in, of which the first has this index
abbrev pub entry_columns_from : Row → (first : ℕ) → Row
entry_columns_from row first =
    column row first ∷ column row (first + 1) ∷ column row (first + 2) ∷ column row (first + 3)
    ∷ column row (first + 4) ∷ column row (first + 5) ∷ column row (first + 6) ∷ column row (first + 7) ∷ []
