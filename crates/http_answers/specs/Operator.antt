-- The bodies of answers to the operator, each with its keys in byte order.
use Rattle.std.specs.Prelude.{ℕ, List, [], ◌∷◌, codes}
use Rattle.std.specs.Fmt.{signed_decimal}
use Rattle.serde_json.specs.Data.{Data, number, unsigned, string}
use Rattle.bank_days.specs.Day.{day_text}
use Rattle.http_json.specs.Members.{object_of}
use Rattle.desk_history.specs.declared.operations.CutSummary.{CutSummary}
use Rattle.desk_history.specs.declared.operations.DaySum.{DaySum}
use Rattle.desk_history.specs.declared.operations.Intake.{Intake}
use Rattle.desk_history.specs.declared.operations.Settlement.{Settlement}
use Rattle.desk_history.specs.declared.operations.SuspenseReason.{SuspenseReason}
use Rattle.desk_history.specs.declared.operations.SuspenseReason.TheVariants as reasons
use Rattle.desk_history.specs.declared.operations.SuspenseRow.{SuspenseRow}
use Rattle.http_answers.specs.Lists.{list_of, list_alone}

-- ---- what was set

abbrev pub day_members : (day : ℕ) → List (List ℕ × Data)
day_members day = (codes "day", string (day_text day)) ∷ []

unfoldable pub day_body : (day : ℕ) → Data
day_body day = object_of (day_members day)

abbrev pub holidays_members : (holidays : ℕ) → List (List ℕ × Data)
holidays_members holidays = (codes "holidays", number (unsigned holidays)) ∷ []

unfoldable pub holidays_body : (holidays : ℕ) → Data
holidays_body holidays = object_of (holidays_members holidays)

abbrev pub company_members : (id : List ℕ) → List (List ℕ × Data)
company_members id = (codes "id", string id) ∷ []

unfoldable pub company_body : (id : List ℕ) → Data
company_body id = object_of (company_members id)

-- ---- a cut

-- a file by its modifier
abbrev pub modifier_body : ℕ → Data
modifier_body modifier = string (modifier ∷ [])

-- the files of a day
abbrev pub files_body : (modifiers : List ℕ) → Data
files_body modifiers = list_of modifier_body modifiers

abbrev pub cut_members : CutSummary → List (List ℕ × Data)
cut_members cut =
    (codes "day", string (day_text cut.day))
    ∷ (codes "entries", number (unsigned cut.entries))
    ∷ (codes "files", files_body cut.files)
    ∷ (codes "lapsed", number (unsigned cut.lapsed)) ∷ []

unfoldable pub cut_body : CutSummary → Data
cut_body cut = object_of (cut_members cut)

-- ---- a file that was taken

abbrev pub intake_members : Intake → List (List ℕ × Data)
intake_members intake =
    (codes "changes", number (unsigned intake.changes))
    ∷ (codes "day", string (day_text intake.day))
    ∷ (codes "late", number (unsigned intake.late))
    ∷ (codes "returns", number (unsigned intake.returns))
    ∷ (codes "suspense", number (unsigned intake.suspense)) ∷ []

unfoldable pub intake_body : Intake → Data
intake_body intake = object_of (intake_members intake)

-- ---- the operator's account

abbrev pub day_sum_members : DaySum → List (List ℕ × Data)
day_sum_members sum = (codes "cents", string (signed_decimal sum.cents)) ∷ (codes "day", string (day_text sum.day)) ∷ []

unfoldable pub day_sum_body : DaySum → Data
day_sum_body sum = object_of (day_sum_members sum)

abbrev pub settlement_members : Settlement → List (List ℕ × Data)
settlement_members s =
    (codes "balance", string (signed_decimal s.balance))
    ∷ (codes "day", string (day_text s.day))
    ∷ (codes "days", list_of day_sum_body s.days) ∷ []

unfoldable pub settlement_body : Settlement → Data
settlement_body s = object_of (settlement_members s)

-- ---- suspense

abbrev pub reason_text : SuspenseReason → List ℕ
reason_text reasons.NoTrace = codes "NoTrace"
reason_text reasons.Differs = codes "Differs"
reason_text reasons.CodeOutside = codes "CodeOutside"
reason_text reasons.AlreadyReturned = codes "AlreadyReturned"

abbrev pub suspense_members : SuspenseRow → List (List ℕ × Data)
suspense_members row =
    (codes "cents", number (unsigned row.cents))
    ∷ (codes "code", string row.code)
    ∷ (codes "day", string (day_text row.day))
    ∷ (codes "file", string row.file)
    ∷ (codes "item", number (unsigned row.item))
    ∷ (codes "trace", string row.trace)
    ∷ (codes "why", string (reason_text row.why)) ∷ []

unfoldable pub suspense_row_body : SuspenseRow → Data
suspense_row_body row = object_of (suspense_members row)

unfoldable pub suspense_body : List SuspenseRow → Data
suspense_body rows = list_alone (codes "items") suspense_row_body rows
