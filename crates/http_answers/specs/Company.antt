-- The bodies of answers to a company, each with its keys in byte order.
use Rattle.std.specs.Prelude.{ℕ, Bool, List, [], ◌∷◌, ◌++◌, codes, decimal, Option, Some, None}
use Rattle.std.specs.Fmt.{signed_decimal}
use Rattle.serde_json.specs.Data.{Data, number, unsigned, string, boolean}
use Rattle.serde_json.specs.Find.{of_integer}
use Rattle.ach_fields.specs.Text.{without_blanks_after}
use Rattle.bank_days.specs.Day.{day_text}
use Rattle.desk_accounts.specs.declared.posting.Cause.{Cause}
use Rattle.desk_accounts.specs.declared.posting.Cause.TheVariants as causes
use Rattle.desk_rules.specs.Fields.{sec_text}
use Rattle.desk_rules.specs.ReturnCodes.{code_text}
use Rattle.desk_rules.specs.declared.bodies.submission.Direction.{Direction}
use Rattle.desk_rules.specs.declared.bodies.submission.Direction.TheVariants as directions
use Rattle.desk_rules.specs.declared.rules.entry_fact.EntryState.{EntryState}
use Rattle.desk_rules.specs.declared.rules.entry_fact.EntryState.TheVariants as states
use Rattle.desk_rules.specs.declared.rules.rate.Rate.{Rate}
use Rattle.http_json.specs.Members.{object_of}
use Rattle.desk_history.specs.declared.reports.ChangeRow.{ChangeRow}
use Rattle.desk_history.specs.declared.reports.DayRates.{DayRates}
use Rattle.desk_history.specs.declared.reports.Exposure.{Exposure}
use Rattle.desk_history.specs.declared.reports.ReportedEntry.{ReportedEntry}
use Rattle.desk_history.specs.declared.reports.RetriedEntry.{RetriedEntry}
use Rattle.desk_history.specs.declared.reports.ReturnRow.{ReturnRow}
use Rattle.desk_history.specs.declared.reports.Statement.{Statement}
use Rattle.desk_history.specs.declared.reports.StatementLine.{StatementLine}
use Rattle.desk_history.specs.declared.reports.SubmissionReport.{SubmissionReport}
use Rattle.http_answers.specs.Lists.{list_of, list_alone}

-- ---- a submission that was looked up

-- which way the money goes
abbrev pub direction_text : Direction → List ℕ
direction_text directions.Credit = codes "credit"
direction_text directions.Debit = codes "debit"

-- an entry that no cut has sent
abbrev pub unsent_members : (cents index : ℕ) → (state : List ℕ) → List (List ℕ × Data)
unsent_members cents index state =
    (codes "cents", number (unsigned cents))
    ∷ (codes "index", number (unsigned index))
    ∷ (codes "state", string state) ∷ []

-- one that was sent, with the day on which it settled
abbrev pub sent_members : (cents index settled : ℕ) → List (List ℕ × Data)
sent_members cents index settled =
    (codes "cents", number (unsigned cents))
    ∷ (codes "index", number (unsigned index))
    ∷ (codes "settled", string (day_text settled))
    ∷ (codes "state", string (codes "sent")) ∷ []

-- and a returned one, also with its return
abbrev pub returned_members : (cents index settled code returned : ℕ) → (late : Bool) → List (List ℕ × Data)
returned_members cents index settled code returned late =
    (codes "cents", number (unsigned cents))
    ∷ (codes "code", string (code_text code))
    ∷ (codes "index", number (unsigned index))
    ∷ (codes "late", boolean late)
    ∷ (codes "returned", string (day_text returned))
    ∷ (codes "settled", string (day_text settled))
    ∷ (codes "state", string (codes "returned")) ∷ []

-- an entry in each of these states, with its cents and its number
abbrev pub unsent_entry : ReportedEntry → (state : List ℕ) → Data
unsent_entry e state = object_of (unsent_members e.cents e.index state)

abbrev pub sent_entry : ReportedEntry → (settled : ℕ) → Data
sent_entry e settled = object_of (sent_members e.cents e.index settled)

abbrev pub returned_entry : ReportedEntry → (settled code returned : ℕ) → (late : Bool) → Data
returned_entry e settled code returned late = object_of (returned_members e.cents e.index settled code returned late)

abbrev pub entry_members : (cents index : ℕ) → EntryState → List (List ℕ × Data)
entry_members cents index states.Held = unsent_members cents index (codes "held")
entry_members cents index states.Lapsed = unsent_members cents index (codes "lapsed")
entry_members cents index (states.Sent settled) = sent_members cents index settled
entry_members cents index (states.Returned settled code returned late) = returned_members cents index settled code returned late

unfoldable pub entry_body : ReportedEntry → Data
entry_body e = object_of (entry_members e.cents e.index e.state)

-- a retry names the entry that it tries again
abbrev pub retried_members : Option RetriedEntry → List (List ℕ × Data)
retried_members None = []
retried_members (Some entry) = (codes "of", string entry.of) ∷ (codes "of_index", number (unsigned entry.index)) ∷ []

-- the members behind it
abbrev pub report_last_members : SubmissionReport → List (List ℕ × Data)
report_last_members r =
    (codes "order", number (unsigned r.order))
    ∷ (codes "ref", string r.reference)
    ∷ (codes "sec", string (sec_text r.sec)) ∷ []

abbrev pub report_members : SubmissionReport → List (List ℕ × Data)
report_members r =
    (codes "cents", number (unsigned r.cents))
    ∷ (codes "day", string (day_text r.day))
    ∷ (codes "direction", string (direction_text r.direction))
    ∷ (codes "entries", list_of entry_body r.entries)
    ∷ (retried_members r.retried ++ report_last_members r)

unfoldable pub report_body : SubmissionReport → Data
report_body r = object_of (report_members r)

-- ---- returns and changes

-- the information without the blanks at its end
abbrev pub return_members : ReturnRow → List (List ℕ × Data)
return_members row =
    (codes "code", string (code_text row.code))
    ∷ (codes "day", string (day_text row.day))
    ∷ (codes "index", number (unsigned row.index))
    ∷ (codes "info", string (without_blanks_after row.info))
    ∷ (codes "late", boolean row.late)
    ∷ (codes "ref", string row.reference) ∷ []

unfoldable pub return_body : ReturnRow → Data
return_body row = object_of (return_members row)

unfoldable pub returns_body : List ReturnRow → Data
returns_body rows = list_alone (codes "returns") return_body rows

-- the corrected data with all its characters
abbrev pub change_members : ChangeRow → List (List ℕ × Data)
change_members row =
    (codes "code", string row.code)
    ∷ (codes "day", string (day_text row.day))
    ∷ (codes "index", number (unsigned row.index))
    ∷ (codes "ref", string row.reference)
    ∷ (codes "text", string row.text) ∷ []

unfoldable pub change_body : ChangeRow → Data
change_body row = object_of (change_members row)

unfoldable pub changes_body : List ChangeRow → Data
changes_body rows = list_alone (codes "changes") change_body rows

-- ---- a statement

abbrev pub cause_text : Cause → List ℕ
cause_text causes.Cut = codes "cut"
cause_text causes.Return = codes "return"

abbrev pub line_members : StatementLine → List (List ℕ × Data)
line_members line =
    (codes "cause", string (cause_text line.cause))
    ∷ (codes "cents", number (of_integer line.cents))
    ∷ (codes "day", string (day_text line.day))
    ∷ (codes "index", number (unsigned line.index))
    ∷ (codes "ref", string line.reference) ∷ []

unfoldable pub line_body : StatementLine → Data
line_body line = object_of (line_members line)

-- the balance as decimal text
abbrev pub statement_members : Statement → List (List ℕ × Data)
statement_members s =
    (codes "balance", string (signed_decimal s.balance))
    ∷ (codes "day", string (day_text s.day))
    ∷ (codes "lines", list_of line_body s.lines) ∷ []

unfoldable pub statement_body : Statement → Data
statement_body s = object_of (statement_members s)

-- ---- rates and exposure

abbrev pub rate_members : Rate → List (List ℕ × Data)
rate_members rate =
    (codes "d", number (unsigned rate.d))
    ∷ (codes "n", number (unsigned rate.n))
    ∷ (codes "over", boolean rate.over) ∷ []

unfoldable pub rate_body : Rate → Data
rate_body rate = object_of (rate_members rate)

abbrev pub rates_members : DayRates → List (List ℕ × Data)
rates_members r =
    (codes "administrative", rate_body r.rates.administrative)
    ∷ (codes "day", string (day_text r.day))
    ∷ (codes "overall", rate_body r.rates.overall)
    ∷ (codes "unauthorized", rate_body r.rates.unauthorized) ∷ []

unfoldable pub rates_body : DayRates → Data
rates_body r = object_of (rates_members r)

-- the exposures as decimal texts, the limits as numbers
abbrev pub exposure_members : Exposure → List (List ℕ × Data)
exposure_members e =
    (codes "credit", string (decimal e.credit))
    ∷ (codes "credit_limit", number (unsigned e.limits.credit))
    ∷ (codes "day", string (day_text e.day))
    ∷ (codes "debit", string (decimal e.debit))
    ∷ (codes "debit_limit", number (unsigned e.limits.debit))
    ∷ (codes "entry_limit", number (unsigned e.limits.entry)) ∷ []

unfoldable pub exposure_body : Exposure → Data
exposure_body e = object_of (exposure_members e)
