-- The body of each answer of the desk.
use Rattle.std.specs.Prelude.{◌≤◌, ⊤, ℕ, List, length, Bool, true, false, Some, None, Vec}
use Rattle.std.specs.declared.alloc.Global.{Global}
use Rattle.serde_json.specs.Written.{compact_text}
use Rattle.http_json.specs.Acceptance.{acceptance_body}
use Rattle.http_json.specs.Gains.{Gains}
use Rattle.desk_history.specs.declared.answer.Answer.{Answer}
use Rattle.desk_history.specs.declared.answer.Answer.TheVariants as answers
use Rattle.desk_history.specs.declared.answer.Outcome.{Outcome}
use Rattle.desk_history.specs.declared.answer.Outcome.TheVariants as outcomes
use Rattle.http_answers.specs.declared.faults.MessageFault.TheVariants.{NoReference, NoFile}
use Rattle.http_answers.specs.Companies.{companies_body}
use Rattle.http_answers.specs.Company.{report_body, returns_body, changes_body, statement_body, rates_body, exposure_body}
use Rattle.http_answers.specs.Faults.{message_fault_body}
use Rattle.http_answers.specs.Operator.{day_body, holidays_body, company_body, cut_body, intake_body, settlement_body, suspense_body}
use Rattle.http_answers.specs.Refusals.{call_refusal_body}
use Rattle.http_answers.specs.Status.{status_body}

-- the bytes of the body of what a call did or found: compact JSON, but the text of a file
abbrev pub outcome_body : Outcome → List ℕ
outcome_body (outcomes.Submitted r) = compact_text (acceptance_body r.reference r.cents r.entries r.order)
outcome_body (outcomes.Found None) = message_fault_body NoReference
outcome_body (outcomes.Found (Some report)) = compact_text (report_body report)
outcome_body (outcomes.Returns rows) = compact_text (returns_body rows)
outcome_body (outcomes.Changes rows) = compact_text (changes_body rows)
outcome_body (outcomes.Statement statement) = compact_text (statement_body statement)
outcome_body (outcomes.Rates rates) = compact_text (rates_body rates)
outcome_body (outcomes.Exposure exposure) = compact_text (exposure_body exposure)
outcome_body (outcomes.Day day) = compact_text (day_body day)
outcome_body (outcomes.Holidays holidays) = compact_text (holidays_body holidays)
outcome_body (outcomes.Company id) = compact_text (company_body id)
outcome_body (outcomes.Cut cut) = compact_text (cut_body cut)
outcome_body (outcomes.Taken intake) = compact_text (intake_body intake)
outcome_body (outcomes.File None) = message_fault_body NoFile
outcome_body (outcomes.File (Some text)) = text
outcome_body (outcomes.Settlement settlement) = compact_text (settlement_body settlement)
outcome_body (outcomes.Suspense rows) = compact_text (suspense_body rows)
outcome_body (outcomes.Status status) = compact_text (status_body status)
outcome_body (outcomes.Companies all) = compact_text (companies_body all)

-- the bytes of the body of an answer
abbrev pub answer_body : Answer → List ℕ
answer_body (answers.Done outcome) = outcome_body outcome
answer_body (answers.Refused why) = compact_text (call_refusal_body why)

-- is it what a command did?
abbrev pub is_of_command : Outcome → Bool
is_of_command (outcomes.Submitted receipt) = true
is_of_command (outcomes.Day day) = true
is_of_command (outcomes.Holidays holidays) = true
is_of_command (outcomes.Company id) = true
is_of_command (outcomes.Cut cut) = true
is_of_command (outcomes.Taken intake) = true
is_of_command outcome = false

-- is it the answer to a command that was carried out?
abbrev pub is_command : Answer → Bool
is_command (answers.Done outcome) = is_of_command outcome
is_command (answers.Refused why) = false

-- its body is short: a cut lists at most 36 files, the most that a day has
abbrev pub IsShort : Outcome → Type 0
IsShort (outcomes.Cut cut) = length cut.files ≤ 36
IsShort outcome = ⊤

abbrev pub FitsRoom : Answer → Type 0
FitsRoom (answers.Done outcome) = IsShort outcome
FitsRoom (answers.Refused why) = ⊤

-- ---- what a text gains

-- the body of what a call did or found
abbrev pub GainsOutcome : (old new : Vec ℕ Global) → Outcome → Type 0
GainsOutcome old new outcome = Gains old new (outcome_body outcome)

-- and where that is short
abbrev pub GainsShort : (old new : Vec ℕ Global) → Outcome → Type 0
GainsShort old new outcome = IsShort outcome → GainsOutcome old new outcome

-- the body of an answer that fits the room
abbrev pub GainsAnswer : (old new : Vec ℕ Global) → Answer → Type 0
GainsAnswer old new answer = FitsRoom answer → Gains old new (answer_body answer)
