-- The texts of bodies, member by member.
use Rattle.std.proofs.Common.{◌≡◌, ◌∷◌, ℕ, List, false}
use Rattle.serde_json.specs.Written.{compact_text}
use Rattle.http_json.specs.Members.{last_members_text}
use Rattle.http_json.proofs.Objects.{compact_text-object_of}
use Rattle.desk_rules.specs.declared.rules.rate.Rate.{Rate}
use Rattle.desk_history.specs.declared.companies.CompanyRisk.{CompanyRisk}
use Rattle.desk_history.specs.declared.companies.DeskCompanies.{DeskCompanies}
use Rattle.desk_history.specs.declared.operations.CutSummary.{CutSummary}
use Rattle.desk_history.specs.declared.operations.DaySum.{DaySum}
use Rattle.desk_history.specs.declared.operations.Intake.{Intake}
use Rattle.desk_history.specs.declared.operations.Settlement.{Settlement}
use Rattle.desk_history.specs.declared.operations.SuspenseRow.{SuspenseRow}
use Rattle.desk_history.specs.declared.reports.ChangeRow.{ChangeRow}
use Rattle.desk_history.specs.declared.reports.DayRates.{DayRates}
use Rattle.desk_history.specs.declared.reports.Exposure.{Exposure}
use Rattle.desk_history.specs.declared.reports.ReturnRow.{ReturnRow}
use Rattle.desk_history.specs.declared.reports.Statement.{Statement}
use Rattle.desk_history.specs.declared.reports.StatementLine.{StatementLine}
use Rattle.desk_history.specs.declared.reports.SubmissionReport.{SubmissionReport}
use Rattle.desk_history.specs.declared.status.CompanyStatus.{CompanyStatus}
use Rattle.desk_history.specs.declared.status.DeskStatus.{DeskStatus}
use Rattle.desk_history.specs.declared.status.DueDay.{DueDay}
use Rattle.desk_history.specs.declared.status.Tallies.{Tallies}
use Rattle.desk_history.specs.declared.status.Tally.{Tally}
use Rattle.http_answers.specs.Companies.{without_day, risk_rates_body, risk_members, risk_body, companies_members, companies_body}
use Rattle.http_answers.specs.Company.{return_members, return_body, change_members, change_body, line_members, line_body, statement_members, statement_body, rate_members, rate_body, rates_members, rates_body, exposure_members, exposure_body, report_members, report_body}
use Rattle.http_answers.specs.Operator.{day_members, day_body, holidays_members, holidays_body, company_members, company_body, cut_members, cut_body, intake_members, intake_body, day_sum_members, day_sum_body, settlement_members, settlement_body, suspense_members, suspense_row_body}
use Rattle.http_answers.specs.Status.{tally_members, tally_body, tallies_members, tallies_body, due_members, due_body, company_status_members, company_status_body, status_members, status_body}

-- ---- what a company is told

pub report_text : (r : SubmissionReport) → compact_text (report_body r) ≡ 123 ∷ last_members_text false (report_members r)
unfolding report_body
report_text r = compact_text-object_of (report_members r)

pub return_text : (row : ReturnRow) → compact_text (return_body row) ≡ 123 ∷ last_members_text false (return_members row)
unfolding return_body
return_text row = compact_text-object_of (return_members row)

pub change_text : (row : ChangeRow) → compact_text (change_body row) ≡ 123 ∷ last_members_text false (change_members row)
unfolding change_body
change_text row = compact_text-object_of (change_members row)

pub line_text : (line : StatementLine) → compact_text (line_body line) ≡ 123 ∷ last_members_text false (line_members line)
unfolding line_body
line_text line = compact_text-object_of (line_members line)

pub statement_text : (s : Statement) → compact_text (statement_body s) ≡ 123 ∷ last_members_text false (statement_members s)
unfolding statement_body
statement_text s = compact_text-object_of (statement_members s)

pub rate_text : (rate : Rate) → compact_text (rate_body rate) ≡ 123 ∷ last_members_text false (rate_members rate)
unfolding rate_body
rate_text rate = compact_text-object_of (rate_members rate)

pub rates_text : (r : DayRates) → compact_text (rates_body r) ≡ 123 ∷ last_members_text false (rates_members r)
unfolding rates_body
rates_text r = compact_text-object_of (rates_members r)

pub exposure_text : (e : Exposure) → compact_text (exposure_body e) ≡ 123 ∷ last_members_text false (exposure_members e)
unfolding exposure_body
exposure_text e = compact_text-object_of (exposure_members e)

-- ---- what the operator is told

pub day_body_text : (day : ℕ) → compact_text (day_body day) ≡ 123 ∷ last_members_text false (day_members day)
unfolding day_body
day_body_text day = compact_text-object_of (day_members day)

pub holidays_text : (holidays : ℕ) → compact_text (holidays_body holidays) ≡ 123 ∷ last_members_text false (holidays_members holidays)
unfolding holidays_body
holidays_text holidays = compact_text-object_of (holidays_members holidays)

pub company_text : (id : List ℕ) → compact_text (company_body id) ≡ 123 ∷ last_members_text false (company_members id)
unfolding company_body
company_text id = compact_text-object_of (company_members id)

pub cut_text : (cut : CutSummary) → compact_text (cut_body cut) ≡ 123 ∷ last_members_text false (cut_members cut)
unfolding cut_body
cut_text cut = compact_text-object_of (cut_members cut)

pub intake_text : (intake : Intake) → compact_text (intake_body intake) ≡ 123 ∷ last_members_text false (intake_members intake)
unfolding intake_body
intake_text intake = compact_text-object_of (intake_members intake)

pub day_sum_text : (sum : DaySum) → compact_text (day_sum_body sum) ≡ 123 ∷ last_members_text false (day_sum_members sum)
unfolding day_sum_body
day_sum_text sum = compact_text-object_of (day_sum_members sum)

pub settlement_text : (s : Settlement) → compact_text (settlement_body s) ≡ 123 ∷ last_members_text false (settlement_members s)
unfolding settlement_body
settlement_text s = compact_text-object_of (settlement_members s)

pub suspense_row_text : (row : SuspenseRow) → compact_text (suspense_row_body row) ≡ 123 ∷ last_members_text false (suspense_members row)
unfolding suspense_row_body
suspense_row_text row = compact_text-object_of (suspense_members row)

pub tally_text : (t : Tally) → compact_text (tally_body t) ≡ 123 ∷ last_members_text false (tally_members t)
unfolding tally_body
tally_text t = compact_text-object_of (tally_members t)

pub tallies_text : (t : Tallies) → compact_text (tallies_body t) ≡ 123 ∷ last_members_text false (tallies_members t)
unfolding tallies_body
tallies_text t = compact_text-object_of (tallies_members t)

pub due_text : (d : DueDay) → compact_text (due_body d) ≡ 123 ∷ last_members_text false (due_members d)
unfolding due_body
due_text d = compact_text-object_of (due_members d)

pub company_status_text : (s : CompanyStatus) → compact_text (company_status_body s) ≡ 123 ∷ last_members_text false (company_status_members s)
unfolding company_status_body
company_status_text s = compact_text-object_of (company_status_members s)

pub status_text : (s : DeskStatus) → compact_text (status_body s) ≡ 123 ∷ last_members_text false (status_members s)
unfolding status_body
status_text s = compact_text-object_of (status_members s)

pub risk_rates_text : (r : DayRates) → compact_text (risk_rates_body r) ≡ 123 ∷ last_members_text false (without_day (rates_members r))
unfolding risk_rates_body
risk_rates_text r = compact_text-object_of (without_day (rates_members r))

pub risk_text : (k : CompanyRisk) → compact_text (risk_body k) ≡ 123 ∷ last_members_text false (risk_members k)
unfolding risk_body
risk_text k = compact_text-object_of (risk_members k)

pub companies_text : (all : DeskCompanies) → compact_text (companies_body all) ≡ 123 ∷ last_members_text false (companies_members all)
unfolding companies_body
companies_text all = compact_text-object_of (companies_members all)
