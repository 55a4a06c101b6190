-- The body of the desk's status, with its keys in byte order.
use Rattle.std.specs.Prelude.{ℕ, List, [], ◌∷◌, codes, Option, Some, None}
use Rattle.std.specs.Fmt.{decimal}
use Rattle.serde_json.specs.Data.{Data, null, number, unsigned, string}
use Rattle.bank_days.specs.Day.{day_text}
use Rattle.http_json.specs.Members.{object_of}
use Rattle.desk_history.specs.declared.status.CompanyStatus.{CompanyStatus}
use Rattle.desk_history.specs.declared.status.DeskStatus.{DeskStatus}
use Rattle.desk_history.specs.declared.status.DueDay.{DueDay}
use Rattle.desk_history.specs.declared.status.Tallies.{Tallies}
use Rattle.desk_history.specs.declared.status.Tally.{Tally}
use Rattle.http_answers.specs.Lists.{list_of}
use Rattle.http_answers.specs.Operator.{files_body}

-- cents as decimal text
abbrev pub tally_members : Tally → List (List ℕ × Data)
tally_members t = (codes "cents", string (decimal t.cents)) ∷ (codes "submissions", number (unsigned t.submissions)) ∷ []

unfoldable pub tally_body : Tally → Data
tally_body t = object_of (tally_members t)

abbrev pub tallies_members : Tallies → List (List ℕ × Data)
tallies_members t = (codes "credits", tally_body t.credits) ∷ (codes "debits", tally_body t.debits) ∷ []

unfoldable pub tallies_body : Tallies → Data
tallies_body t = object_of (tallies_members t)

abbrev pub due_members : DueDay → List (List ℕ × Data)
due_members d =
    (codes "credits", tally_body d.sums.credits)
    ∷ (codes "day", string (day_text d.day))
    ∷ (codes "debits", tally_body d.sums.debits) ∷ []

unfoldable pub due_body : DueDay → Data
due_body d = object_of (due_members d)

abbrev pub company_status_members : CompanyStatus → List (List ℕ × Data)
company_status_members s =
    (codes "due", list_of due_body s.due)
    ∷ (codes "held", tallies_body s.held)
    ∷ (codes "id", string s.id)
    ∷ (codes "lapsing", number (unsigned s.lapsing))
    ∷ (codes "name", string s.name) ∷ []

unfoldable pub company_status_body : CompanyStatus → Data
company_status_body s = object_of (company_status_members s)

-- the desk day, and null before the first
abbrev pub day_or_null : Option ℕ → Data
day_or_null None = null
day_or_null (Some day) = string (day_text day)

-- the status of each company
abbrev pub companies_body : List CompanyStatus → Data
companies_body companies = list_of company_status_body companies

abbrev pub status_members : DeskStatus → List (List ℕ × Data)
status_members s =
    (codes "companies", companies_body s.companies)
    ∷ (codes "day", day_or_null s.day)
    ∷ (codes "due_files", number (unsigned s.due_files))
    ∷ (codes "due_records", number (unsigned s.due_records))
    ∷ (codes "files", files_body s.files)
    ∷ (codes "held_records", number (unsigned s.held_records))
    ∷ (codes "holidays", number (unsigned s.holidays))
    ∷ (codes "sent", number (unsigned s.sent))
    ∷ (codes "suspense", number (unsigned s.suspense)) ∷ []

unfoldable pub status_body : DeskStatus → Data
status_body s = object_of (status_members s)
