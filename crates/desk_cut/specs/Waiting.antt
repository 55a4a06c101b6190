-- What waits: of a company, and of the desk.
use Rattle.std.specs.Prelude.{◌≡◌, ◌⊎◌, ◌≤◌, ◌^◌, ℕ, List, length, map, sum_by, Option, Some, None}
use Rattle.std.specs.List.{flat_map}
use Rattle.desk_plan.specs.declared.batch.Batch.{Batch}
use Rattle.desk_plan.specs.Files.{division}
use Rattle.desk_rules.specs.declared.bodies.company.Company.{Company}
use Rattle.desk_book.specs.declared.held_submission.HeldSubmission.{HeldSubmission}
use Rattle.desk_book.specs.OnStatus.{company_status, due_loads, held_records}
use Rattle.desk_cut.specs.declared.waiting.CompanyWaiting.{CompanyWaiting}
use Rattle.desk_cut.specs.declared.waiting.DeskWaiting.{DeskWaiting}

-- a company with these held submissions
abbrev pub company_waiting : (day : Option ℕ) → (holidays : List ℕ) → Company → List HeldSubmission → CompanyWaiting
company_waiting day holidays k ws = record {
  held_records = held_records ws;
  loads = due_loads day holidays ws;
  status = company_status day holidays k ws;
}

-- what a cut would take for all of these companies
abbrev pub loads_of : List CompanyWaiting → List Batch
loads_of all = flat_map (λ w. w.loads) all

-- the status of each and the sums of all
abbrev pub desk_waiting : List CompanyWaiting → DeskWaiting
desk_waiting all = record {
  companies = map (λ w. w.status) all;
  due_files = length (division (loads_of all));
  due_records = sum_by (λ l. l.records) (loads_of all);
  held_records = sum_by (λ w. w.held_records) all;
}

-- That is it, or one of its numbers has more than 64 bits.
abbrev pub IsDeskWaiting : List CompanyWaiting → Option DeskWaiting → Type 0
IsDeskWaiting all (Some waiting) = waiting ≡ desk_waiting all
IsDeskWaiting all None = (2 ^ 64 ≤ (desk_waiting all).due_records) ⊎ (2 ^ 64 ≤ (desk_waiting all).held_records)
