-- The desk's reads about what waits.
use Rattle.std.specs.Prelude.{ℕ, List, length, map, sum_by, Option}
use Rattle.std.specs.List.{flat_map}
use Rattle.desk_plan.specs.declared.batch.Batch.{Batch}
use Rattle.desk_plan.specs.Files.{division}
use Rattle.desk_rules.specs.declared.bodies.company.Company.{Company}
use Rattle.desk_book.specs.Book.{Book}
use Rattle.desk_book.specs.OnStatus.{company_status, due_loads, held_records}
use Rattle.desk_book.specs.Reads.{waiting_of}
use Rattle.desk_cut.specs.declared.waiting.CompanyWaiting.{CompanyWaiting}
use Rattle.desk_cut.specs.declared.waiting.DeskWaiting.{DeskWaiting}
use Rattle.desk_cut.specs.Waiting.{company_waiting}

-- what a company has waiting
abbrev pub waiting_on : (day : Option ℕ) → (holidays : List ℕ) → Company → Book → CompanyWaiting
waiting_on day holidays k b = company_waiting day holidays k (waiting_of k b)

-- what each of these companies has waiting
abbrev pub each_waiting : (day : Option ℕ) → (holidays : List ℕ) → List Company → Book → List CompanyWaiting
each_waiting day holidays ks b = map (λ k. waiting_on day holidays k b) ks

-- what a cut would take for all of them
abbrev pub loads_on : (day : Option ℕ) → (holidays : List ℕ) → List Company → Book → List Batch
loads_on day holidays ks b = flat_map (λ k. due_loads day holidays (waiting_of k b)) ks

-- the status of each, and the sums of all
abbrev pub all_waiting : (day : Option ℕ) → (holidays : List ℕ) → List Company → Book → DeskWaiting
all_waiting day holidays ks b = record {
  companies = map (λ k. company_status day holidays k (waiting_of k b)) ks;
  due_files = length (division (loads_on day holidays ks b));
  due_records = sum_by (λ l. l.records) (loads_on day holidays ks b);
  held_records = sum_by (λ k. held_records (waiting_of k b)) ks;
}
