-- What companies have waiting, summed.
use Rattle.std.proofs.Common.{◌≡◌, ◌∙◌, ℕ, ◌+◌, List, [], ◌∷◌, ◌++◌, length, map, refl, sym, ap}
use Rattle.std.specs.Prelude.{sum_by, Option}
use Rattle.std.proofs.lemmas.List.Sums.{sum_by-cons}
use Rattle.std.proofs.lemmas.Simd.{map-map}
use Rattle.desk_plan.specs.declared.batch.Batch.{Batch}
use Rattle.desk_plan.specs.Files.{division}
use Rattle.desk_rules.specs.declared.bodies.company.Company.{Company}
use Rattle.desk_book.specs.Book.{Book}
use Rattle.desk_cut.specs.declared.waiting.CompanyWaiting.{CompanyWaiting}
use Rattle.desk_cut.specs.Waiting.{desk_waiting, loads_of}
use Rattle.desk_calls.specs.Status.{all_waiting, each_waiting, loads_on, waiting_on}

module _ (day : Option ℕ) (holidays : List ℕ) (b : Book) where
  abbrev waits : Company → CompanyWaiting
  waits k = waiting_on day holidays k b

  all_loads : (ks : List Company) → loads_of (map waits ks) ≡ loads_on day holidays ks b
  all_loads [] = refl
  all_loads (k ∷ ks) = ap (λ (more : List Batch). (waits k).loads ++ more) (all_loads ks)

  all_records : (ks : List Company) → sum_by (λ w. w.held_records) (map waits ks) ≡ sum_by (λ k. (waits k).held_records) ks
  all_records [] = refl
  all_records (k ∷ ks) =
      sum_by-cons (λ (w : CompanyWaiting). w.held_records) (waits k) (map waits ks)
      ∙ ap (λ (more : ℕ). (waits k).held_records + more) (all_records ks)
      ∙ sym (sum_by-cons (λ k. (waits k).held_records) k ks)

  pub all_summed : (ks : List Company) → desk_waiting (each_waiting day holidays ks b) ≡ all_waiting day holidays ks b
  all_summed ks = λ i. record {
    companies = map-map (λ (w : CompanyWaiting). w.status) waits ks i;
    due_files = length (division (all_loads ks i));
    due_records = sum_by (λ l. l.records) (all_loads ks i);
    held_records = all_records ks i;
  }
