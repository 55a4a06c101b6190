-- The operator reads of each company what the company itself reads.
use Rattle.std.proofs.Common.{◌≡◌, ℕ, List, [], ◌∷◌, map, Bool, false, cond, Option, Some, None, refl, sym, ap, ◌∙◌, find, option_map, Ok, All, bytes_eq}
use Rattle.std.specs.List.{AllByRecursion}
use Rattle.std.proofs.lemmas.Bool.{false_from_ne_true}
use Rattle.std.proofs.lemmas.List.Elements.{All-nil, All-cons}
use Rattle.std.proofs.lemmas.Slice.Eq.{bytes_eq-Decides}
use Rattle.desk_rules.specs.declared.bodies.company.Company.{Company}
use Rattle.desk_rules.specs.declared.refusals.refusal.Refusal.TheVariants.{NoCompany, NoDay}
use Rattle.desk_rules.specs.Chain.{◌>>=◌}
use Rattle.desk_history.specs.declared.answer.Outcome.TheVariants as done
use Rattle.desk_history.specs.declared.identity.Identity.{Identity}
use Rattle.desk_history.specs.Words.{some_or}
use Rattle.desk_history.specs.Part as part_of
use Rattle.desk_history.specs.Part.{Event, limits}
use Rattle.desk_history.specs.Acceptance.{submissions}
use Rattle.desk_history.specs.Facts.{facts}
use Rattle.desk_history.specs.Reports.{day_rates, exposure}
use Rattle.desk_history.specs.Reply.{answer_of}
use Rattle.desk_history.specs.Companies.{company_risk, desk_companies}
use Rattle.desk_history.specs.CompanyRows.{IsOwnRow, ShowsOwnRows, CompaniesRows}
use Rattle.desk_history.specs.Message.{Pair}
use Rattle.desk_history.specs.History.{day, companies, part}
use Rattle.desk_history.specs.Operator.{has_id, IsHistory}
use Rattle.desk_history.proofs.Basics.Each.{each-weaker}
use Rattle.desk_history.proofs.Basics.Elements.{same_text}
use Rattle.desk_history.proofs.Accounts.Companies.{Apart, companies_apart}
use Rattle.desk_history.proofs.Lines.PartLimits.{same_day, same_limits}

-- ---- each company is found under its identification

abbrev IsFoundIn : List Company → Company → Type 0
IsFoundIn ks k = find (has_id k.id) ks ≡ Some k

found_behind : (k : Company) (ks : List Company) → find (has_id k.id) ks ≡ None → (other : Company) → IsFoundIn ks other → IsFoundIn (k ∷ ks) other
found_behind k ks none other found =
    let apart : bytes_eq k.id other.id ≡ false = false_from_ne_true (bytes_eq k.id other.id) (λ same.
    let no : None ≡ Some other = sym none ∙ ap (λ (id : List ℕ). find (has_id id) ks) ((bytes_eq-Decides k.id other.id).0 same) ∙ found in
    cc) in
    ap (λ (b : Bool). cond b (Some k) (find (has_id other.id) ks)) apart ∙ found

each_found : (ks : List Company) → Apart ks → AllByRecursion (IsFoundIn ks) ks
each_found [] apart = tt
each_found (k ∷ ks) apart = (
  ap (λ (b : Bool). cond b (Some k) (find (has_id k.id) ks)) (same_text k.id),
  each-weaker (IsFoundIn ks) (IsFoundIn (k ∷ ks)) (found_behind k ks apart.0) ks (each_found ks apart.1),
)

-- ---- a row

module _ (identity : Identity) (H : List Pair) (is : IsHistory identity H) (d : ℕ) (on : day H ≡ Some d) where
  own_row : (k : Company) → IsFoundIn (companies H) k → IsOwnRow (part identity.odfi H k.id) (company_risk (part identity.odfi H) d k)
  own_row k found =
      let P : List Event = part identity.odfi H k.id in
      let limited : limits P ≡ Some k.limits = sym (same_limits identity H k.id is) ∙ ap (option_map (λ (k : Company). k.limits)) found in
      let dated : part_of.day P ≡ Some d = same_day identity.odfi H k.id ∙ on in
      record {
        exposure = (λ i. answer_of (some_or NoCompany (limited i) >>= (λ limits. some_or NoDay (dated i) >>= (λ d.
            Ok (done.Exposure (exposure (facts P (submissions P)) (part_of.holidays P) limits d))))));
        rates = (λ i. answer_of (some_or NoCompany (limited i) >>= (λ _. some_or NoDay (dated i) >>= (λ d.
            Ok (done.Rates (day_rates (facts P (submissions P)) d))))));
      }

  own_rows : (ks : List Company) → AllByRecursion (IsFoundIn (companies H)) ks
      → All (λ row. IsOwnRow (part identity.odfi H row.id) row) (map (company_risk (part identity.odfi H) d) ks)
  own_rows [] found = All-nil (λ row. IsOwnRow (part identity.odfi H row.id) row)
  own_rows (k ∷ ks) found =
      All-cons (λ row. IsOwnRow (part identity.odfi H row.id) row) (company_risk (part identity.odfi H) d k) (map (company_risk (part identity.odfi H) d) ks)
      (own_row k found.0) (own_rows ks found.1)

same_ids : (parts : List ℕ → List Event) (d : ℕ) (ks : List Company) → map (λ row. row.id) (map (company_risk parts d) ks) ≡ map (λ k. k.id) ks
same_ids parts d [] = refl
same_ids parts d (k ∷ ks) = ap (λ (ids : List (List ℕ)). k.id ∷ ids) (same_ids parts d ks)

same_names : (parts : List ℕ → List Event) (d : ℕ) (ks : List Company) → map (λ row. row.name) (map (company_risk parts d) ks) ≡ map (λ k. k.name) ks
same_names parts d [] = refl
same_names parts d (k ∷ ks) = ap (λ (names : List (List ℕ)). k.name ∷ names) (same_names parts d ks)

-- ---- the law

pub companies_rows : CompaniesRows
companies_rows identity H is = by (day H) refl where
  by : (o : Option ℕ) → day H ≡ o → ShowsOwnRows identity.odfi H o (answer_of (some_or NoDay o >>= (λ d. Ok (done.Companies (desk_companies identity.odfi H d)))))
  by None none = refl
  by (Some d) on = (
    refl,
    record {
      ids = same_ids (part identity.odfi H) d (companies H);
      names = same_names (part identity.odfi H) d (companies H);
      own = own_rows identity H is d on (companies H) (each_found (companies H) (companies_apart identity H is));
    },
  )
