-- The calendar that days make has these days.
use Rattle.std.proofs.Common.{◌≡◌, ◌∙◌, ℕ, List, [], ◌∷◌, map, Some, Result, Ok, Err, IfOk, refl, sym, ap}
use Rattle.std.specs.List.{filter_map}
use Rattle.sqlite.specs.State.{State}
use Rattle.bank_days.specs.HolidayList.{holidays_of_days}
use Rattle.bank_days.proofs.HolidayLaws.{made}
use Rattle.sql_statements.specs.Findings.{Finds}
use Rattle.sql_statements.proofs.Findings.{finds_as}
use Rattle.sql_tables.specs.Layout.{desk_layout}

listed : (days : List ℕ) → filter_map (λ day. day) (map (λ d. Some d) days) ≡ days
listed [] = refl
listed (day ∷ days) = ap (λ ds. day ∷ ds) (listed days)

pub days_of : (days calendar : List ℕ) → holidays_of_days days ≡ Ok calendar → calendar ≡ days
days_of days calendar is = sym (listed calendar) ∙ sym (ap (filter_map (λ day. day)) (made (map (λ d. Some d) days) calendar is).rows_are) ∙ listed days

-- the days are those of the table
pub holidays_are : {E : Type 0} (s : State) (r : Result (List ℕ) E) (days : List ℕ)
    → IfOk r (λ c. c ≡ days) → Finds desk_layout (λ t. days ≡ t.holidays) s → IfOk r (λ c. Finds desk_layout (λ t. c ≡ t.holidays) s)
holidays_are s (Ok c) days is found = finds_as _ _ _ (λ t are. is ∙ are) _ found
holidays_are s (Err fault) days is found = tt
