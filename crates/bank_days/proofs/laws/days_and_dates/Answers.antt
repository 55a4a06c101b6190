use Rattle.std.proofs.Common.{◌≡◌, ℕ, ◌≤◌, true, refl, sym, ap, ◌∙◌, arith}
use Rattle.bank_days.specs.declared.date.Date.{Date}
use Rattle.bank_days.specs.Date.{is_date, date_of_number, number_of_date, days_of_years, days_of_months}
use Rattle.bank_days.proofs.DateNumbers.{names, is_date_real, real_date, date_of_number-number_of_date}
use Rattle.bank_days.proofs.laws.days_and_dates.Goals as goal

dated : (d : Date) → is_date d ≡ true → 1970 ≤ d.year → date_of_number (number_of_date d) ≡ d
dated d real since = date_of_number-number_of_date d (real_date d real since)

known : (d : Date) (n : ℕ) → number_of_date d ≡ n → is_date d ≡ true → 1970 ≤ d.year → date_of_number n ≡ d
known d n is real since = ap date_of_number (sym is) ∙ dated d real since

pub returns : goal.returns
unfolding number_of_date days_of_years days_of_months
returns c = record {
  named = λ n. is_date_real (date_of_number n) (names n).real;
  number = λ n. (names n).number;
  date = dated;
  first_is = known (record { year = 2000; month = 1; day = 1 }) 10_957 refl refl (omega arith);
  last_named_is = known (record { year = 2099; month = 12; day = 31 }) 47_481 refl refl (omega arith);
  last_given_is = known (record { year = 2100; month = 6; day = 30 }) 47_662 refl refl (omega arith);
  last_is = known (record { year = 2101; month = 12; day = 31 }) 48_211 refl refl (omega arith);
}
