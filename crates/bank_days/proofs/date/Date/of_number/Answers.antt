use Rattle.std.proofs.Common.{◌≡◌, ◌≤◌, ◌<◌, ◌^◌, ℕ, ℤ, pos, to_z, of_z, w8, w16, unsigned_abs, ap, ◌∙◌, arith}
use mir.Syntax.{Width}
use mir.Val.{hbits}
use Rattle.jiff_core.specs.Date.{epoch_day}
use Rattle.jiff_core.specs.declared.civil.date.Date.{Date as PlainDate}
use Rattle.jiff_core.proofs.SignedLemmas.{back_small}
use Rattle.bank_days.specs.Date.{date_of_number}
use Rattle.bank_days.proofs.DateNumbers.{names, year_bound, days_in_month_bounds}
use Rattle.bank_days.proofs.PlainDates.{same_date}
use Rattle.bank_days.proofs.date.Date.of_number.Goals as goal

kept : (w : Width) (z : ℤ) (k : ℕ) → z ≡ pos k → k < 2 ^ hbits w → to_z w (of_z w z) ≡ pos k
kept w z k is lt =
    let small : unsigned_abs z < 2 ^ hbits w = rw is lt in
    back_small w z small ∙ is

-- the year, the month and the day of a day from 1970 on, in fewer bits
kept_year : (plain : PlainDate) (n : ℕ) (z : ℤ) → n ≤ 48211 → epoch_day plain ≡ pos n → z ≡ plain.year → to_z w16 (of_z w16 z) ≡ pos (date_of_number n).year
kept_year plain n z le is part =
    kept w16 z _ (part ∙ (same_date plain n le is).year) (omega (arith, year_bound n le))

kept_month : (plain : PlainDate) (n : ℕ) (z : ℤ) → n ≤ 48211 → epoch_day plain ≡ pos n → z ≡ pos plain.month → to_z w8 (of_z w8 z) ≡ pos (date_of_number n).month
kept_month plain n z le is part =
    kept w8 z _ (part ∙ ap pos (same_date plain n le is).month) (omega (arith, (names n).real.month))

kept_day : (plain : PlainDate) (n : ℕ) (z : ℤ) → n ≤ 48211 → epoch_day plain ≡ pos n → z ≡ pos plain.day → to_z w8 (of_z w8 z) ≡ pos (date_of_number n).day
kept_day plain n z le is part =
    let d = date_of_number n in
    kept w8 z _ (part ∙ ap pos (same_date plain n le is).day) (omega (arith, (names n).real.day, days_in_month_bounds d.year d.month))

pub overflow_cast-result : goal.overflow_cast-result
overflow_cast-result c =
    rw (kept_year c.plain_date-date.result c.args.number c.year.result c.requires c.plain_date-date.ensures c.year.ensures) (tt, omega (arith, year_bound c.args.number c.requires))

pub returns-clause-value : goal.returns-clause-value
returns-clause-value c =
    let plain = c.plain_date-date.result in
    let is = c.plain_date-date.ensures in
    let year = kept_year plain c.args.number c.year.result c.requires is c.year.ensures in
    let month = kept_month plain c.args.number c.month.result c.requires is c.month.ensures in
    let day = kept_day plain c.args.number c.day.result c.requires is c.day.ensures in
    (λ i. record { year = unsigned_abs (year i); month = unsigned_abs (month i); day = unsigned_abs (day i) })

pub returns-clause-year : goal.returns-clause-year
returns-clause-year c =
    rw (kept_year c.plain_date-date.result c.args.number c.year.result c.requires c.plain_date-date.ensures c.year.ensures) (year_bound c.args.number c.requires)
