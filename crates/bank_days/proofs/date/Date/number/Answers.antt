use Rattle.std.proofs.Common.{◌≡◌, false, sym, ap, ◌∙◌, arith}
use Rattle.std.proofs.lemmas.Int.{ints}
use Rattle.std.proofs.lemmas.Bool.Decides.{nat_tests}
use Rattle.jiff_core.specs.Date.{epoch_day}
use Rattle.bank_days.specs.Day.{is_date_of_century}
use Rattle.bank_days.proofs.DayTexts.{no_day}
use Rattle.bank_days.proofs.PlainDates.{IsNumberOf, refused, taken}
use Rattle.bank_days.proofs.date.Date.number.Goals as goal

pub returns-then-self-lt2000-clause-value : goal.returns-then-self-lt2000-clause-value
returns-then-self-lt2000-clause-value c =
    let outside = c.then-self-lt2000.either in
    let none : is_date_of_century c.args.self ≡ false = grind (arith, nat_tests) in
    sym (no_day c.args.self none)

pub returns-in_err-date-clause-value : goal.returns-in_err-date-clause-value
returns-in_err-date-clause-value c =
    c.from_residual.ensures ∙ sym (refused c.new.result c.args.self _ _ _ c.new.ensures.succeeds c.in_err-date.ensures.variant (omega (arith, ints)) (omega (arith, ints)) (omega (arith, ints)) (omega arith))

the_number : (c : goal.After-to_unix_epoch_day) → IsNumberOf c.args.self c.to_unix_epoch_day.result
the_number c =
    taken c.new.result c.args.self _ _ _ _ c.to_unix_epoch_day.result c.new.ensures.succeeds c.new.ensures.value
    c.in_ok-date.ensures.value (c.to_unix_epoch_day.ensures.value ∙ ap epoch_day c.to_plain.ensures) (omega (arith, ints)) (omega (arith, ints)) (omega (arith, ints)) (omega arith) (omega arith)

pub overflow_cast-result : goal.overflow_cast-result
overflow_cast-result c = let t = the_number c in rw t.kept (tt, omega (arith, t.bounds))

pub returns-clause-value : goal.returns-clause-value
returns-clause-value c = let t = the_number c in rw t.kept (sym t.day)

pub returns-clause-within : goal.returns-clause-within
returns-clause-within c = let t = the_number c in rw t.kept t.bounds
