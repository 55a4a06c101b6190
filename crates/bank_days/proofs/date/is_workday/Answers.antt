use Rattle.std.proofs.Common.{◌≡◌, not, nat_lt, ◌∙◌, arith}
use Rattle.std.proofs.lemmas.Grind.{common_steps}
use Rattle.std.proofs.lemmas.Bool.Decides.{nat_tests}
use Rattle.jiff_core.specs.Date.{weekday_of}
use Rattle.bank_days.proofs.PlainDates.{same_workday}
use Rattle.bank_days.proofs.date.is_workday.Goals as goal

pub returns : goal.returns
returns c =
    let off : not c.match-matches.matches ≡ nat_lt (weekday_of c.plain_date.result) 5 = grind (arith, common_steps, nat_tests) in
    off ∙ same_workday c.plain_date.result c.args.number c.plain_date.ensures
