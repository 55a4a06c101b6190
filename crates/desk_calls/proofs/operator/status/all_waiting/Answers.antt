use Rattle.std.proofs.Common.{◌∙◌, ap}
use Rattle.desk_cut.specs.Waiting.{desk_waiting}
use Rattle.desk_calls.proofs.Waits.{all_summed}
use Rattle.desk_calls.proofs.operator.status.all_waiting.Goals as goal

pub returns : goal.returns
returns g c =
    record {
      before = λ clean. c.each_waiting.ensures.before clean;
      read = λ clean b held.
          let each_read = c.in_ok-each.ensures.read clean b held in
          (c.in_ok-all.ensures ∙ ap desk_waiting each_read.0 ∙ all_summed c.args.day.now c.args.holidays.now b c.args.companies.now, each_read.1);
      left = λ clean kept may. c.each_waiting.ensures.left clean kept may;
    }
