use Rattle.std.proofs.Common.{◌∙◌}
use Rattle.desk_cut.proofs.Sums.{day_placed}
use Rattle.desk_cut.proofs.status.add_day.Goals as goal

pub returns : goal.returns
returns c = c.in_ok-insert.ensures.keys ∙ day_placed c.args.days.now.keys c.args.day
