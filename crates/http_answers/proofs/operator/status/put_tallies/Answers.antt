use Rattle.std.proofs.Common.{append_assoc}
use Rattle.http_answers.proofs.Texts.{tallies_text}
use Rattle.http_answers.proofs.operator.status.put_tallies.Goals as goal

pub returns : goal.returns
returns c = rw (
  tallies_text c.args.sums.now,
  c.put-2.ensures.items,
  c.put_tally-2.ensures.items,
  c.put_tally.ensures.items,
  c.put.ensures.items,
) (simp append_assoc)
