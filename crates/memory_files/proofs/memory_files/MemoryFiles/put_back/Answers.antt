use Rattle.std.proofs.Common.{arith, refl, sym, Some}
use Rattle.memory_files.proofs.Keeping.{past_end}
use Rattle.memory_files.proofs.memory_files.MemoryFiles.put_back.Goals as goal

pub returns-then-at-len : goal.returns-then-at-len
returns-then-at-len c = rw c.in-Some.is (c.left-kept.result, c.left-kept.ensures, c.exchange-before.ensures.after, refl, refl)

pub returns-else-at-len : goal.returns-else-at-len
returns-else-at-len c = rw c.in-Some.is (
  c.left-kept.result,
  c.left-kept.ensures,
  sym (past_end c.args.self.now.places.items c.in-Some.at (Some c.left-kept.result) (omega (arith, c.if-at-len.false, c.len.ensures))),
  refl,
  refl,
)
