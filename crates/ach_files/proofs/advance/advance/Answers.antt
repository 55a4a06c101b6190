use Rattle.std.proofs.Common.{arith}
use Rattle.ach_files.proofs.Adding.{split_cents}
use Rattle.ach_files.proofs.advance.advance.Goals as goal

pub with_item-requires : goal.with_item-requires
with_item-requires c =
    let w = c.in-AwaitingAddenda-Return99.entry in
    omega (arith, split_cents w.is_debit w.cents, rw c.in-AwaitingAddenda-Return99.is-0 at c.requires.bounded, c.requires.few)
