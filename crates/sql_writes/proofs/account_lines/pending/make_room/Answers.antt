use Rattle.std.proofs.Common.{length, sym, arith}
use Rattle.std.proofs.lemmas.List.{take_all}
use Rattle.sql_writes.proofs.account_lines.pending.make_room.Goals as goal

pub returns-then-not-is_full-clause-front : goal.returns-then-not-is_full-clause-front
returns-then-not-is_full-clause-front g c =
    let xs = c.args.pending.now.items in
    (length xs, sym (take_all (length xs) xs (omega arith)))
