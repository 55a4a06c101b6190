use Rattle.std.proofs.Common.{rules, ◌≡◌, not, arith}
use Rattle.std.specs.List.{position_or_len}
use Rattle.std.proofs.lemmas.List.Sums.{prefix_len-le-length}
use Rattle.sqlite.specs.Held.{state}
use Rattle.sql_writes.specs.LineEdits.{with_line}
use Rattle.sql_writes.specs.PendingBalances.{is_pending_of}
use Rattle.sql_writes.proofs.PendingSums.{but_same}
use Rattle.sql_writes.proofs.account_lines.pending.add_line.Goals as goal

pub returns-then-at-len : goal.returns-then-at-len
returns-then-at-len g c = record {
  same_reference = search rules;
  makes = λ clean. but_same c.args.pending.now.items c.add_there.new.pending.items (with_line c.args.line.now) (state g.S.Store c.args.tx.now.conn.now) c.in_ok-add_there.ensures;
  keeps = search rules;
  survives = search rules;
}

pub add_new-requires : goal.add_new-requires
add_new-requires g c =
    let xs = c.args.pending.now.items in
    let p = c.args.line.now in
    let at : c.place_of-at.result ≡ position_or_len (is_pending_of p.account p.value_day) xs = rw c.as_slice.ensures.value at c.place_of-at.ensures in
    let most = prefix_len-le-length (λ b. not (is_pending_of p.account p.value_day b)) xs in
    omega (arith, at, most, c.len.ensures.value, c.if-at-len.false)
