use Rattle.std.proofs.Common.{◌≡◌, [], ◌∷◌, ◌++◌, None, arith, rules, to_z, of_z, subst, sym, ap, ◌∙◌}
use Rattle.std.specs.Int.{w64, w128}
use Rattle.sqlite.specs.Held.{state}
use Rattle.sqlite.specs.State.{HasCleanDisk}
use Rattle.sqlite.proofs.StateLemmas.{survives_then}
use Rattle.sql_writes.specs.LineEdits.{with_line}
use Rattle.sql_writes.specs.PendingBalances.{summed, pending_of, MakesBut}
use Rattle.sql_writes.proofs.PendingSums.{none_pending, none_in_front, but_read, but_then}
use Rattle.sql_writes.proofs.account_lines.pending.add_new.Goals as goal

pub returns : goal.returns
returns g c = record {
  same_reference = search rules;
  makes = λ clean.
      let p = c.args.line.now in
      let xs = c.args.pending.now.items in
      let ys = c.make_room.new.pending.items in
      let sum = c.in_ok-sum.sum in
      let s0 = state g.S.Store c.args.tx.now.conn.now in
      let s1 = state g.S.Store c.make_room.new.tx.conn.now in
      let s2 = state g.S.Store c.sum_inside.new.tx.conn.now in
      let cents : to_z w64 (of_z w64 p.cents) ≡ p.cents = search rules in
      let whole : to_z w128 (of_z w128 sum) ≡ sum = search rules in
      let front = c.in_ok-make_room.ensures.front in
      let none : pending_of ys p.account p.value_day ≡ None =
      ap (λ l. pending_of l p.account p.value_day) front.1 ∙ none_in_front p.account p.value_day front.0 xs (none_pending p.account p.value_day xs c.requires) in
      let new : c.push.new.self.items ≡ ys ++ summed p sum ∷ [] = c.push.ensures.items ∙ ap (λ b. ys ++ b ∷ []) (rw whole at c.with_sum.ensures) in
      let before : HasCleanDisk s1 = omega (arith, c.sum_inside.ensures.survives.clean, clean) in
      subst (λ l. MakesBut xs l (with_line p) s0 s2) (sym new)
      (but_then xs ys (ys ++ summed p sum ∷ []) (λ balances. balances) (with_line p) s0 s1 s2 (c.in_ok-make_room.ensures.runs.makes before)
      (but_read p c.in_ok-before.before sum ys s1 s2 (c.in_ok-before.ensures.makes clean) none (rw cents at c.in_ok-sum.ensures)));
  keeps = search rules;
  survives =
      survives_then (state g.S.Store c.args.tx.now.conn.now) (state g.S.Store c.make_room.new.tx.conn.now) (state g.S.Store c.sum_inside.new.tx.conn.now) _ _ _ (λ _ db made. made) (λ _ db made. made)
      c.make_room.ensures.runs.survives c.sum_inside.ensures.survives;
}
