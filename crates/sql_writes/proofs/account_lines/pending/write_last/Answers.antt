use Rattle.std.proofs.Common.{◌≡◌, [], ◌∷◌, ◌++◌, to_z, of_z, sym, subst, rules}
use Rattle.std.specs.Int.{w128}
use Rattle.sqlite.specs.Held.{state}
use Rattle.sql_writes.specs.PendingBalances.{MakesBut}
use Rattle.sql_writes.proofs.PendingSums.{but_written}
use Rattle.sql_writes.proofs.account_lines.pending.write_last.Goals as goal

pub returns-clause-runs : goal.returns-clause-runs
returns-clause-runs g c = record {
  same_reference = search rules;
  makes = λ clean.
      let last = c.in-Some.last in
      let rest = c.pop.new.self.items in
      let old = state g.S.Store c.args.tx.now.conn.now in
      let new = state g.S.Store c.put_balance.new.tx.conn.now in
      let whole : to_z w128 (of_z w128 last.cents) ≡ last.cents = search rules in
      let all : c.args.pending.now.items ≡ rest ++ last ∷ [] = search rules in
      subst (λ l. MakesBut l rest (λ balances. balances) old new) (sym all) (but_written rest last old new (rw whole at (c.in_ok-put_balance.ensures.makes clean)));
  keeps = search rules;
  survives = search rules;
}
