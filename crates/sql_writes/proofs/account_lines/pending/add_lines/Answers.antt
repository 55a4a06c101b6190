use Rattle.std.proofs.Common.{◌≡◌, rules, arith, subst, sym, ap, ◌∙◌, take, ◌++◌, ◌∷◌, [], ◌+◌}
use Rattle.std.proofs.lemmas.List.{take_more, take_all}
use Rattle.sqlite.specs.Held.{state}
use Rattle.sqlite.specs.State.{HasCleanDisk}
use Rattle.sql_writes.specs.LineEdits.{with_lines}
use Rattle.sql_writes.specs.PendingBalances.{MakesBut}
use Rattle.sql_writes.proofs.PendingSums.{but_same, but_line, but_then, but_none}
use Rattle.sql_writes.proofs.account_lines.pending.add_lines.Goals as goal

pub loop-line-init : goal.loop-line-init
loop-line-init g c =
    let start = state g.S.Store c.args.tx.now.conn.now in
    record {
      same = search rules;
      made = λ clean. rw c.new-pending.ensures (but_same [] [] (λ balances. balances) start (λ rows balances stands. stands));
      keeps = search rules;
      survives = search rules;
    }

pub loop-line-preserved : goal.loop-line-preserved
loop-line-preserved g c =
    let start = state g.S.Store c.args.tx.now.conn.now in
    let mid = state g.S.Store c.loop-line.tx.conn.now in
    let now = state g.S.Store c.add_line.new.tx.conn.now in
    let lines = c.args.lines.now in
    let i = c.loop-line.line-index in
    let line = c.line-item.result in
    let more : take (i + 1) lines ≡ take i lines ++ line ∷ [] = take_more lines i line (search rules) ∙ ap (λ x. take i lines ++ x ∷ []) (sym c.line-item.is) in
    let made : HasCleanDisk now → MakesBut [] c.add_line.new.pending.items (with_lines (take (i + 1) lines)) start now =
    λ clean.
    subst (λ l. MakesBut [] c.add_line.new.pending.items (with_lines l) start now) (sym more)
    (but_line (take i lines) line c.loop-line.pending.items c.add_line.new.pending.items start mid now (c.loop-line.invariant.made (omega (arith, c.add_line.ensures.survives.clean, clean))) (c.in_ok-add_line.ensures.makes clean)) in
    record { same = search rules; made = made; keeps = search rules; survives = search rules }

pub returns : goal.returns
returns g c = record {
  same_reference = search rules;
  makes = λ clean.
      let start = state g.S.Store c.args.tx.now.conn.now in
      let mid = state g.S.Store c.loop-line.tx.conn.now in
      let new = state g.S.Store c.write_all.new.tx.conn.now in
      let pending = c.loop-line.pending.items in
      let lines = c.args.lines.now in
      let before : HasCleanDisk mid = omega (arith, c.write_all.ensures.survives.clean, clean) in
      let all : take c.loop-line.line-index lines ≡ lines = take_all c.loop-line.line-index lines (omega (arith, c.loop-line-test.false)) in
      but_none (with_lines lines) start new
      (but_then [] pending [] (with_lines lines) (λ balances. balances) start mid new
      (subst (λ l. MakesBut [] pending (with_lines l) start mid) all (c.loop-line.invariant.made before)) (c.in_ok-write_all.ensures.makes clean));
  keeps = search rules;
  survives = search rules;
}
