use Rattle.std.proofs.Common.{rules, ◌≡◌, subst, take, ◌++◌, ◌∷◌, [], arith, ◌+◌, sym, ap, ◌∙◌, length}
use Rattle.std.proofs.lemmas.List.{take_more}
use Rattle.sqlite.specs.Held.{state}
use Rattle.sqlite.specs.State.{HasCleanDisk}
use Rattle.sql_statements.specs.Edits.{each_edit_from}
use Rattle.sql_statements.specs.Transactions.{Makes}
use Rattle.sql_statements.proofs.Edits.{makes_more_from}
use Rattle.sql_statements.proofs.transaction.rows.run_each.Goals as goal

pub loop-row-preserved : goal.loop-row-preserved
loop-row-preserved g c =
    let layout = g.B.RowBody.layout in
    let edit = g.B.RowBody.edit c.args.body.now in
    let start = state g.S.Store c.args.tx.now.conn.now in
    let mid = state g.S.Store c.loop-row.tx.conn.now in
    let now = state g.S.Store c.run_row.new.tx.conn.now in
    let rows = c.args.rows.now in
    let i = c.loop-row.row-index in
    let more : take (i + 1) rows ≡ take i rows ++ c.row-item.result ∷ [] = take_more rows i c.row-item.result (search rules) ∙ ap (λ x. take i rows ++ x ∷ []) (sym c.row-item.is) in
    let len : length (take i rows) ≡ i = search rules in
    let at : c.loop-row.number ≡ c.args.first + length (take i rows) = c.loop-row.invariant.at ∙ ap (λ k. c.args.first + k) (sym len) in
    let made : HasCleanDisk now → Makes layout (each_edit_from edit c.args.first (take (i + 1) rows)) start now =
    λ clean.
    subst (λ l. Makes layout (each_edit_from edit c.args.first l) start now) (sym more)
    (makes_more_from layout edit c.args.first (take i rows) c.row-item.result start mid now
    (c.loop-row.invariant.made (omega (arith, c.run_row.ensures.survives.clean, clean)))
    (subst (λ n. Makes layout (edit n c.row-item.result) mid now) at (c.in_ok-run_row.ensures.makes clean))) in
    record { same = search rules; at = search rules; made = made; keeps = search rules; survives = search rules }
