use Rattle.std.proofs.Common.{rules, ◌≡◌, ◌∙◌, ap, ◌∷◌, [], Some, map}
use Rattle.sql_read_steps.proofs.InTurn.{told_then, told_as, learnt, learned}
use Rattle.sql_read_steps.proofs.ListReads.{read_more, read_all}
use Rattle.sql_reads.specs.ItemsFound.{row_in}
use Rattle.sql_reads.proofs.items.rows_of.Goals as goal

pub loop-line-preserved : goal.loop-line-preserved
loop-line-preserved g c =
    let row = row_in g.L.ItemLine.order g.L.ItemLine.row c.args.company in
    let read = c.loop-line in
    let line = c.in-Some.line in
    let rest = c.take_first.new.self in
    let first : read.left ≡ line ∷ rest = search rules in
    told_as
    (λ t told.
    let so = told.1 told.0.0 in
    (so.1, read_more Some (row t) _ read.all.items _ c.in_ok-row_of.field-0 read.left line rest told.0.1 first c.in_ok-push.ensures.items so.0))
    (told_then read.invariant (learnt c.row_of.ensures c.in_ok-row_of.was))

pub returns : goal.returns
returns g c =
    let row = row_in g.L.ItemLine.order g.L.ItemLine.row c.args.company in
    let none : c.loop-line.left ≡ [] = search rules in
    learned c.loop-line.invariant
    (λ t told. read_all Some (row t) _ c.loop-line.all.items c.loop-line.left told.1 none ∙ ap (map (row t)) c.new-left.ensures)
