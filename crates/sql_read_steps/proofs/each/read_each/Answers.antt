use Rattle.std.proofs.Common.{rules, ◌≡◌, ◌∙◌, ap, ◌∷◌, [], map}
use Rattle.sql_read_steps.proofs.InTurn.{told_then, told_as, learnt, learned}
use Rattle.sql_read_steps.proofs.ListReads.{read_more, read_all}
use Rattle.sql_read_steps.proofs.each.read_each.Goals as goal

pub loop-item-preserved : goal.loop-item-preserved
loop-item-preserved g c =
    let read = c.loop-item in
    let item = c.in-Some.item in
    let rest = c.take_first.new.self in
    let first : read.left ≡ item ∷ rest = search rules in
    told_as
    (λ t told. read_more g.R.ItemRead.shown (g.R.ItemRead.value c.args.read.now t) _ read.all.items _ c.in_ok-read_item.field-0 read.left item rest told.0 first c.in_ok-push.ensures.items told.1)
    (told_then read.invariant (learnt c.read_item.ensures c.in_ok-read_item.was))

pub returns : goal.returns
returns g c =
    let none : c.loop-item.left ≡ [] = search rules in
    learned c.loop-item.invariant
    (λ t are.
    let value = g.R.ItemRead.value c.args.read.now t in
    read_all g.R.ItemRead.shown value _ c.loop-item.all.items c.loop-item.left are none ∙ ap (map value) c.new-left.ensures)
