use Rattle.std.proofs.Common.{rules, ◌≡◌, ◌<◌, ◌+◌, ◌++◌, ◌∷◌, [], take, length, sym, ap, ◌∙◌, arith}
use Rattle.std.proofs.lemmas.List.{take_more, take_all}
use Rattle.sql_writes.specs.HeldRows.{held_from}
use Rattle.sql_writes.proofs.ArrayLoops.{numbered_more}
use Rattle.sql_writes.proofs.held_rows.hold_sixteen.Goals as goal

pub loop-at-preserved : goal.loop-at-preserved
loop-at-preserved g c =
    let at = c.loop-at.at in
    let all = c.loop-at.all in
    let rows = c.args.rows.now in
    let row = c.index-rows-at.result in
    let inside : at < length all = omega (arith, c.loop-at.invariant.long, c.loop-at-test.true) in
    let more : take (at + 1) rows ≡ take at rows ++ row ∷ [] = take_more rows at row (search rules) ∙ ap (λ x. take at rows ++ x ∷ []) (sym c.index-rows-at.is) in
    let long : length (take at rows) ≡ at = search rules in
    record { long = search rules; made = numbered_more (λ p. g.B.HoldBody.held c.args.body.now p.0 p.1) all rows c.args.first at c.in_ok-all-2.field-0 row inside more long c.in_ok-all-2.ensures c.loop-at.invariant.made }

pub returns : goal.returns
returns g c =
    let at = c.loop-at.at in
    let all = c.loop-at.all in
    let rows = c.args.rows.now in
    let whole : take at all ≡ all = take_all at all (omega (arith, c.loop-at.invariant.long, c.loop-at-test.false)) in
    let all_rows : take at rows ≡ rows = take_all at rows (search rules) in
    sym whole ∙ c.loop-at.invariant.made ∙ ap (held_from (g.B.HoldBody.held c.args.body.now) c.args.first) all_rows
