use Rattle.std.proofs.Common.{rules, ◌≡◌, ◌+◌, ◌++◌, ◌∷◌, [], true, take, length, ap, ◌∙◌, sym, subst, refl}
use Rattle.std.proofs.lemmas.List.{take_more}
use Rattle.std.proofs.lemmas.Option.{slice_get_read}
use Rattle.sql_writes.specs.Runs.{is_run}
use Rattle.sql_writes.proofs.RunLists.{first_taken, run_of_one, run_more}
use Rattle.sql_writes.proofs.runs.run_length.Goals as goal

pub loop-at-init : goal.loop-at-init
loop-at-init g c = record {
  some = search rules;
  within = search rules;
  run = run_of_one (g.F.Follows.stands_after c.args.body.now) c.args.rows.now;
}

pub loop-at-preserved : goal.loop-at-preserved
loop-at-preserved g c =
    let at = c.loop-at.at in
    let rows = c.args.rows.now in
    let row = c.index-rows-at.result in
    let stands = g.F.Follows.stands_after c.args.body.now in
    let more : take (at + 1) rows ≡ take at rows ++ row ∷ [] = take_more rows at row (search rules) ∙ ap (λ x. take at rows ++ x ∷ []) (sym c.index-rows-at.is) in
    let first = c.index-rows-0.result in
    let head = first_taken at rows first c.loop-at.invariant.some (slice_get_read rows (length rows) 0 first refl c.requires c.index-rows-0.is) in
    let long : length (take at rows) ≡ at = search rules in
    record {
      some = search rules;
      within = search rules;
      run = ap (is_run stands) more
          ∙ run_more stands (take at rows) row first head c.loop-at.invariant.run (subst (λ n. stands first n row ≡ true) (sym long) (search rules));
    }
