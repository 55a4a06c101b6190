use Rattle.std.proofs.Common.{◌∙◌, ap, set, get_or}
use Rattle.std.proofs.lemmas.List.Edits.{map_over_more}
use Rattle.desk_history.specs.History.{with_limits}
use Rattle.memory_store.proofs.writes.limit_each.Goals as goal

pub loop-company-preserved : goal.loop-company-preserved
loop-company-preserved c =
    let ks = c.loop-company.companies in
    let i = c.loop-company.company-index in
    ap (set ks i) c.with_limits.ensures
    ∙ map_over_more (with_limits c.args.id c.args.limits) c.args.companies.now ks i (get_or ks i c.company-item.result) c.loop-company-test.true c.loop-company.invariant (ap (get_or ks i) c.company-item.is)
