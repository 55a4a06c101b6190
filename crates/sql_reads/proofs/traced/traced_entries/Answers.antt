use Rattle.std.proofs.Common.{◌∙◌, ◌≤◌, ap, map, subst}
use Rattle.ach_fields.specs.Routing.{dfi_of, most_dfi}
use Rattle.desk_history.specs.declared.identity.Identity.{Identity}
use Rattle.sql_tables.specs.Composed.{traced_in}
use Rattle.sql_read_steps.proofs.InTurn.{query, answered_last}
use Rattle.sql_reads.proofs.traced.traced_entries.Goals as goal

pub returns : goal.returns
returns g c =
    let identity = query (rw c.in_ok-identity.ensures at c.identity.ensures.answer) c.identity.ensures.stays c.identity.ensures.survives in
    answered_last identity c.each_traced.ensures
    (λ found t is these. record {
      within = subst (λ (x : Identity). dfi_of x.odfi ≤ most_dfi) is (rw c.dfi.ensures.value at c.dfi.ensures.within);
      are = these ∙ ap (λ n. map (traced_in n t) c.args.traces.now) (c.dfi.ensures.value ∙ ap (λ (x : Identity). dfi_of x.odfi) is);
    })
