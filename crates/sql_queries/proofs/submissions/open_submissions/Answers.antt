use Rattle.std.proofs.Common.{rules, arith}
use Rattle.sqlite.specs.State.{HasCleanDisk}
use Rattle.sqlite.specs.Held.{state}
use Rattle.sql_statements.proofs.Findings.{finds_then}
use Rattle.sql_tables.specs.Layout.{desk_layout}
use Rattle.sql_query_laws.proofs.Found.{together}
use Rattle.sql_queries.proofs.OpenParts.{open_found}
use Rattle.sql_queries.proofs.submissions.open_submissions.Goals as goal

pub returns : goal.returns
returns g c = record {
  answer = λ clean.
      let before : HasCleanDisk (state g.S.Store c.waiting_submissions.new.conn) = omega (arith, c.settled_submissions.ensures.survives.clean, clean) in
      let parts = finds_then desk_layout _ _ _ _ (c.in_ok-waiting.ensures.answer before) (c.waiting_submissions.ensures.stays before) (rw c.number_of.ensures at (c.in_ok-settled.ensures.answer clean)) in
      together c.in_order.result _ _ _ (λ all same sorted. open_found c.args.company c.args.since parts (rw c.deref.ensures.value at same) sorted) c.in_order.ensures.same c.in_order.ensures.sorted;
  stays = search rules;
  survives = search rules;
}
