use Rattle.std.proofs.Common.{rules, arith, ◌≡◌, ◌∙◌, [], Ok, refl, ap, subst, slice_index_or}
use Rattle.sqlite.specs.Held.{state}
use Rattle.sqlite.specs.State.{Executes}
use Rattle.sql_statements.specs.Definitions.{IsBlank}
use Rattle.sql_tables.specs.Schema.{desk_definitions, schema_of}
use Rattle.sql_setup.proofs.Creates.{all_are_made}
use Rattle.sql_setup.proofs.MadeInTurn.{schema_after, more_made, text_at}
use Rattle.sql_setup.proofs.create.create_tables.Goals as goal

pub loop-sql-preserved : goal.loop-sql-preserved
loop-sql-preserved g c =
    let old = state g.S.Store c.loop-sql.tx.conn.now in
    let new = state g.S.Store c.execute.new.tx.conn.now in
    let i = c.loop-sql.sql-index in
    let text = text_at c.definitions-all.result i _ refl ∙ ap (λ l. slice_index_or l i []) c.definitions-all.ensures in
    record {
      same = search rules;
      made = λ clean blank.
          more_made (schema_of []) desk_definitions i old new c.in_ok-execute.field-0 all_are_made c.loop-sql-test.true (c.loop-sql.invariant.made (omega (arith, c.execute.ensures.survives.clean, clean)) blank)
          (subst (λ sql. Executes sql [] old new (Ok c.in_ok-execute.field-0)) text (c.in_ok-execute.ensures.makes clean).ran);
      keeps = search rules;
      survives = search rules;
    }

pub returns : goal.returns
returns g c = record {
  same_reference = search rules;
  makes = λ clean blank.
      let last : c.loop-sql.sql-index ≡ 20 = omega (arith, c.loop-sql-test.false, c.loop-sql.auto.sql-index-end) in
      subst (λ n. IsBlank (schema_after (schema_of []) n desk_definitions) (state g.S.Store c.loop-sql.tx.conn.now).now) last (c.loop-sql.invariant.made clean blank);
  keeps = search rules;
  survives = search rules;
}
