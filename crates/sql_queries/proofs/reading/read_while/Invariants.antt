use Rattle.std.proofs.Common.{◌≡◌, map, true}
use Rattle.std.specs.List.{AllByRecursion}
use Rattle.sqlite.specs.Given.{HasGiven}
use Rattle.sqlite.specs.Held.{state}
use Rattle.sqlite.specs.State.{HasCleanDisk, IsUnchanged, Survives}
use Rattle.sqlite.specs.Values.{bound}
use Rattle.sql_queries.proofs.reading.read_while.Given as goal

abbrev pub invariant-rows : goal.invariant-rows
invariant-rows g l =
    let old = state g.S.Store l.fn.conn in
    let now = state g.S.Store l.rows.conn.now in
    record {
      same_reference : l.rows.conn.ghost_name ≡ l.initial.rows.conn.ghost_name;
      survives : Survives old now (λ _. ⊥);
      pass : AllByRecursion (λ x. g.P.RowTest.passes l.test x ≡ true) l.values.items;
      fit : AllByRecursion g.T.FromRow.fits l.values.items;
      read : HasCleanDisk now → HasGiven g.S.Store l.sql (bound l.params) l.rows.conn.now (map g.T.FromRow.stored_row l.values.items) × IsUnchanged old now;
    }
