use Rattle.std.proofs.Common.{rules, ◌≡◌, ◌≤◌, ◌+◌, ◌∙◌, length, refl, sym, ap, subst, arith}
use Rattle.std.proofs.lemmas.Option.{slice_get_read}
use Rattle.sqlite.specs.Held.{state}
use Rattle.sql_statements.specs.Edits.{each_edit_from}
use Rattle.sql_statements.proofs.Edits.{makes_both}
use Rattle.sql_statements.specs.Transactions.{Makes}
use Rattle.sql_tables.specs.Layout.{desk_layout}
use Rattle.sql_writes.specs.PlaceEdits.{put_number_edit, clear_numbers_edit, insert_number_edit}
use Rattle.sql_writes.proofs.NumberRanges.{numbers_renewed}
use Rattle.sql_writes.proofs.cut.numbers.PutNumbersRunBody.run_rows.Goals as goal

pub returns : goal.returns
returns g c = record {
  same_reference = search rules;
  makes = λ clean.
      let place = c.args.place in
      let run = c.args.run.now in
      let first = c.index-run-0.result in
      let to = c.in_ok-to.to in
      let old = state g.S.Store c.args.tx.now.conn.now in
      let mid = state g.S.Store c.clear_numbers.new.tx.conn.now in
      let new = state g.S.Store c.run_batches.new.tx.conn.now in
      let head = slice_get_read run (length run) 0 first refl c.requires.some c.index-run-0.is in
      let from : c.from-from.result ≡ first.sequence = c.from-from.ensures ∙ ap (λ e. e.sequence) (sym c.index-run-0.is) in
      let ends = c.in_ok-to.ensures.last ∙ ap (λ n. n + length run) from in
      let low = subst (λ n. 1 ≤ n) from c.in_ok-to.ensures.low in
      let cleared = c.in_ok-clear_numbers.ensures.makes (omega (arith, c.run_batches.ensures.survives.clean, clean)) in
      makes_both desk_layout (clear_numbers_edit first.sequence to) (each_edit_from insert_number_edit place run) (each_edit_from put_number_edit place run)
      (numbers_renewed first run to place head c.requires.run ends low c.in_ok-to.ensures.high) old mid new (subst (λ n. Makes desk_layout (clear_numbers_edit n to) old mid) from cleared) (c.in_ok-run_batches.ensures.makes clean);
  keeps = search rules;
  survives = search rules;
}
