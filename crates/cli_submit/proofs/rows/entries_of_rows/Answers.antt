use Rattle.std.proofs.Common.{◌+◌, ◌++◌, ◌∷◌, [], drop, length, map, ap, subst}
use Rattle.csv.specs.Records.{fields_of}
use Rattle.serde_json.specs.View.{items_of, view}
use Rattle.cli_submit.specs.Rows.{entry_of}
use Rattle.cli_submit.proofs.ListEntries.{Taken, all_taken, data_more, length_more, row_at_fault, taken_more}
use Rattle.cli_submit.proofs.ListRows.{left_is, none_left}
use Rattle.cli_submit.proofs.rows.entries_of_rows.Goals as goal

pub returns-in-Err : goal.returns-in-Err
returns-in-Err c =
    let inv = c.loop-row.invariant in
    let left = left_is c.args.rows.now c.loop-row.row-index c.row-item.result c.loop-row-test.true c.row-item.is in
    rw (c.len.ensures, c.loop-row.values.ok.0) (row_at_fault (map fields_of c.args.rows.now) (map fields_of (drop (c.loop-row.row-index + 1) c.args.rows.now)) (fields_of c.row-item.result)
    (length c.loop-row.values.items) inv.entries c.in-Err.fault
    (subst (λ rest. Taken (map fields_of c.args.rows.now) rest (length c.loop-row.values.items) inv.entries) left inv.taken) c.in-Err.ensures)

pub loop-row-preserved : goal.loop-row-preserved
loop-row-preserved c =
    let inv = c.loop-row.invariant in
    let left = left_is c.args.rows.now c.loop-row.row-index c.row-item.result c.loop-row-test.true c.row-item.is in
    let longer = length_more view c.loop-row.values.items c.push_entry.new.values.items _ c.in_ok-push_entry-in-Ok.ensures in
    record {
      entries = inv.entries ++ entry_of c.in-Ok.entry ∷ [];
      taken = rw longer (taken_more (map fields_of c.args.rows.now) (map fields_of (drop (c.loop-row.row-index + 1) c.args.rows.now)) (fields_of c.row-item.result)
          (length c.loop-row.values.items) inv.entries (entry_of c.in-Ok.entry)
          (subst (λ rest. Taken (map fields_of c.args.rows.now) rest (length c.loop-row.values.items) inv.entries) left inv.taken) c.in-Ok.ensures);
      are = data_more _ _ inv.entries (entry_of c.in-Ok.entry) inv.are c.in_ok-push_entry-in-Ok.ensures;
    }

pub returns : goal.returns
returns c =
    let inv = c.loop-row.invariant in
    let end = none_left c.args.rows.now c.loop-row.row-index c.loop-row-test.false in (
      inv.entries,
      all_taken (map fields_of c.args.rows.now) (length c.loop-row.values.items) inv.entries
          (subst (λ rest. Taken (map fields_of c.args.rows.now) rest (length c.loop-row.values.items) inv.entries) end inv.taken),
      ap items_of inv.are,
    )
