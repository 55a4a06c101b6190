use Rattle.std.proofs.Common.{◌≡◌, rules}
use Rattle.std.specs.Fmt.{signed_decimal}
use Rattle.sqlite.specs.Held.{state}
use Rattle.sql_statements.proofs.Edits.{makes_of}
use Rattle.sql_statements.proofs.Inside.{inside_as}
use Rattle.sql_tables.specs.Layout.{desk_layout}
use Rattle.sql_tables.specs.declared.records.BalanceRecord.{BalanceRecord}
use Rattle.sql_writes.specs.LineEdits.{put_balance_edit}
use Rattle.sql_writes.proofs.BalanceUpserts.{balance_put}
use Rattle.sql_writes.proofs.account_lines.balances.put_balance.Goals as goal

pub returns : goal.returns
returns g c =
    inside_as g.S.Store
    (λ told clean.
    let old = state g.S.Store c.args.tx.now.conn.now in
    let new = state g.S.Store c.execute.new.tx.conn.now in
    let balance : BalanceRecord = record { account = c.args.account.now; value_day = c.args.value_day; cents = c.args.cents } in
    let digits : c.as_bytes.result.now ≡ signed_decimal c.args.cents = search rules in
    let ran = rw (c.characters.ensures, c.as_slice.ensures.value, c.account_text-text.ensures, c.date.ensures, c.characters-2.ensures, digits) at (told clean).ran in
    makes_of desk_layout (put_balance_edit c.args.account.now c.args.value_day c.args.cents) old new (told clean).shown (λ t h. (balance_put balance old new c.in_ok-execute.field-0 ran t h, tt))) c.in_ok-execute.ensures
