-- The INSERT of a notification of change, against the records of changes.
use Rattle.std.proofs.Common.{ℕ, Ok, refl}
use Rattle.std.specs.Ordering.{nat_cmp, on}
use Rattle.sqlite_tied.specs.Compute.{everything}
use Rattle.sqlite.specs.Listing.{understood}
use Rattle.sqlite.specs.State.{State, Executes}
use Rattle.sqlite_keyed.specs.Lists.{insert_sorted}
use Rattle.sql_statements.specs.Layouts.{Holds}
use Rattle.sql_tables.specs.ByName as named
use Rattle.sql_tables.specs.Description.{table, as_row}
use Rattle.sql_tables.specs.Layout.{desk_layout}
use Rattle.sql_tables.specs.Tables.{Tables}
use Rattle.sql_tables.specs.declared.records.ChangeRecord.{ChangeRecord}
use Rattle.sql_writes.proofs.Puts.{Inserts, PutsOne, one_put, holds_with}
use Rattle.sql_writes.specs.IntakeTexts.{insert_change}
use Rattle.sql_writes.proofs.NumberedRows.{numbered_in_order}
use Rattle.sql_tables.specs.DeskTables as the

insert_change_is : Inserts named.changes insert_change 1
unfolding understood everything
insert_change_is = record { is = refl; plain = (refl, refl) }

puts_change : PutsOne named.changes
puts_change = record { is = insert_change_is; full = refl }

pub change_put : (x : ChangeRecord) (old new : State) (count : ℕ) → Executes insert_change (as_row the.changes x) old new (Ok count) → (t : Tables) → Holds desk_layout old.now t
    → Holds desk_layout new.now (record t { changes = insert_sorted (on (λ c. c.number) nat_cmp) x t.changes })
change_put x old new count ran t h =
    let made = one_put named.changes puts_change x old new count ran t h in
    holds_with named.changes _ h made.has (numbered_in_order (λ c. c.number) _ (table the.changes) new.now.trees x t.changes (h.1.stands named.changes).rise made.has.stored)
