-- The INSERT of an item in suspense, against the records of suspense.
use Rattle.std.proofs.Common.{ℕ, Ok, refl}
use Rattle.std.specs.Ordering.{nat_cmp, on}
use Rattle.sqlite_tied.specs.Compute.{everything}
use Rattle.sqlite.specs.Listing.{understood}
use Rattle.sqlite.specs.State.{State, Executes}
use Rattle.sqlite_keyed.specs.Lists.{insert_sorted}
use Rattle.sql_statements.specs.Layouts.{Holds}
use Rattle.sql_tables.specs.ByName as named
use Rattle.sql_tables.specs.Description.{table, as_row}
use Rattle.sql_tables.specs.Layout.{desk_layout}
use Rattle.sql_tables.specs.Tables.{Tables}
use Rattle.sql_tables.specs.declared.records.SuspenseRecord.{SuspenseRecord}
use Rattle.sql_writes.proofs.Puts.{Inserts, PutsOne, one_put, holds_with}
use Rattle.sql_writes.specs.IntakeTexts.{insert_suspense}
use Rattle.sql_writes.proofs.NumberedRows.{numbered_in_order}
use Rattle.sql_tables.specs.DeskTables as the

insert_suspense_is : Inserts named.suspense insert_suspense 1
unfolding understood everything
insert_suspense_is = record { is = refl; plain = (refl, refl) }

puts_suspense : PutsOne named.suspense
puts_suspense = record { is = insert_suspense_is; full = refl }

pub suspense_put : (x : SuspenseRecord) (old new : State) (count : ℕ) → Executes insert_suspense (as_row the.suspense x) old new (Ok count) → (t : Tables) → Holds desk_layout old.now t
    → Holds desk_layout new.now (record t { suspense = insert_sorted (on (λ s. s.number) nat_cmp) x t.suspense })
suspense_put x old new count ran t h =
    let made = one_put named.suspense puts_suspense x old new count ran t h in
    holds_with named.suspense _ h made.has (numbered_in_order (λ y. y.number) _ (table the.suspense) new.now.trees x t.suspense (h.1.stands named.suspense).rise made.has.stored)
