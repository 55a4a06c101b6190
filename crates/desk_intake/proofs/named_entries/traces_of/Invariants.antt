use Rattle.std.proofs.Common.{◌≡◌, ◌++◌, drop, map}
use Rattle.desk_book.specs.Book.{Book}
use Rattle.desk_book.specs.OnIntake.{named_entry_on, traced_entries}
use Rattle.desk_intake.proofs.named_entries.traces_of.Given as goal

-- what the traces so far name, and the items that are left
abbrev pub invariant-loop-item : goal.invariant-loop-item
invariant-loop-item l = (b : Book) → traced_entries l.traces.items b ++ map (named_entry_on b) (drop l.item-index l.items) ≡ map (named_entry_on b) l.items
