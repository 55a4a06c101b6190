-- Sent entries that follow one another: in one submission, or in one submission after another.
use Rattle.std.specs.Prelude.{ℕ, ◌+◌, Bool, ◌&&◌, ◌==◌, List, bytes_eq}
use Rattle.desk_history.specs.declared.sent_entry.SentEntry.{SentEntry}
use Rattle.sql_writes.specs.Runs.{is_run}
use Rattle.sql_writes.specs.declared.cut.marks.EntryRun.{EntryRun}
use Rattle.sql_writes.specs.declared.cut.marks.EntryRun.TheVariants.{OfOne, OfMany}

-- an entry has this number in the submission of the first
abbrev pub is_numbered : (first : SentEntry) → (index : ℕ) → SentEntry → Bool
is_numbered first index e = bytes_eq e.company first.company && e.order == first.order && e.index == index

-- an entry stands so many after the first in its submission
abbrev pub stands_after : (first : SentEntry) → (after : ℕ) → SentEntry → Bool
stands_after first after e = is_numbered first (first.index + after) e

-- an entry has the number of the first in the submission of this order
abbrev pub is_ordered : (first : SentEntry) → (order : ℕ) → SentEntry → Bool
is_ordered first order e = bytes_eq e.company first.company && e.order == order && e.index == first.index

-- an entry has the number of the first, so many submissions after it
abbrev pub comes_after : (first : SentEntry) → (after : ℕ) → SentEntry → Bool
comes_after first after e = is_ordered first (first.order + after) e

-- the entries follow one another in this way
abbrev pub are_counted : EntryRun → List SentEntry → Bool
are_counted OfOne es = is_run stands_after es
are_counted OfMany es = is_run comes_after es
