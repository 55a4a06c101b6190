-- Whatever a crash leaves of the file has the answered messages.
use Rattle.std.specs.Prelude.{List}
use Rattle.sqlite.specs.Files.{file_state}
use Rattle.sqlite.specs.Held.{Held}
use Rattle.sqlite.specs.State.{HasCleanDisk}
use Rattle.sqlite_disk.specs.declared.Disk as disk
use Rattle.sqlite_store.specs.declared.store.FileStore.{FileStore}
use Rattle.sqlite_trees.specs.Tree.{Trees}
use Rattle.sqlite_wal.specs.Recovery.{Image}
use Rattle.sql_tables.specs.Layout.{Keeps}
use Rattle.http_session.specs.Exchanges.{Exchange}
use Rattle.desk_http.specs.Keeping.{DeskHistory, StandsBehind, KeptHistory}
use Rattle.desk_http.specs.Receipts.{HasReceipts}
use Rattle.desk_cli.specs.KeptRuns.{IsKeptIn}
use Rattle.desk_cli.specs.ServedFiles.{AreServedTables}

module _ {D : Type 0} (g : disk.Ghosts D) where
  -- These messages were answered by the desk that these files kept. If the disk is clean, whatever a crash then leaves of the
  -- file keeps the book of a history that has each of them that was answered, and all that the files had.
  abbrev pub ReceiptsSurvive : Type 0
  ReceiptsSurvive =
      (held : Image) (conn : Held (FileStore D g)) (b : KeptHistory) (exchanges : List Exchange) (k : Trees)
      → AreServedTables (IsKeptIn held) (file_state conn) exchanges → HasCleanDisk (file_state conn) → IsKeptIn held b
      → (file_state conn).may_leave k → (found : DeskHistory) × HasReceipts b.history exchanges found × StandsBehind (Keeps k) found
