-- Which files come back of what was opened.
use Rattle.std.specs.Prelude.{◌≡◌, ◌⊎◌, Option, Some, None, IsSomeAnd, IsTrue}
use Rattle.sqlite_disk.specs.declared.Disk.{Ghosts}
use Rattle.sqlite_disk.specs.declared.Files.{Files}
use Rattle.sqlite_trees.specs.View.{IsClean}
use Rattle.sqlite_store.specs.declared.store.FileStore.{FileStore}
use Rattle.sqlite_store.specs.FileStore as store
use Rattle.sqlite_wal.specs.Reads.{AreClean}
use Rattle.sqlite.specs.Closing.{files_left, IsCopied}
use Rattle.sqlite.specs.Files.{FailsToClose, IsClosed}
use Rattle.sqlite.specs.Held.{Held}
use Rattle.sqlite.specs.declared.error.Error.{Error}
use Rattle.sql_files.specs.declared.refusal.Refusal.{Refusal}
use Rattle.sql_files.specs.declared.refusal.Refusal.TheVariants.{Refused, NoFile, Unopened}

module _ {D : Type 0} {g : Ghosts D} where
  -- no sync of the two has failed, and if they are clean the last commit is in the database file
  pub record IsWholeCopy (c : Held (FileStore D g)) (files : Files D) : Type 0 where
    pub log : IsTrue (g.is_usable files.log)
    pub db : IsTrue (g.is_usable files.db)
    pub copied : AreClean g files.log files.db → IsCopied c files

  -- The connection was closed and these are its files: the last commit was copied, or copying it failed. What a crash may
  -- leave of them it could leave before.
  pub record IsLeftBy (c : Held (FileStore D g)) (files : Files D) : Type 0 where
    pub last : FileStore D g
    pub are_its : (files.log, files.db) ≡ store.files last
    pub closed : IsClosed c last
    pub ends : IsWholeCopy c files ⊎ ((error : Error) × (IsClean (store.view last) → FailsToClose c last error))

  -- These are the files of a refusal, which has some if they were open by then: what is left of them, or those of the
  -- connection that was refused.
  abbrev pub HasFiles : Refusal D g → Option (Files D) → Type 0
  HasFiles (NoFile fault) files = files ≡ None
  HasFiles (Unopened error None) files = files ≡ None
  HasFiles (Unopened error (Some left)) files = IsSomeAnd files (λ both. (both.log, both.db) ≡ files_left left)
  HasFiles (Refused why c) files = IsSomeAnd files (IsLeftBy c)
