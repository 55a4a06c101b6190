-- What was asked of the files so that a desk is opened, made or migrated, from `old` to `new`, and nothing else. `f` has the
-- facts of the files' calls, and `d` those of an open desk's file.
use Rattle.std.specs.Prelude.{◌≡◌, ◌≢◌, ◌⊎◌, ℕ, Bool, ◌||◌, eqb, List, codes, Result, Ok, Err, IfErr, IsTrue}
use Rattle.std.specs.IoError.{error_kind}
use Rattle.std.specs.List.{starts_with}
use Rattle.std.specs.Str.{bytes_eq}
use Rattle.std.specs.declared.io.Error.{Error}
use Rattle.std.specs.declared.io.ErrorKind.TheVariants.{AlreadyExists}
use Rattle.sqlite_disk.specs.declared.Disk as disk
use Rattle.sqlite_store.specs.declared.store.FileStore.{FileStore}
use Rattle.sqlite.specs.Files.{over_files}
use Rattle.sqlite.specs.Held.{Held}
use Rattle.sqlite.specs.State.{State}
use Rattle.desk_history.specs.declared.identity.Identity.{Identity}
use Rattle.sql_setup.specs.Checked.{IsDesk}
use Rattle.sql_setup.specs.Setup.{HasNewDesk}
use Rattle.sql_migration.specs.Migration.{HasMigrated}
use Rattle.sql_files.specs.Connections.{IfClean, WasClean}
use Rattle.sql_files.specs.declared.desk_files.DeskFiles as files
use Rattle.sql_files.specs.declared.presence.Presence.{Presence}
use Rattle.sql_files.specs.declared.presence.Presence.TheVariants.{File, Nothing, Unknown}
use Rattle.sql_files.specs.declared.refusal.Refusal.{Refusal}
use Rattle.sql_files.specs.declared.refusal.Refusal.TheVariants.{Refused, NoFile, Unopened}

-- a connection takes this path for something else than a file
abbrev pub names_no_file : (path : List ℕ) → Bool
names_no_file path = bytes_eq path (codes ":memory:") || starts_with eqb path (codes "file:")

module _ {F D Q : Type 0} (f : files.Ghosts F D Q) where
  -- ---- a file that only its owner can read

  -- The path was looked at. If there was an empty file or none, it was to be its owner's alone; else nothing was asked for.
  abbrev pub RestrictsAs : Presence → (old : F) → (path : List ℕ) → Result (Unit {0}) Error → (new : F) → Type 0
  RestrictsAs Nothing old path result new = f.restricts old path result new
  RestrictsAs File old path result new = (result ≡ Ok tt) × (new ≡ old)
  RestrictsAs Unknown old path result new = (result ≡ Ok tt) × (new ≡ old)

  abbrev pub RestrictsEmpty : (old : F) → (path : List ℕ) → Result (Unit {0}) Error → (new : F) → Type 0
  RestrictsEmpty old path result new =
      (presence : Presence) × (mid : F) × f.finds old path presence mid × RestrictsAs presence mid path result new

  -- an empty file was to be made there; as there was a file, that was to be its owner's alone if it was empty
  abbrev pub MakesOrRestricts : (old : F) → (path : List ℕ) → Result (Unit {0}) Error → (new : F) → Type 0
  MakesOrRestricts old path result new =
      (f.makes old path result new × IfErr result (λ e. error_kind e ≢ AlreadyExists))
      ⊎ ((e : Error) × (mid : F) × f.makes old path (Err e) mid × (error_kind e ≡ AlreadyExists) × RestrictsEmpty mid path result new)

  -- there is a file, and if it is empty its owner alone can read it
  abbrev pub MakesPrivate : (old : F) → (path : List ℕ) → (new : F) → Type 0
  MakesPrivate old path new = MakesOrRestricts old path (Ok tt) new

  -- that could not be had; or the path names no file, and nothing was asked for
  abbrev pub FailsToMakePrivate : (old : F) → (path : List ℕ) → (new : F) → Type 0
  FailsToMakePrivate old path new =
      (IsTrue (names_no_file path) × (new ≡ old)) ⊎ ((e : Error) × MakesOrRestricts old path (Err e) new)

  -- ---- connections

  module _ (d : disk.Ghosts D) where
    -- A connection was opened there and became this one. If its disk is clean it was clean then, and what it sees stands so to
    -- what it saw.
    pub record ConnectsTo (Stands : (was now : State) → Type 0) (old : F) (path : List ℕ) (now : Held (FileStore D d)) (new : F) : Type 0 where
      pub was : Held (FileStore D d)
      pub connects : f.connects old path d was new
      pub before : IfClean over_files WasClean was now
      pub stands : IfClean over_files Stands was now

    -- none could be opened there, or one was and was refused; it is not asked for if there is no file
    abbrev pub FailsToConnect : (old : F) → (path : List ℕ) → Refusal D d → (new : F) → Type 0
    FailsToConnect old path (NoFile fault) new = new ≡ old
    FailsToConnect old path (Unopened error left) new = f.fails_to_connect old path d error left new
    FailsToConnect old path (Refused why left) new = (was : Held (FileStore D d)) × f.connects old path d was new

    -- the desk there was opened
    abbrev pub Opens : (old : F) → (path : List ℕ) → Held (FileStore D d) → (new : F) → Type 0
    Opens = ConnectsTo IsDesk

    -- the desk there became one of version 2
    abbrev pub Migrates : (old : F) → (path : List ℕ) → Held (FileStore D d) → (new : F) → Type 0
    Migrates = ConnectsTo HasMigrated

    -- the file there was made or found, and a new desk was made in it
    abbrev pub Creates : (old : F) → (path : List ℕ) → Identity → (key : List ℕ) → Held (FileStore D d) → (new : F) → Type 0
    Creates old path identity key now new =
        (mid : F) × MakesPrivate old path mid × ConnectsTo (HasNewDesk identity key) mid path now new

    -- no desk was made: there is no such file, or no connection to it, or that was refused
    abbrev pub FailsToCreate : (old : F) → (path : List ℕ) → Refusal D d → (new : F) → Type 0
    FailsToCreate old path (NoFile fault) new = FailsToMakePrivate old path new
    FailsToCreate old path (Unopened error left) new = (mid : F) × MakesPrivate old path mid × f.fails_to_connect mid path d error left new
    FailsToCreate old path (Refused why left) new =
        (mid : F) × MakesPrivate old path mid × ((was : Held (FileStore D d)) × f.connects mid path d was new)
