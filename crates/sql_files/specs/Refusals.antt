-- Why there is no desk in a file, told of what is left of the file.
use Rattle.std.specs.Prelude.{◌≡◌, ◌≢◌, ⊤, ℕ, Bool, true, false, Option, Some, None, IfSome, Result, Ok, Err, IsTrue}
use Rattle.std.specs.IoError.{error_kind}
use Rattle.std.specs.Fs.{metadata_len, file_type, IsFile}
use Rattle.std.specs.declared.fs.attrs.Metadata.{Metadata}
use Rattle.std.specs.declared.io.Error.{Error as IoError}
use Rattle.std.specs.declared.io.ErrorKind.TheVariants.{NotFound}
use Rattle.sqlite_disk.specs.declared.Disk.{Ghosts}
use Rattle.sqlite_disk.specs.declared.Files.{Files}
use Rattle.sqlite_trees.specs.Tree.{Trees}
use Rattle.sqlite_store.specs.declared.store.FileStore.{FileStore}
use Rattle.sqlite_wal.specs.Recovery.{Image}
use Rattle.sqlite.specs.Files.{file_state, over_files, FailsToOpenFiles, HoldsDatabase, IsCleanLeft, LeavesFiles}
use Rattle.sqlite.specs.Held.{Held}
use Rattle.sqlite.specs.State.{HasCleanDisk, State}
use Rattle.sqlite.specs.declared.error.Error.{Error}
use Rattle.sqlite.specs.declared.file.Leftover.{Leftover}
use Rattle.sql_tables.specs.DeskTables as the
use Rattle.sql_setup.specs.Faults.{told_of}
use Rattle.sql_setup.specs.Refusals.{IsGivenBack, IsLeftUnmade, Tells}
use Rattle.sql_setup.specs.declared.fault.DeskFault.{DeskFault}
use Rattle.sql_setup.specs.declared.fault.DeskFault.TheVariants.{Failed, Told}
use Rattle.sql_setup.specs.declared.fault.OpenFault.{OpenFault}
use Rattle.sql_setup.specs.declared.fault.OpenFault.TheVariants.{Exists, NotADesk, Unavailable}
use Rattle.sql_migration.specs.FirstVersion.{first_version}
use Rattle.sql_files.specs.Opened.{leaves_migrated, leaves_nothing, IsOpenedOn}
use Rattle.sql_files.specs.declared.presence.Presence.{Presence}
use Rattle.sql_files.specs.declared.presence.Presence.TheVariants.{File, Nothing, Unknown}
use Rattle.sql_files.specs.declared.refusal.Refusal.{Refusal}
use Rattle.sql_files.specs.declared.refusal.Refusal.TheVariants.{Refused, NoFile, Unopened}

-- ---- what the file system says

-- its answer of a path says this
abbrev pub SaysPresence : Result Metadata IoError → Presence → Type 0
SaysPresence (Ok found) File = IsFile (file_type found) × (metadata_len found ≢ 0)
SaysPresence (Ok found) Nothing = IsFile (file_type found) × (metadata_len found ≡ 0)
SaysPresence (Ok found) Unknown = ¬ IsFile (file_type found)
SaysPresence (Err error) File = ⊥
SaysPresence (Err error) Nothing = error_kind error ≡ NotFound
SaysPresence (Err error) Unknown = error_kind error ≢ NotFound

-- it says why there is no desk, but of a file that is not empty
abbrev pub presence_fault : Presence → Option OpenFault
presence_fault File = None
presence_fault Nothing = Some NotADesk
presence_fault Unknown = Some Unavailable

-- ---- the fault that is reported

abbrev pub fault_of : {D : Type 0} {g : Ghosts D} → Refusal D g → OpenFault
fault_of (NoFile fault) = fault
fault_of (Unopened error left) = Unavailable
fault_of (Refused why conn) = told_of why

-- ---- why it is that

-- If files were opened and what is left of them is clean, the error has its cause in them, and a crash leaves what it left
-- before.
abbrev pub FailsToOpen : {D : Type 0} {g : Ghosts D} → (IsFresh : Bool → D → Type 0) → Error → Option (Leftover D g) → Type 0
FailsToOpen {D} {g} IsFresh error left =
    IfSome left (λ rest. (files : Files D) × IsFresh true files.log × IsFresh false files.db
    × (IsCleanLeft rest → FailsToOpenFiles files rest error × LeavesFiles files rest))

-- a fault is still that of what the connection sees; an error has its cause before
abbrev pub TellsStill : {D : Type 0} {g : Ghosts D} → (wanted : ℕ) → Held (FileStore D g) → DeskFault → Type 0
TellsStill wanted left (Told fault) = Tells over_files wanted left fault
TellsStill wanted left (Failed error) = ⊤

module _ {D : Type 0} {g : Ghosts D} (IsFresh : Bool → D → Type 0) (held : Image) where
  -- This connection was opened on the files, and then refused. As it is given back it sees what the files held, and the fault
  -- is that of what it sees.
  pub record IsRefusedOn (wanted : ℕ) (Leaves : State → Trees → Type 0) (why : DeskFault) (left : Held (FileStore D g)) : Type 0 where
    pub was : Held (FileStore D g)
    pub opened : HasCleanDisk (file_state was) → IsOpenedOn held was
    pub given : IsGivenBack over_files wanted (Leaves (file_state was)) was left why
    pub sees : HasCleanDisk (file_state left) → IsTrue (file_state left).is_open → (db : Trees) → HoldsDatabase held db → (file_state left).now.trees ≡ db
    pub tells : HasCleanDisk (file_state left) → IsTrue (file_state left).is_open → TellsStill wanted left why

  -- this connection was opened on the files, and then no desk was made
  pub record IsUnmadeOn (Leaves : Trees → Type 0) (why : DeskFault) (left : Held (FileStore D g)) : Type 0 where
    pub was : Held (FileStore D g)
    pub opened : HasCleanDisk (file_state was) → IsOpenedOn held was
    pub given : IsLeftUnmade over_files Leaves was left why

  -- Why there is no desk of this version: the file system said so; or no connection could be opened, for a cause in what is
  -- left of the files; or the connection that was opened was refused.
  abbrev pub RefusesAs : (wanted : ℕ) → (Leaves : State → Trees → Type 0) → Presence → Refusal D g → Type 0
  RefusesAs wanted Leaves presence (NoFile fault) = presence_fault presence ≡ Some fault
  RefusesAs wanted Leaves presence (Unopened error left) = (presence ≡ File) × FailsToOpen IsFresh error left
  RefusesAs wanted Leaves presence (Refused why left) = (presence ≡ File) × (why ≢ Told Exists) × IsRefusedOn wanted Leaves why left

  -- a desk was asked for: a crash leaves nothing new
  abbrev pub RefusesDesk : Presence → Refusal D g → Type 0
  RefusesDesk = RefusesAs the.version leaves_nothing

  -- one of version 1 was asked for, to migrate it: a crash leaves what migrated tables keep
  abbrev pub RefusesFirst : Presence → Refusal D g → Type 0
  RefusesFirst = RefusesAs first_version leaves_migrated

  -- Why no new desk was made: no file could be made; or no connection could be opened; or no desk was made on the one that was.
  abbrev pub RefusesNew : (Leaves : Trees → Type 0) → Refusal D g → Type 0
  RefusesNew Leaves (NoFile fault) = fault ≡ Unavailable
  RefusesNew Leaves (Unopened error left) = FailsToOpen IsFresh error left
  RefusesNew Leaves (Refused why left) = IsUnmadeOn Leaves why left
