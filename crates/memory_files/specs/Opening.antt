-- The effect of a call on files in memory. `d` has the facts of a file in memory.
use Rattle.std.specs.Prelude.{◌≡◌, ◌≢◌, ℕ, List, [], Option, Some, None, IsSome, MatchOption, Result, Ok, Err, find}
use Rattle.std.specs.IoError.{error_kind}
use Rattle.std.specs.Str.{bytes_eq}
use Rattle.std.specs.declared.io.Error.{Error as IoError}
use Rattle.std.specs.declared.io.ErrorKind.TheVariants.{AlreadyExists}
use Rattle.sqlite_disk.specs.Memory.{memory_bytes}
use Rattle.sqlite_disk.specs.declared.Disk as disk
use Rattle.sqlite_disk.specs.declared.Files.{Files}
use Rattle.sqlite_disk.specs.declared.memory.Memory.{Memory}
use Rattle.sqlite_store.specs.declared.store.FileStore.{FileStore}
use Rattle.sqlite_wal.specs.Recovery.{Image}
use Rattle.sqlite.specs.Files.{FailsToOpenFiles, IsCleanLeft, LeavesFiles}
use Rattle.sqlite.specs.Held.{Held}
use Rattle.sqlite.specs.declared.error.Error.{Error}
use Rattle.sqlite.specs.declared.file.Leftover.{Leftover}
use Rattle.sql_files.specs.Closing.{HasFiles, IsLeftBy}
use Rattle.sql_files.specs.Opened.{IfCleanFiles, IsOpenedOn}
use Rattle.sql_files.specs.declared.refusal.Refusal.{Refusal}
use Rattle.memory_files.specs.Kept.{bytes_at, kept_in, with_files, IsKeptOf, IsPlaceOf}
use Rattle.memory_files.specs.declared.kept_files.KeptFiles.{KeptFiles}
use Rattle.memory_files.specs.declared.memory_files.MemoryFiles.{MemoryFiles}
use Rattle.memory_files.specs.declared.memory_files.OtherFile.{OtherFile}

-- ---- what is at a path

abbrev pub kept_at : MemoryFiles → (path : List ℕ) → Option KeptFiles
kept_at m path = kept_in m.places.items path

-- the bytes of a desk's files
abbrev pub image_at : MemoryFiles → (path : List ℕ) → Image
image_at m path = bytes_at (kept_at m path)

-- the first other file with a path
abbrev pub other_in : List OtherFile → (path : List ℕ) → Option OtherFile
other_in others path = find (λ other. bytes_eq other.path.now path) others

abbrev pub other_at : MemoryFiles → (path : List ℕ) → Option OtherFile
other_at m = other_in m.others.now

-- a file can be made there, as there is none; else there is one already
abbrev pub SaysWhetherNew : MemoryFiles → (path : List ℕ) → Result (Unit {0}) IoError → Type 0
SaysWhetherNew m path (Ok done) = kept_at m path ≡ None
SaysWhetherNew m path (Err e) = IsSome (kept_at m path) × (error_kind e ≡ AlreadyExists)

-- every path has what it had
pub record IsSame (old new : MemoryFiles) : Type 0 where
  pub kept : (path : List ℕ) → kept_at new path ≡ kept_at old path
  pub opened : new.opened ≡ old.opened
  pub others : new.others ≡ old.others

-- every path that had files has files
abbrev pub LosesNone : (old new : MemoryFiles) → Type 0
LosesNone old new = (path : List ℕ) → IsSome (kept_at old path) → IsSome (kept_at new path)

-- ---- files are given out

-- these are the kept files, or new ones
abbrev pub AreThose : Option KeptFiles → Files Memory → Type 0
AreThose None files = (memory_bytes files.log ≡ []) × (memory_bytes files.db ≡ [])
AreThose (Some kept) files = (files.log ≡ kept.log) × (files.db ≡ kept.db)

-- The files at a path, or new ones, were given out, so that none are kept there. Every other path has what it had.
pub record TakesOut (old : MemoryFiles) (path : List ℕ) (files : Files Memory) (new : MemoryFiles) : Type 0 where
  pub at : ℕ
  pub is_place : IsPlaceOf new.places.items path at
  pub opened : new.opened ≡ Some at
  pub taken : AreThose (kept_at old path) files
  pub out : kept_at new path ≡ None
  pub elsewhere : (other : List ℕ) → other ≢ path → kept_at new other ≡ kept_at old other
  pub others : new.others ≡ old.others

module _ (d : disk.Ghosts Memory) where
  -- a connection was opened on the files that were given out
  abbrev pub Connects : (old : MemoryFiles) → (path : List ℕ) → Held (FileStore Memory d) → (new : MemoryFiles) → Type 0
  Connects old path c new = ((files : Files Memory) × TakesOut old path files new) × IfCleanFiles (IsOpenedOn (image_at old path)) c

  -- none was, for a cause in what is left of them
  pub record FailsOn (old : MemoryFiles) (path : List ℕ) (error : Error) (left : Leftover Memory d) (new : MemoryFiles) : Type 0 where
    pub files : Files Memory
    pub takes : TakesOut old path files new
    pub fails : IsCleanLeft left → FailsToOpenFiles files left error × LeavesFiles files left

  -- the same; or there was no memory for the path, and nothing changed
  abbrev pub FailsToConnect : (old : MemoryFiles) → (path : List ℕ) → Error → Option (Leftover Memory d) → (new : MemoryFiles) → Type 0
  FailsToConnect old path error None new = IsSame old new
  FailsToConnect old path error (Some left) new = FailsOn old path error left new

  -- ---- files are returned

  -- they were put at the place that was given out last
  abbrev pub PutsBack : (old : MemoryFiles) → Files Memory → (new : MemoryFiles) → Type 0
  PutsBack old files new =
      MatchOption old.opened (new ≡ old) (λ at.
      (kept : KeptFiles) × IsKeptOf d files kept
      × (new.places.items ≡ with_files old.places.items at (Some kept)) × (new.opened ≡ None) × (new.others ≡ old.others))

  -- The files of a connection or a refusal were put back. A refusal without files changes nothing.
  abbrev pub ComesBack : (old : MemoryFiles) → Option (Result (Held (FileStore Memory d)) (Refusal Memory d)) → (new : MemoryFiles) → Type 0
  ComesBack old None new = new ≡ old
  ComesBack old (Some (Ok c)) new = (files : Files Memory) × IsLeftBy c files × PutsBack old files new
  ComesBack old (Some (Err why)) new =
      (files : Option (Files Memory)) × HasFiles why files × MatchOption files (new ≡ old) (λ those. PutsBack old those new)
