-- The bytes of files in memory, by their paths.
use Rattle.std.specs.Prelude.{◌≡◌, ◌==◌, ℕ, zero, suc, Bool, cond, true, false, List, [], ◌∷◌, length, Option, Some, None, IsTrue, string_bytes}
use Rattle.std.specs.Str.{bytes_eq}
use Rattle.sqlite_disk.specs.Memory.{memory_bytes, memory_is_usable}
use Rattle.sqlite_disk.specs.declared.Disk as disk
use Rattle.sqlite_disk.specs.declared.Files.{Files}
use Rattle.sqlite_disk.specs.declared.memory.Memory.{Memory}
use Rattle.sqlite_wal.specs.Files.{outcomes}
use Rattle.sqlite_wal.specs.Recovery.{Image}
use Rattle.sql_files.specs.declared.presence.Presence.{Presence}
use Rattle.sql_files.specs.declared.presence.Presence.TheVariants.{File, Nothing}
use Rattle.memory_files.specs.declared.kept_files.KeptFiles.{KeptFiles}
use Rattle.memory_files.specs.declared.places.Place.{Place}

-- the place has this path
abbrev pub has_path : (path : List ℕ) → Place → Bool
has_path path place = bytes_eq (string_bytes place.path) path

-- the files of the desk at a path, which are those of the first place with that path
abbrev pub kept_in : List Place → (path : List ℕ) → Option KeptFiles
kept_in [] path = None
kept_in (place ∷ places) path = cond (has_path path place) place.files (kept_in places path)

-- it is the first place with this path
abbrev pub IsPlaceOf : List Place → (path : List ℕ) → (at : ℕ) → Type 0
IsPlaceOf [] path at = ⊥
IsPlaceOf (place ∷ places) path zero = has_path path place ≡ true
IsPlaceOf (place ∷ places) path (suc at) = (has_path path place ≡ false) × IsPlaceOf places path at

-- the same places, with these files at this one
abbrev pub with_files : List Place → (at : ℕ) → Option KeptFiles → List Place
with_files [] at files = []
with_files (place ∷ places) zero files = record place { files = files } ∷ places
with_files (place ∷ places) (suc at) files = place ∷ with_files places at files

-- the bytes of the two files
abbrev pub bytes_of : KeptFiles → Image
bytes_of kept = record { log = memory_bytes kept.log; db = memory_bytes kept.db }

-- no sync of the file has failed
abbrev pub IsUsable : Memory → Type 0
IsUsable file = IsTrue (memory_is_usable file)

-- These files are kept: each as it is, or as a crash leaves it if a sync of it has failed. `d` has the facts of a file in memory.
pub record IsKeptOf (d : disk.Ghosts Memory) (files : Files Memory) (kept : KeptFiles) : Type 0 where
  pub log : IsUsable files.log → kept.log ≡ files.log
  pub db : IsUsable files.db → kept.db ≡ files.db
  pub left : outcomes d files.log files.db (bytes_of kept)

-- the bytes at a path, if there are files
abbrev pub bytes_at : Option KeptFiles → Image
bytes_at None = record { log = []; db = [] }
bytes_at (Some kept) = bytes_of kept

-- the report on a path: there is a file that is not empty, or nothing
abbrev pub presence_of : Option KeptFiles → Presence
presence_of None = Nothing
presence_of (Some kept) = cond (length (memory_bytes kept.db) == 0) Nothing File
