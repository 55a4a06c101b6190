-- Files that are taken out of memory, and what a connection to them finds.
use Rattle.std.proofs.Common.{◌≡◌, ◌∙◌, ℕ, List, [], Option, Some, None, Result, Ok, Err, IfOk, IfErr, sym, ap, subst}
use Rattle.sqlite_disk.specs.Memory.{memory_bytes}
use Rattle.sqlite_disk.specs.declared.Disk as disk
use Rattle.sqlite_disk.specs.declared.Files.{Files}
use Rattle.sqlite_disk.specs.declared.memory.Memory.{Memory}
use Rattle.sqlite_store.specs.declared.store.FileStore.{FileStore}
use Rattle.sqlite_wal.specs.Recovery.{Image}
use Rattle.sqlite.specs.Files.{file_state, image_of, FailsToOpenFiles, Finds, IsCleanLeft, LeavesFiles}
use Rattle.sqlite.specs.declared.error.Error.{Error}
use Rattle.sqlite.specs.declared.file.Leftover.{Leftover}
use Rattle.sqlite.specs.Held.{Held}
use Rattle.sqlite.specs.Start.{FindsIn}
use Rattle.sqlite.specs.State.{HasCleanDisk, State}
use Rattle.memory_files.specs.Kept.{bytes_at, kept_in, with_files, IsPlaceOf}
use Rattle.memory_files.specs.Opening.{kept_at, AreThose, IsSame, TakesOut}
use Rattle.memory_files.specs.declared.kept_files.KeptFiles.{KeptFiles}
use Rattle.memory_files.specs.declared.memory_files.MemoryFiles.{MemoryFiles}
use Rattle.memory_files.proofs.Keeping.{kept_elsewhere, kept_there, still_none, still_place}

-- the files at a place were taken out
pub takes_out : (old new : MemoryFiles) (path : List ℕ) (files : Files Memory) (at : ℕ) → IsPlaceOf old.places.items path at
    → new.places.items ≡ with_files old.places.items at None → new.opened ≡ Some at → new.others ≡ old.others
    → AreThose (kept_at old path) files → TakesOut old path files new
takes_out old new path files at here set opened others those = record {
  at = at;
  is_place = subst (λ places. IsPlaceOf places path at) (sym set) (still_place old.places.items path at None here);
  opened = opened;
  taken = those;
  out = ap (λ places. kept_in places path) set ∙ kept_there old.places.items path at None here;
  elsewhere = λ other differs. ap (λ places. kept_in places other) set ∙ kept_elsewhere old.places.items path at None here other differs;
  others = others;
}

-- without files
pub takes_none : (old new : MemoryFiles) (path : List ℕ) (at : ℕ) → IsPlaceOf old.places.items path at → kept_at old path ≡ None
    → new.places.items ≡ with_files old.places.items at None → new.opened ≡ old.opened → new.others ≡ old.others → IsSame old new
takes_none old new path at here none set opened others = record {
  kept = λ other. ap (λ places. kept_in places other) (set ∙ still_none old.places.items path at here none);
  opened = opened;
  others = others;
}

-- new files for a path that has none
pub takes_made : (old mid new : MemoryFiles) (path : List ℕ) (files : Files Memory) (at : ℕ) → kept_at old path ≡ None → IsSame old mid
    → ((other : List ℕ) → kept_at new other ≡ kept_at mid other) → IsPlaceOf new.places.items path at → new.opened ≡ Some at
    → new.others ≡ mid.others → AreThose None files → TakesOut old path files new
takes_made old mid new path files at none same kept here opened others those = record {
  at = at;
  is_place = here;
  opened = opened;
  taken = subst (λ found. AreThose found files) (sym none) those;
  out = kept path ∙ same.kept path ∙ none;
  elsewhere = λ other differs. kept other ∙ same.kept other;
  others = others ∙ same.others;
}

-- their bytes are those of the path
module _ (g : disk.Ghosts Memory) (seen : (file : Memory) → g.seen file ≡ memory_bytes file) where
  pub image_is : (found : Option KeptFiles) (files : Files Memory) → AreThose found files → image_of g files ≡ bytes_at found
  image_is None files those = pair (g.seen files.log) (g.seen files.db) [] [] (seen files.log ∙ those.0) (seen files.db ∙ those.1)
    where
      pair : (a b c d : List ℕ) → a ≡ c → b ≡ d → (let x : Image = record { log = a; db = b } in x) ≡ (let y : Image = record { log = c; db = d } in y)
      pair a b c d same also = cc
  image_is (Some kept) files those = pair (g.seen files.log) (g.seen files.db) (memory_bytes kept.log) (memory_bytes kept.db)
      (seen files.log ∙ ap (λ (file : Memory). memory_bytes file) those.0) (seen files.db ∙ ap (λ (file : Memory). memory_bytes file) those.1)
    where
      pair : (a b c d : List ℕ) → a ≡ c → b ≡ d → (let x : Image = record { log = a; db = b } in x) ≡ (let y : Image = record { log = c; db = d } in y)
      pair a b c d same also = cc

-- what a connection finds in files it finds in their bytes
pub finds_in : {D E : Type 0} (g : disk.Ghosts D) (files : Files D) (result : Result (Held (FileStore D g)) E)
    → IfOk result (λ c. HasCleanDisk (file_state c) → Finds files c)
    → IfOk result (λ c. HasCleanDisk (file_state c) → FindsIn (image_of g files) (file_state c))
finds_in g files (Ok c) finds = λ clean. record { holds = (finds clean).holds; reads = (finds clean).reads }
finds_in g files (Err why) finds = tt

-- so it finds them in what the path had
pub found_bytes : (g : disk.Ghosts Memory) → ((file : Memory) → g.seen file ≡ memory_bytes file) → (found : Option KeptFiles) (files : Files Memory) (s : State)
    → AreThose found files → (HasCleanDisk s → FindsIn (image_of g files) s) → HasCleanDisk s → FindsIn (bytes_at found) s
found_bytes g seen found files s those finds clean = subst (λ (image : Image). FindsIn image s) (image_is g seen found files those) (finds clean)

-- why no connection was opened, and what is left
pub left_said : {D A : Type 0} (g : disk.Ghosts D) (files : Files D) (result : Result A (Error × Leftover D g))
    → IfErr result (λ e. IsCleanLeft e.1 → FailsToOpenFiles files e.1 e.0) → IfErr result (λ e. IsCleanLeft e.1 → LeavesFiles files e.1)
    → IfErr result (λ e. IsCleanLeft e.1 → FailsToOpenFiles files e.1 e.0 × LeavesFiles files e.1)
left_said g files (Ok c) fails leaves = tt
left_said g files (Err e) fails leaves = λ clean. (fails clean, leaves clean)
