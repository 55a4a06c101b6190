-- Files that were given out are put back at their path.
use Rattle.std.proofs.Common.{◌≡◌, ◌≢◌, ◌∙◌, ℕ, Bool, true, false, List, Option, Some, None, IsSome, IsSomeAnd, MatchOption, Result, Ok, Err, refl, sym, ap, subst}
use Rattle.std.proofs.lemmas.Slice.Eq.{bytes_eq-Decides}
use Rattle.std.specs.Str.{bytes_eq}
use Rattle.sqlite_disk.specs.declared.Disk as disk
use Rattle.sqlite_disk.specs.declared.Files.{Files}
use Rattle.sqlite_disk.specs.declared.memory.Memory.{Memory}
use Rattle.sqlite_store.specs.declared.store.FileStore.{FileStore}
use Rattle.sqlite.specs.Held.{Held}
use Rattle.sql_files.specs.Steps.{FailsToConnect}
use Rattle.sql_files.specs.declared.refusal.Refusal.{Refusal}
use Rattle.sql_files.specs.declared.refusal.Refusal.TheVariants.{Refused, NoFile, Unopened}
use Rattle.memory_files.specs.Kept.{kept_in, with_files, IsKeptOf}
use Rattle.memory_files.specs.Opening.{kept_at, ComesBack, IsSame, LosesNone, PutsBack, TakesOut}
use Rattle.memory_files.specs.contracts.opening.MemoryFilesDeskFiles.TheImpl as files
use Rattle.memory_files.specs.declared.kept_files.KeptFiles.{KeptFiles}
use Rattle.memory_files.specs.declared.memory_files.MemoryFiles.{MemoryFiles}
use Rattle.memory_files.proofs.Keeping.{kept_elsewhere, kept_there}

module _ (d : disk.Ghosts Memory) where
  -- they were put at this place
  abbrev IsPut : (old : MemoryFiles) → Files Memory → (at : ℕ) → (new : MemoryFiles) → Type 0
  IsPut old files at new =
      (kept : KeptFiles) × IsKeptOf d files kept
      × (new.places.items ≡ with_files old.places.items at (Some kept)) × (new.opened ≡ None) × (new.others ≡ old.others)

  -- what was taken out of a path is put back there
  pub put_back : (old left new : MemoryFiles) (path : List ℕ) (files those : Files Memory) → TakesOut old path files left → PutsBack d left those new → LosesNone old new
  put_back old left new path files those out back other some = by_bool (bytes_eq other path) refl
    where
      put : IsPut left those out.at new
      put = subst (λ opened. MatchOption opened (new ≡ left) (λ at. IsPut left those at new)) out.opened back

      by_bool : (b : Bool) → bytes_eq other path ≡ b → IsSome (kept_at new other)
      by_bool true is =
          let same : other ≡ path = (bytes_eq-Decides other path).0 is in
          let there : kept_at new path ≡ Some put.0 = ap (λ places. kept_in places path) put.2 ∙ kept_there left.places.items path out.at (Some put.0) out.is_place in
          subst (λ found. IsSome found) (sym (ap (λ at. kept_at new at) same ∙ there)) refl
      by_bool false is =
          let differs : other ≢ path = λ same. let no : false ≡ true = sym is ∙ (bytes_eq-Decides other path).1 same in let never : ⊥ = cc in never in
          let kept : kept_at new other ≡ kept_at old other =
          ap (λ places. kept_in places other) put.2 ∙ kept_elsewhere left.places.items path out.at (Some put.0) out.is_place other differs ∙ out.elsewhere other differs in
          subst (λ found. IsSome found) (sym kept) some

  -- nothing was given out, and nothing is put back
  pub unchanged : (old left new : MemoryFiles) → left ≡ old → new ≡ left → LosesNone old new
  unchanged old left new same also = λ path some. subst (λ (m : MemoryFiles). IsSome (kept_at m path)) (sym (also ∙ same)) some

  alike : (old left new : MemoryFiles) → IsSame old left → new ≡ left → LosesNone old new
  alike old left new same also = λ path some. subst (λ found. IsSome found) (sym (ap (λ (m : MemoryFiles). kept_at m path) also ∙ same.kept path)) some

  module _ (old left new : MemoryFiles) (path : List ℕ) where
    -- a connection to what was given out is closed
    pub connection_back : (c : Held (FileStore Memory d)) → (files : Files Memory) → TakesOut old path files left → ComesBack d left (Some (Ok c)) new → LosesNone old new
    connection_back c files out back = put_back old left new path files back.0 out back.2

    none_back : (files : Option (Files Memory)) → files ≡ None → MatchOption files (new ≡ left) (λ those. PutsBack d left those new) → new ≡ left
    none_back None none back = back
    none_back (Some those) none back = absurd (let no : ⊥ = cc in no)

    some_back : (Is : Files Memory → Type 0) (taken : Files Memory) → TakesOut old path taken left
        → (files : Option (Files Memory)) → IsSomeAnd files Is → MatchOption files (new ≡ left) (λ those. PutsBack d left those new) → LosesNone old new
    some_back Is taken out None some back = absurd some
    some_back Is taken out (Some those) some back = put_back old left new path taken those out back

    -- a refusal of what was asked for is closed
    pub refusal_back : (why : Refusal Memory d) → FailsToConnect files.ghosts d old path why left → ComesBack d left (Some (Err why)) new → LosesNone old new
    refusal_back (NoFile fault) fails back = unchanged old left new fails (none_back back.0 back.1 back.2)
    refusal_back (Unopened error None) fails back = alike old left new fails (none_back back.0 back.1 back.2)
    refusal_back (Unopened error (Some rest)) fails back = some_back _ fails.files fails.takes back.0 back.1 back.2
    refusal_back (Refused why c) fails back = some_back _ fails.1.0.0 fails.1.0.1 back.0 back.1 back.2
