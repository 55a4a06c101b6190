-- The files kept at a path after files are taken from a place or put there.
use Rattle.std.proofs.Common.{◌≡◌, ◌≢◌, ◌≤◌, ◌∙◌, ◌==◌, arith, ℕ, zero, suc, ◌+◌, cond, Bool, true, false, List, [], ◌∷◌, ◌++◌, length, Option, Some, None, refl, sym, ap, subst, slice_index_or, slice_set, string_bytes}
use Rattle.std.proofs.lemmas.Slice.Eq.{bytes_eq-Decides}
use Rattle.std.specs.List.{position_from}
use Rattle.sqlite_disk.specs.Memory.{memory_bytes}
use Rattle.sql_files.specs.declared.presence.Presence.TheVariants.{File, Nothing}
use Rattle.memory_files.specs.Kept.{has_path, kept_in, presence_of, with_files, IsPlaceOf}
use Rattle.memory_files.specs.declared.kept_files.KeptFiles.{KeptFiles}
use Rattle.memory_files.specs.declared.places.Place.{Place}

-- ---- one place

-- it has no other path
no_other : (place : Place) (path other : List ℕ) → other ≢ path → has_path path place ≡ true → has_path other place ≡ false
no_other place path other differs has = by_bool (has_path other place) refl
  where
    by_bool : (b : Bool) → has_path other place ≡ b → b ≡ false
    by_bool false is = refl
    by_bool true is =
        absurd (differs (sym ((bytes_eq-Decides (string_bytes place.path) other).0 is) ∙ (bytes_eq-Decides (string_bytes place.path) path).0 has))

-- what was read of a place is written back with other files
pub set_is : (places : List Place) (at : ℕ) (place : Place) (files : Option KeptFiles) → place ≡ slice_index_or places at place
    → slice_set places at (record place { files = files }) ≡ with_files places at files
set_is [] at place files is = refl
set_is (first ∷ places) zero place files is = ap (λ (p : Place). record p { files = files } ∷ places) is
set_is (first ∷ places) (suc at) place files is = ap (λ l. first ∷ l) (set_is places at place files is)

-- its files are those of its path
pub files_of_place : (places : List Place) (at : ℕ) (place : Place) (path : List ℕ) → place ≡ slice_index_or places at place
    → IsPlaceOf places path at → place.files ≡ kept_in places path
files_of_place [] at place path is here = absurd here
files_of_place (first ∷ places) zero place path is here =
    ap (λ (p : Place). p.files) is ∙ sym (ap (λ b. cond b first.files (kept_in places path)) here)
files_of_place (first ∷ places) (suc at) place path is here =
    files_of_place places at place path is here.1 ∙ sym (ap (λ b. cond b first.files (kept_in places path)) here.0)

-- ---- the place of a path

record Found (places : List Place) (path : List ℕ) (from at : ℕ) : Type 0 where
  pub steps : ℕ
  pub is : at ≡ from + steps
  pub here : IsPlaceOf places path steps

found_from : (places : List Place) (path : List ℕ) (from at : ℕ) → position_from (has_path path) from places ≡ Some at → Found places path from at
found_from [] path from at found = absurd (let no : ⊥ = cc in no)
found_from (place ∷ places) path from at found = by_bool (has_path path place) refl (λ later. found_from places path (from + 1) at later)
  where
    by_bool : (b : Bool) → has_path path place ≡ b → (position_from (has_path path) (from + 1) places ≡ Some at → Found places path (from + 1) at)
        → Found (place ∷ places) path from at
    by_bool true is later =
        let here : Some from ≡ Some at = sym (ap (λ b. cond b (Some from) (position_from (has_path path) (from + 1) places)) is) ∙ found in
        let same : from ≡ at = cc in
        record { steps = 0; is = omega (arith, same); here = is }
    by_bool false is later =
        let more = later (sym (ap (λ b. cond b (Some from) (position_from (has_path path) (from + 1) places)) is) ∙ found) in
        let on : at ≡ (from + 1) + more.steps = more.is in
        record { steps = suc more.steps; is = omega (arith, on); here = (is, more.here) }

pub place_is : (places : List Place) (path : List ℕ) (at : ℕ) → position_from (has_path path) 0 places ≡ Some at → IsPlaceOf places path at
place_is places path at found =
    let is = found_from places path 0 at found in
    let on : at ≡ 0 + is.steps = is.is in
    let same : is.steps ≡ at = omega (arith, on) in
    subst (λ k. IsPlaceOf places path k) same is.here

-- ---- no place has the path

pub none_is : (places : List Place) (path : List ℕ) (from : ℕ) → position_from (has_path path) from places ≡ None → kept_in places path ≡ None
none_is [] path from none = refl
none_is (place ∷ places) path from none = by_bool (has_path path place) refl (λ later. none_is places path (from + 1) later)
  where
    by_bool : (b : Bool) → has_path path place ≡ b → (position_from (has_path path) (from + 1) places ≡ None → kept_in places path ≡ None)
        → kept_in (place ∷ places) path ≡ None
    by_bool true is later =
        absurd (let no : Some from ≡ None = sym (ap (λ b. cond b (Some from) (position_from (has_path path) (from + 1) places)) is) ∙ none in let never : ⊥ = cc in never)
    by_bool false is later =
        ap (λ b. cond b place.files (kept_in places path)) is
        ∙ later (sym (ap (λ b. cond b (Some from) (position_from (has_path path) (from + 1) places)) is) ∙ none)

-- a place of that path that is added is its place
pub added_here : (places : List Place) (place : Place) (path : List ℕ) (from : ℕ) → string_bytes place.path ≡ path
    → position_from (has_path path) from places ≡ None → IsPlaceOf (places ++ place ∷ []) path (length places)
added_here [] place path from is none = (bytes_eq-Decides (string_bytes place.path) path).1 is
added_here (first ∷ places) place path from is none = by_bool (has_path path first) refl (λ later. added_here places place path (from + 1) is later)
  where
    by_bool : (b : Bool) → has_path path first ≡ b → (position_from (has_path path) (from + 1) places ≡ None → IsPlaceOf (places ++ place ∷ []) path (length places))
        → IsPlaceOf (first ∷ (places ++ place ∷ [])) path (suc (length places))
    by_bool true has later =
        absurd (let no : Some from ≡ None = sym (ap (λ b. cond b (Some from) (position_from (has_path path) (from + 1) places)) has) ∙ none in let never : ⊥ = cc in never)
    by_bool false has later =
        (has, later (sym (ap (λ b. cond b (Some from) (position_from (has_path path) (from + 1) places)) has) ∙ none))

-- one with no files changes nothing
pub added_none : (places : List Place) (place : Place) → place.files ≡ None → (other : List ℕ) → kept_in (places ++ place ∷ []) other ≡ kept_in places other
added_none [] place none other = by_bool (has_path other place)
  where
    by_bool : (b : Bool) → cond b place.files None ≡ None
    by_bool true = none
    by_bool false = refl
added_none (first ∷ places) place none other = ap (λ rest. cond (has_path other first) first.files rest) (added_none places place none other)

-- ---- files at a place are exchanged

pub still_place : (places : List Place) (path : List ℕ) (at : ℕ) (files : Option KeptFiles) → IsPlaceOf places path at → IsPlaceOf (with_files places at files) path at
still_place [] path at files here = absurd here
still_place (place ∷ places) path zero files here = here
still_place (place ∷ places) path (suc at) files here = (here.0, still_place places path at files here.1)

pub kept_there : (places : List Place) (path : List ℕ) (at : ℕ) (files : Option KeptFiles) → IsPlaceOf places path at → kept_in (with_files places at files) path ≡ files
kept_there [] path at files here = absurd here
kept_there (place ∷ places) path zero files here = ap (λ b. cond b files (kept_in places path)) here
kept_there (place ∷ places) path (suc at) files here =
    ap (λ b. cond b place.files (kept_in (with_files places at files) path)) here.0 ∙ kept_there places path at files here.1

pub kept_elsewhere : (places : List Place) (path : List ℕ) (at : ℕ) (files : Option KeptFiles) → IsPlaceOf places path at
    → (other : List ℕ) → other ≢ path → kept_in (with_files places at files) other ≡ kept_in places other
kept_elsewhere [] path at files here other differs = absurd here
kept_elsewhere (place ∷ places) path zero files here other differs =
    let no = no_other place path other differs here in
    ap (λ b. cond b files (kept_in places other)) no ∙ sym (ap (λ b. cond b place.files (kept_in places other)) no)
kept_elsewhere (place ∷ places) path (suc at) files here other differs =
    ap (λ rest. cond (has_path other place) place.files rest) (kept_elsewhere places path at files here.1 other differs)

-- without files, none are taken
pub still_none : (places : List Place) (path : List ℕ) (at : ℕ) → IsPlaceOf places path at → kept_in places path ≡ None → with_files places at None ≡ places
still_none [] path at here none = refl
still_none (place ∷ places) path zero here none =
    let is : place.files ≡ None = sym (ap (λ b. cond b place.files (kept_in places path)) here) ∙ none in
    ap (λ files. record place { files = files } ∷ places) (sym is)
still_none (place ∷ places) path (suc at) here none =
    ap (λ l. place ∷ l) (still_none places path at here.1 (sym (ap (λ b. cond b place.files (kept_in places path)) here.0) ∙ none))

-- past the last place nothing is put
pub past_end : (places : List Place) (at : ℕ) (files : Option KeptFiles) → length places ≤ at → with_files places at files ≡ places
past_end [] at files past = refl
past_end (place ∷ places) zero files past = absurd (omega (arith, past))
past_end (place ∷ places) (suc at) files past = ap (λ l. place ∷ l) (past_end places at files (omega (arith, past)))

-- ---- what is said of a path

module _ (found : Option KeptFiles) (kept : KeptFiles) (is : found ≡ Some kept) (bytes : List ℕ) (same : bytes ≡ memory_bytes kept.db)
    (empty : Bool) (test : empty ≡ (length bytes == 0)) where
  tested : (b : Bool) → empty ≡ b → presence_of found ≡ cond b Nothing File
  tested b as_said = ap (λ it. presence_of it) is ∙ ap (λ it. cond it Nothing File) (ap (λ l. length l == 0) (sym same) ∙ sym test ∙ as_said)

  pub says_file : empty ≡ false → File ≡ presence_of found
  says_file said = sym (tested false said)

  pub says_nothing : empty ≡ true → Nothing ≡ presence_of found
  says_nothing said = sym (tested true said)
