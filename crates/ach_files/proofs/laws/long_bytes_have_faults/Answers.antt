use Rattle.std.proofs.Common.{◌≡◌, ◌<◌, ◌+◌, ℕ, true, List, [], ◌∷◌, Option, None, Some, ◌++◌, length, take, drop, get_or, nat_le, refl, ap, ◌∙◌, arith}
use Rattle.std.proofs.lemmas.List.{length-take-le}
use Rattle.ach_files.specs.FirstFault.{early_fault, first_fault, or_else, place_fault, record_of, fault_at}
use Rattle.ach_files.specs.Layout.{layout, move_at}
use Rattle.ach_files.specs.declared.fault.Fault.{Fault}
use Rattle.ach_files.specs.declared.fault.FileFault.TheVariants.{TooLarge}
use Rattle.ach_files.proofs.Firsts.{first_append, split_at}
use Rattle.ach_files.proofs.laws.long_bytes_have_faults.Goals as goal

later : (o p : Option Fault) → (f : Fault) × (p ≡ Some f) → (f : Fault) × (or_else o p ≡ Some f)
later None p is = is
later (Some f) p is = (f, refl)

sooner : (o p : Option Fault) → (f : Fault) × (o ≡ Some f) → (f : Fault) × (or_else o p ≡ Some f)
sooner o p is = (is.0, rw is.1 refl)

full : (bytes : List ℕ) (b : ℕ) → nat_le 4194304 (length bytes) ≡ true → (f : Fault) × (place_fault (length bytes) (layout bytes) b ≡ Some f)
unfolding place_fault
full bytes b e = (fault_at (record_of (layout bytes).records (move_at (layout bytes).place b)) TooLarge, rw e refl)

at_place : (bytes : List ℕ) (b : ℕ) (rest : List ℕ) → nat_le 4194304 (length bytes) ≡ true → (f : Fault) × (early_fault (bytes ++ b ∷ rest) ≡ Some f)
unfolding first_fault
at_place bytes b rest e =
    let found = later (early_fault bytes) (first_fault bytes (b ∷ rest)) (sooner (place_fault (length bytes) (layout bytes) b) (first_fault (bytes ++ b ∷ []) rest) (full bytes b e)) in
    (found.0, first_append [] bytes (b ∷ rest) ∙ found.1)

long : (n : ℕ) (bytes : List ℕ) → nat_le 4194304 n ≡ true → n < length bytes → (f : Fault) × (early_fault bytes ≡ Some f)
long n bytes e lt =
    let taken : length (take n bytes) ≡ n = length-take-le n bytes (omega (arith, lt)) in
    let found = at_place (take n bytes) (get_or bytes n 0) (drop (n + 1) bytes) (rw taken e) in
    (found.0, ap early_fault (split_at bytes n lt) ∙ found.1)

pub returns : goal.returns
returns c = λ bytes lt. long 4194304 bytes refl lt
