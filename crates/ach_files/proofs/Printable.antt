-- Bytes that records may have.
use Rattle.std.proofs.Common.{◌≡◌, ◌≤◌, ℕ, true, List, [], ◌∷◌, refl}
use Rattle.std.specs.List.{list_all, All}
use Rattle.std.proofs.lemmas.Bool.{and_parts, and_from, leb-true, le-leb}
use Rattle.std.proofs.lemmas.List.Elements.{All-nil, All-cons, All-head, All-tail}
use Rattle.ach_fields.specs.Characters.{is_printable}

abbrev pub IsPrintable : ℕ → Type 0
IsPrintable b = (32 ≤ b) × (b ≤ 126)

pub printable_is : (b : ℕ) → is_printable b ≡ true → IsPrintable b
printable_is b e = let p = and_parts _ _ e in (leb-true _ _ p.0, leb-true _ _ p.1)

pub test_is : (b : ℕ) → IsPrintable b → is_printable b ≡ true
test_is b p = and_from _ _ (le-leb _ _ p.0) (le-leb _ _ p.1)

pub all_printable : (bytes : List ℕ) → list_all is_printable bytes ≡ true → All IsPrintable bytes
all_printable [] e = All-nil IsPrintable
all_printable (b ∷ bytes) e = let p = and_parts (is_printable b) (list_all is_printable bytes) e in All-cons IsPrintable b bytes (printable_is b p.0) (all_printable bytes p.1)

pub all_tested : (bytes : List ℕ) → All IsPrintable bytes → list_all is_printable bytes ≡ true
all_tested [] p = refl
all_tested (b ∷ bytes) p = and_from _ _ (test_is b (All-head IsPrintable b bytes p)) (all_tested bytes (All-tail IsPrintable b bytes p))
