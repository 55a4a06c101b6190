-- The orders of ORDER BY are those of the keys of the tables.
use Rattle.std.proofs.Common.{true, ◌≡◌, ℕ, pos, List, [], ◌∷◌, refl, ◌∙◌, arith, Ordering, Less, Equal, Greater, int_cmp}
use Rattle.std.proofs.lemmas.Int.{ints}
use Rattle.std.specs.Ordering.{nat_cmp, ordering_then}
use Rattle.sqlite_value.specs.declared.value.Value.{Value}
use Rattle.sqlite_value.specs.declared.value.Value.TheVariants.{Text}
use Rattle.sqlite_value.specs.declared.keys.Collation.TheVariants.{Binary}
use Rattle.sqlite_value.specs.Keys.{ascending}
use Rattle.sqlite_value.specs.Order.{value_cmp}
use Rattle.sqlite_value.proofs.OrderLemmas.{value_cmp-Int, value_cmp-Text}
use Rattle.sqlite_sql.specs.Query.{key_cmp}
use Rattle.sql_tables.specs.Columns.{number, letter}
use Rattle.sql_tables.specs.KeyOrders.{text_cmp}

pub numbers_compare : (a b : ℕ) → value_cmp (number a) (number b) ≡ nat_cmp a b
numbers_compare a b = value_cmp-Int (pos a) (pos b) ∙ same a b
  where
    same : (a b : ℕ) → int_cmp (pos a) (pos b) ≡ nat_cmp a b
    same a b = grind (arith, ints)

then_equal : (o : Ordering) → ordering_then o Equal ≡ o
then_equal Less = refl
then_equal Equal = refl
then_equal Greater = refl

pub by_number : (a b : ℕ) → key_cmp 0 (ascending Binary ∷ []) (number a ∷ []) (number b ∷ []) ≡ nat_cmp a b
by_number a b = then_equal _ ∙ numbers_compare a b

pub by_text : (s t : List ℕ) → key_cmp 0 (ascending Binary ∷ []) (Text s ∷ []) (Text t ∷ []) ≡ text_cmp s t
by_text s t = then_equal _ ∙ value_cmp-Text s t

pub by_number_then_letter : (a b c d : ℕ) → key_cmp 0 (ascending Binary ∷ ascending Binary ∷ []) (number a ∷ letter c ∷ []) (number b ∷ letter d ∷ []) ≡ ordering_then (nat_cmp a b) (nat_cmp c d)
by_number_then_letter a b c d = let first = numbers_compare a b in let then = by_text (c ∷ []) (d ∷ []) ∙ letters_compare c d in λ i. ordering_then (first i) (then i)
  where
    letters_compare : (c d : ℕ) → text_cmp (c ∷ []) (d ∷ []) ≡ nat_cmp c d
    letters_compare c d = then_equal (nat_cmp c d)

pub by_text_then_number : (s t : List ℕ) (a b : ℕ) → key_cmp 0 (ascending Binary ∷ ascending Binary ∷ []) (Text s ∷ number a ∷ []) (Text t ∷ number b ∷ []) ≡ ordering_then (text_cmp s t) (nat_cmp a b)
by_text_then_number s t a b = let first = value_cmp-Text s t in let then = by_number a b in λ i. ordering_then (first i) (then i)

by_numbers : (a b c d : ℕ) → key_cmp 0 (ascending Binary ∷ ascending Binary ∷ []) (number a ∷ number c ∷ []) (number b ∷ number d ∷ []) ≡ ordering_then (nat_cmp a b) (nat_cmp c d)
by_numbers a b c d = let first = numbers_compare a b in let then = by_number c d in λ i. ordering_then (first i) (then i)

pub by_text_then_numbers : (s t : List ℕ) (a b c d : ℕ) → key_cmp 0 (ascending Binary ∷ ascending Binary ∷ ascending Binary ∷ []) (Text s ∷ number a ∷ number c ∷ []) (Text t ∷ number b ∷ number d ∷ []) ≡ ordering_then (ordering_then (text_cmp s t) (nat_cmp a b)) (nat_cmp c d)
by_text_then_numbers s t a b c d = (let first = value_cmp-Text s t in let then = by_numbers a b c d in λ i. ordering_then (first i) (then i)) ∙ joined (text_cmp s t) (nat_cmp a b) (nat_cmp c d)
  where
    joined : (x y z : Ordering) → ordering_then x (ordering_then y z) ≡ ordering_then (ordering_then x y) z
    joined Less y z = refl
    joined Equal y z = refl
    joined Greater y z = refl

-- by a text, by two more columns, and by a number
pub by_text_then_more : (s t : List ℕ) (u v f g : Value) (a b : ℕ)
    → key_cmp 0 (ascending Binary ∷ ascending Binary ∷ ascending Binary ∷ ascending Binary ∷ []) (Text s ∷ u ∷ f ∷ number a ∷ []) (Text t ∷ v ∷ g ∷ number b ∷ [])
    ≡ ordering_then (text_cmp s t) (ordering_then (value_cmp u v) (ordering_then (value_cmp f g) (nat_cmp a b)))
by_text_then_more s t u v f g a b = let first = value_cmp-Text s t in let last = by_number a b in λ i. ordering_then (first i) (ordering_then (value_cmp u v) (ordering_then (value_cmp f g) (last i)))

-- DESC
pub by_falling_number : (a b : ℕ) → key_cmp 0 (record { collation = Binary; descending = true } ∷ []) (number b ∷ []) (number a ∷ []) ≡ nat_cmp a b
by_falling_number a b = then_equal _ ∙ numbers_compare a b

pub by_falling_text_then_number : (s t : List ℕ) (a b : ℕ) → key_cmp 0 (record { collation = Binary; descending = true } ∷ record { collation = Binary; descending = true } ∷ []) (Text t ∷ number b ∷ []) (Text s ∷ number a ∷ []) ≡ ordering_then (text_cmp s t) (nat_cmp a b)
by_falling_text_then_number s t a b = let first = value_cmp-Text s t in let then = by_falling_number a b in λ i. ordering_then (first i) (then i)
