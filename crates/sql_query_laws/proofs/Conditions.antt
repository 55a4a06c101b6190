-- What the tests of WHERE say of the values of columns.
use Rattle.std.proofs.Common.{◌≡◌, ℕ, pos, Bool, true, false, ◌&&◌, ◌==◌, nat_le, [], ◌∷◌, Option, Some, None, refl, ◌∙◌, is_eq, is_ge, is_le, int_cmp, arith}
use Rattle.std.proofs.lemmas.Int.{ints}
use Rattle.sqlite.specs.Values.{or_null}
use Rattle.sqlite_value.specs.declared.keys.Collation.TheVariants.{Binary}
use Rattle.sqlite_sql.specs.declared.ops.BinaryOp.TheVariants.{Compare}
use Rattle.sqlite_sql.specs.declared.ops.CompareOp.TheVariants.{Eq, Ge, Le}
use Rattle.sqlite_sql.specs.Ops.{binary, is_true}
use Rattle.sql_tables.specs.TableReads.{is_place, is_since, is_up_to}
use Rattle.sql_statements.proofs.Conditions.{and_true, int_is, int_least, int_most, text_is}
use Rattle.sql_tables.specs.Columns.{number, letter}

pub number_is : (a b : ℕ) → is_true (binary (Compare Eq Binary) (number a) (number b)) ≡ (a == b)
number_is a b = int_is (pos a) (pos b) ∙ same a b
  where
    same : (a b : ℕ) → is_eq (int_cmp (pos a) (pos b)) ≡ (a == b)
    same a b = grind (arith, ints)

pub letter_is : (a b : ℕ) → is_true (binary (Compare Eq Binary) (letter a) (letter b)) ≡ (a == b)
letter_is a b = text_is (a ∷ []) (b ∷ []) ∙ and_true (a == b)

pub number_least : (a b : ℕ) → is_true (binary (Compare Ge Binary) (number a) (number b)) ≡ nat_le b a
number_least a b = int_least (pos a) (pos b) ∙ same a b
  where
    same : (a b : ℕ) → is_ge (int_cmp (pos a) (pos b)) ≡ nat_le b a
    same a b = grind (arith, ints)

pub number_most : (a b : ℕ) → is_true (binary (Compare Le Binary) (number a) (number b)) ≡ nat_le a b
number_most a b = int_most (pos a) (pos b) ∙ same a b
  where
    same : (a b : ℕ) → is_le (int_cmp (pos a) (pos b)) ≡ nat_le a b
    same a b = grind (arith, ints)

-- ---- of columns that may be NULL

pub number_if_any_is : (o : Option ℕ) (n : ℕ) → is_true (binary (Compare Eq Binary) (or_null number o) (number n)) ≡ is_place n o
unfolding binary
number_if_any_is None n = refl
number_if_any_is (Some m) n = number_is m n

pub number_if_any_least : (o : Option ℕ) (n : ℕ) → is_true (binary (Compare Ge Binary) (or_null number o) (number n)) ≡ is_since n o
unfolding binary
number_if_any_least None n = refl
number_if_any_least (Some m) n = number_least m n

pub number_if_any_most : (o : Option ℕ) (n : ℕ) → is_true (binary (Compare Le Binary) (or_null number o) (number n)) ≡ is_up_to n o
unfolding binary
number_if_any_most None n = refl
number_if_any_most (Some m) n = number_most m n

-- WHERE of one, two or three tests
pub one : {a x : Bool} → a ≡ x → (a && true) ≡ x
one {a} e = and_true a ∙ e

pub two : {a b x y : Bool} → a ≡ x → b ≡ y → (a && (b && true)) ≡ (x && y)
two {a} {b} e f = let g = one f in λ i. e i && g i

pub three : {a b c x y z : Bool} → a ≡ x → b ≡ y → c ≡ z → (a && (b && (c && true))) ≡ (x && y && z)
three {x = x} {y = y} {z = z} e f g = (let h = two f g in λ i. e i && h i) ∙ moved x y z
  where
    moved : (x y z : Bool) → (x && (y && z)) ≡ (x && y && z)
    moved true y z = refl
    moved false y z = refl
