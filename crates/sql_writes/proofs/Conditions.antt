-- What the tests of WHERE say of the values of columns, and what tests of keys tell.
use Rattle.std.proofs.Common.{◌≡◌, ℕ, pos, Bool, true, false, not, ◌&&◌, ◌==◌, is_none, bytes_eq, List, Option, Some, None, refl, ◌∙◌, Ordering, Less, Equal, Greater, is_eq, int_cmp, arith, rules}
use Rattle.std.proofs.lemmas.Bool.{eqb-true}
use Rattle.std.proofs.lemmas.Int.{ints}
use Rattle.std.specs.Ordering.{nat_cmp, ordering_then}
use Rattle.sqlite.specs.Values.{or_null}
use Rattle.sqlite_value.specs.declared.value.Value.TheVariants.{Null}
use Rattle.sqlite_value.specs.declared.keys.Collation.TheVariants.{Binary}
use Rattle.sqlite_sql.specs.declared.ops.BinaryOp.TheVariants.{Compare, Is}
use Rattle.sqlite_sql.specs.declared.ops.CompareOp.TheVariants.{Eq}
use Rattle.sqlite_sql.specs.Ops.{binary, is_true}
use Rattle.sql_statements.proofs.Conditions.{int_is, null_is}
use Rattle.sql_tables.specs.Columns.{number, flag}

pub number_is : (a b : ℕ) → is_true (binary (Compare Eq Binary) (number a) (number b)) ≡ (a == b)
number_is a b = int_is (pos a) (pos b) ∙ same a b
  where
    same : (a b : ℕ) → is_eq (int_cmp (pos a) (pos b)) ≡ (a == b)
    same a b = grind (arith, ints)

pub unset_is : (o : Option ℕ) → is_true (binary (Is Binary) (or_null number o) Null) ≡ is_none o
unset_is None = null_is Null
unset_is (Some n) = null_is (number n)

pub unflagged_is : (b : Bool) → is_true (binary (Compare Eq Binary) (flag b) (number 0)) ≡ not b
unflagged_is true = number_is 1 0
unflagged_is false = number_is 0 0

-- ---- tests of keys

pub same_text : (a b : List ℕ) → bytes_eq a b ≡ true → a ≡ b
same_text a b h = search rules

pub same_number : (a b : ℕ) → (a == b) ≡ true → a ≡ b
same_number a b h = eqb-true a b h

pub text_itself : (a : List ℕ) → bytes_eq a a ≡ true
text_itself a = search rules

pub number_itself : (a : ℕ) → (a == a) ≡ true
number_itself a = search rules

pub equal_numbers : (a b : ℕ) → is_eq (nat_cmp a b) ≡ (a == b)
equal_numbers a b = grind (arith, ints)

pub equal_both : (o p : Ordering) → is_eq (ordering_then o p) ≡ (is_eq o && is_eq p)
equal_both Less p = refl
equal_both Equal p = refl
equal_both Greater p = refl

-- a key that is taken does not pass the rules of its table
pub taken_first : (a b : Bool) → a ≡ true → (not a && b) ≡ false
taken_first true b e = refl
taken_first false b e = cc

pub taken_second : (a b c : Bool) → b ≡ true → (a && (not b && c)) ≡ false
taken_second true true c e = refl
taken_second false true c e = refl
taken_second a false c e = cc
