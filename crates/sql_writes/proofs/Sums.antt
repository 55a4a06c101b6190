-- A number of a run's row, and what an UPDATE adds to it.
use Rattle.std.proofs.Common.{◌≡◌, ◌<◌, ◌≤◌, ◌+◌, ◌-◌, ◌+ℤ◌, ◌-ℤ◌, ◌^◌, ℕ, pos, true, cond, Some, None, ap, ◌∙◌, arith, is_ge, is_le, int_cmp}
use Rattle.std.proofs.lemmas.Int.{ints}
use Rattle.sqlite_sql.specs.Ops.{binary, fits_i64, int_or, real_arith, from_int}
use Rattle.sqlite_sql.specs.declared.ops.BinaryOp.TheVariants.{Arith}
use Rattle.sqlite_sql.specs.declared.ops.ArithOp.TheVariants.{Add}
use Rattle.sqlite_value.specs.declared.value.Value.TheVariants.{Int}
use Rattle.sql_tables.specs.Columns.{number}

pub least : (a b : ℕ) → is_ge (int_cmp (pos a) (pos b)) ≡ true → b ≤ a
least a b e = grind (arith, ints, e)

pub most : (a b : ℕ) → is_le (int_cmp (pos a) (pos b)) ≡ true → a ≤ b
most a b e = grind (arith, ints, e)

-- what makes the first row's number of its key makes each row's, where that fits
pub sum_is : (n from k : ℕ) → from ≤ k → n + (k - from) < 2 ^ 63 → binary (Arith Add) (Int (pos n -ℤ pos from)) (number k) ≡ number (n + (k - from))
unfolding binary
sum_is n from k low room =
    ap (λ z. int_or (cond (fits_i64 z) (Some z) None) (real_arith Add (from_int (pos n -ℤ pos from)) (from_int (pos k)))) sum
    ∙ ap (λ b. int_or (cond b (Some (pos (n + (k - from)))) None) (real_arith Add (from_int (pos n -ℤ pos from)) (from_int (pos k)))) fits
  where
    sum : (pos n -ℤ pos from) +ℤ pos k ≡ pos (n + (k - from))
    sum = grind (arith, ints, low)

    fits : fits_i64 (pos (n + (k - from))) ≡ true
    fits = grind (arith, ints, room)
