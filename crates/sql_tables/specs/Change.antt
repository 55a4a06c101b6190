-- An UPDATE, a DELETE and an upsert of one table, by the names of its columns: their texts, and what they ask of the
-- engine. A parameter has its number from 0 here, and its name from ?1 in a text.
use Rattle.std.specs.Prelude.{ℕ, zero, suc, pos, List, [], ◌∷◌, ◌++◌, map, codes, if◌then◌else◌}
use Prim.Native.String.{String}
use Rattle.sqlite_sql.specs.declared.ops.ArithOp.TheVariants.{Add}
use Rattle.sqlite_sql.specs.declared.ops.BinaryOp.TheVariants.{Arith}
use Rattle.sqlite_sql.specs.Term.{Term, lit, col, op2}
use Rattle.sqlite_value.specs.declared.value.Value.TheVariants.{Int}
use Rattle.sql_statements.specs.Statements.{column_is, number_is, null_at, at_least, at_most}
use Rattle.sql_tables.specs.Description.{Column, Description, commas, insert_text, is_named, names_text, parameter_names, place}
use Rattle.sql_tables.specs.Question.{all_text}

-- what a column gets: a parameter, a number, or the sum of a parameter and another column
pub data Source : Type 0 where
  parameter : ℕ → Source
  number : ℕ → Source
  sum_with : ℕ → String → Source

-- column = source
pub record Set : Type 0 where
  pub column : String
  pub source : Source

abbrev pub set : String → Source → Set
set column source = record { column = column; source = source }

-- column = ?, column BETWEEN ? AND ?, column = a number, column IS NULL
pub data Pick : Type 0 where
  is : String → ℕ → Pick
  within : String → ℕ → ℕ → Pick
  is_number : String → ℕ → Pick
  is_null : String → Pick

-- ---- texts

abbrev pub nth_text : List (List ℕ) → ℕ → List ℕ
nth_text [] n = []
nth_text (s ∷ ss) zero = s
nth_text (s ∷ ss) (suc n) = nth_text ss n

abbrev pub parameter_name : ℕ → List ℕ
parameter_name = nth_text parameter_names

-- the numbers that stand in texts
abbrev pub digit : ℕ → List ℕ
digit = nth_text (map codes ("0" ∷ "1" ∷ "2" ∷ []))

abbrev pub source_text : Source → List ℕ
source_text (parameter n) = parameter_name n
source_text (number n) = digit n
source_text (sum_with n c) = parameter_name n ++ codes " + " ++ codes c

abbrev pub sets_text : List Set → List ℕ
sets_text sets = commas (map (λ s. codes s.column ++ codes " = " ++ source_text s.source) sets)

abbrev pub pick_text : Pick → List ℕ
pick_text (is c n) = codes c ++ codes " = " ++ parameter_name n
pick_text (within c m n) = codes c ++ codes " BETWEEN " ++ parameter_name m ++ codes " AND " ++ parameter_name n
pick_text (is_number c n) = codes c ++ codes " = " ++ digit n
pick_text (is_null c) = codes c ++ codes " IS NULL"

abbrev pub picks_text : List Pick → List ℕ
picks_text [] = []
picks_text (p ∷ ps) = codes " WHERE " ++ all_text (map pick_text (p ∷ ps))

-- ---- terms

module _ {X : Type 0} (columns : List (Column X)) where
  abbrev pub source_term : Source → Term
  source_term (parameter n) = col 0 n
  source_term (number n) = lit (Int (pos n))
  source_term (sum_with n c) = op2 (Arith Add) (col 0 n) (col 1 (place columns c))

  -- a column that is not set keeps its value
  abbrev pub set_term : List Set → String → Term
  set_term [] name = col 1 (place columns name)
  set_term (s ∷ ss) name = if is_named s.column name then source_term s.source else set_term ss name

  abbrev pub pick_terms : List Pick → List Term
  pick_terms [] = []
  pick_terms (is c n ∷ ps) = column_is (place columns c) n ∷ pick_terms ps
  pick_terms (within c m n ∷ ps) = at_least (place columns c) m ∷ at_most (place columns c) n ∷ pick_terms ps
  pick_terms (is_number c n ∷ ps) = number_is (place columns c) (pos n) ∷ pick_terms ps
  pick_terms (is_null c ∷ ps) = null_at (place columns c) ∷ pick_terms ps

-- ---- statements

-- the rows that pass the tests get these values; a DELETE sets none
pub record Change : Type 0 where
  pub text : List ℕ
  pub tests : List Term
  pub sets : List Term

module _ {X : Type 0} (d : Description X) where
  -- UPDATE the table SET sets WHERE picks
  abbrev pub update : List Set → List Pick → Change
  update sets picks = record {
    text = codes "UPDATE " ++ codes d.name ++ codes " SET " ++ sets_text sets ++ picks_text picks;
    tests = pick_terms d.columns picks;
    sets = map (λ c. set_term d.columns sets c.name) d.columns;
  }

  -- DELETE FROM the table WHERE picks
  abbrev pub delete : List Pick → Change
  delete picks = record { text = codes "DELETE FROM " ++ codes d.name ++ picks_text picks; tests = pick_terms d.columns picks; sets = [] }

  -- INSERT INTO the table VALUES .. ON CONFLICT (its key) DO UPDATE SET sets
  abbrev pub upsert : List Set → Change
  upsert sets = record {
    text = insert_text d ++ codes " ON CONFLICT (" ++ names_text d.key ++ codes ") DO UPDATE SET " ++ sets_text sets;
    tests = [];
    sets = map (λ c. set_term d.columns sets c.name) d.columns;
  }
