-- A query of one table, by the names of its columns: its text, and what it asks of the engine.
use Rattle.std.specs.Prelude.{ℕ, ◌+◌, ℤ, pos, negsuc, List, [], ◌∷◌, ◌++◌, map, codes}
use Prim.Native.String.{String}
use Rattle.sqlite_sql.specs.Query.{Query}
use Rattle.sqlite_sql.specs.Term.{Term, col}
use Rattle.sqlite_value.specs.declared.keys.Key.{Key}
use Rattle.sql_statements.specs.SelectTexts.{IsSelectText}
use Rattle.sql_statements.specs.Statements.{IsSelect, query_within, sum_query, column_is, number_is, at_least, at_most, by, falling}
use Rattle.sql_tables.specs.Description.{Column, Description, commas, names_text, parameter_names, place}
use Rattle.sql_tables.specs.Schema.{desk_schema}

pub record Question : Type 0 where
  pub text : List ℕ
  pub query : Query

-- whatever the schema is, the text only reads; in a desk's it asks this
pub record IsQuestion (q : Question) : Type 0 where
  pub selects : IsSelectText q.text
  pub asks : IsSelect desk_schema q.text q.query

-- column = ?, column >= ?, column <= ?, column = 1
pub data Test : Type 0 where
  is : String → Test
  from : String → Test
  up_to : String → Test
  is_one : String → Test

-- ORDER BY column, ORDER BY column DESC
pub data Way : Type 0 where
  rises : String → Way
  falls : String → Way

-- a test that has a parameter takes the next one
abbrev pub tests_text : List Test → (parameters : List (List ℕ)) → List (List ℕ)
tests_text [] ps = []
tests_text (is_one c ∷ ts) ps = (codes c ++ codes " = 1") ∷ tests_text ts ps
tests_text (t ∷ ts) [] = []
tests_text (is c ∷ ts) (p ∷ ps) = (codes c ++ codes " = " ++ p) ∷ tests_text ts ps
tests_text (from c ∷ ts) (p ∷ ps) = (codes c ++ codes " >= " ++ p) ∷ tests_text ts ps
tests_text (up_to c ∷ ts) (p ∷ ps) = (codes c ++ codes " <= " ++ p) ∷ tests_text ts ps

abbrev pub all_text : List (List ℕ) → List ℕ
all_text [] = []
all_text (s ∷ []) = s
all_text (s ∷ t ∷ ss) = s ++ codes " AND " ++ all_text (t ∷ ss)

abbrev pub where_text : List Test → List ℕ
where_text [] = []
where_text (t ∷ ts) = codes " WHERE " ++ all_text (tests_text (t ∷ ts) parameter_names)

abbrev pub way_text : Way → List ℕ
way_text (rises c) = codes c
way_text (falls c) = codes c ++ codes " DESC"

module _ {X : Type 0} (columns : List (Column X)) where
  abbrev pub test_terms : (parameter : ℕ) → List Test → List Term
  test_terms at [] = []
  test_terms at (is_one c ∷ ts) = number_is (place columns c) (pos 1) ∷ test_terms at ts
  test_terms at (is c ∷ ts) = column_is (place columns c) at ∷ test_terms (at + 1) ts
  test_terms at (from c ∷ ts) = at_least (place columns c) at ∷ test_terms (at + 1) ts
  test_terms at (up_to c ∷ ts) = at_most (place columns c) at ∷ test_terms (at + 1) ts

  abbrev pub way_term : Way → Term × Key
  way_term (rises c) = by (place columns c)
  way_term (falls c) = falling (place columns c)

module _ {X : Type 0} (d : Description X) where
  abbrev pub ask_within : ℤ → (limit : List ℕ) → (shown : List String) → List Test → List Way → Question
  ask_within many limit shown tests order = record {
    text = codes "SELECT " ++ names_text shown ++ codes " FROM " ++ codes d.name ++ where_text tests ++ codes " ORDER BY " ++ commas (map way_text order) ++ limit;
    query = query_within many d.tree (test_terms d.columns 0 tests) (map (λ name. col 1 (place d.columns name)) shown) (map (way_term d.columns) order);
  }

  -- SELECT shown FROM the table WHERE tests ORDER BY order
  abbrev pub ask : (shown : List String) → List Test → List Way → Question
  ask = ask_within (negsuc 0) []

  -- SELECT shown FROM the table WHERE tests ORDER BY order LIMIT 1
  abbrev pub ask_first : (shown : List String) → List Test → List Way → Question
  ask_first = ask_within (pos 1) (codes " LIMIT 1")

  -- the number of the last row of a table whose rows are numbered
  abbrev pub last_row : Question
  last_row = ask_first ("no" ∷ []) [] (falls "no" ∷ [])

  -- SELECT coalesce(sum(column), 0) FROM the table WHERE tests
  abbrev pub ask_sum : String → List Test → Question
  ask_sum column tests = record {
    text = codes "SELECT coalesce(sum(" ++ codes column ++ codes "), 0) FROM " ++ codes d.name ++ where_text tests;
    query = sum_query d.tree (test_terms d.columns 0 tests) (place d.columns column);
  }
