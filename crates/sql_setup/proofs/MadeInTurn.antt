-- One more statement of a list of definitions makes one more table or index.
use Rattle.std.proofs.Common.{◌≡◌, ◌<◌, ◌+◌, ℕ, zero, suc, List, [], ◌∷◌, map, take, length, slice_index_or, Ok, Bor, refl, arith, subst}
use Rattle.std.specs.Prelude.{fold}
use Rattle.sqlite.specs.Schema.{Schema}
use Rattle.sqlite.specs.State.{State, Executes}
use Rattle.sql_statements.proofs.NewTables.{blank_created}
use Rattle.sql_statements.proofs.NewIndexes.{blank_indexed}
use Rattle.sql_statements.specs.Definitions.{IsBlank}
use Rattle.sql_tables.specs.Schema.{Definition, NewTable, NewIndex, text_of, with_definition}
use Rattle.sql_setup.specs.Creation.{IsMadeIn, AreMadeIn}

-- the schema after so many of them
abbrev pub schema_after : Schema → ℕ → List Definition → Schema
schema_after schema n ds = fold with_definition schema (take n ds)

one_made : (schema : Schema) (d : Definition) (old new : State) (count : ℕ) → IsMadeIn schema d → IsBlank schema old.now → Executes (text_of d) [] old new (Ok count) → IsBlank (with_definition schema d) new.now
one_made schema (NewTable text table) old new count is blank ran = blank_created schema text (record table { tree = 0 }) is old new count blank ran
one_made schema (NewIndex text at table index) old new count is blank ran = blank_indexed schema text at table index is old new count blank ran

next_made : (schema : Schema) (ds : List Definition) (i : ℕ) (old new : State) (count : ℕ) → AreMadeIn schema ds → i < length ds → IsBlank (schema_after schema i ds) old.now → Executes (slice_index_or (map text_of ds) i []) [] old new (Ok count) → IsBlank (schema_after schema (suc i) ds) new.now
next_made schema [] i old new count all lt blank ran = absurd (omega (arith, lt))
next_made schema (d ∷ ds) zero old new count all lt blank ran = one_made schema d old new count all.0 blank ran
next_made schema (d ∷ ds) (suc i) old new count all lt blank ran = next_made (with_definition schema d) ds i old new count all.1 (omega (arith, lt)) blank ran

pub more_made : (schema : Schema) (ds : List Definition) (i : ℕ) (old new : State) (count : ℕ) → AreMadeIn schema ds → i < length ds → IsBlank (schema_after schema i ds) old.now → Executes (slice_index_or (map text_of ds) i []) [] old new (Ok count) → IsBlank (schema_after schema (i + 1) ds) new.now
more_made schema ds i old new count all lt blank ran =
    let on : suc i ≡ i + 1 = omega arith in subst (λ n. IsBlank (schema_after schema n ds) new.now) on (next_made schema ds i old new count all lt blank ran)

-- the text of a reference
pub text_at : (xs : List (Bor (List ℕ))) (i : ℕ) (d : Bor (List ℕ)) → d.now ≡ [] → (slice_index_or xs i d).now ≡ slice_index_or (map (λ s. s.now) xs) i []
text_at [] i d is = is
text_at (x ∷ xs) zero d is = refl
text_at (x ∷ xs) (suc i) d is = text_at xs i d is
