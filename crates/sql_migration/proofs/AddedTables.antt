-- What a CREATE TABLE leaves of tables that have rows.
use Rattle.std.proofs.Common.{◌≡◌, ℕ, List, [], None, Ok, sym, ap, ◌∙◌, subst, false}
use Rattle.std.specs.List.{AllByRecursion}
use Rattle.sqlite.specs.Schema.{Schema}
use Rattle.sqlite.specs.Table.{Table}
use Rattle.sqlite.specs.Command.TheVariants.{CreateTable}
use Rattle.sqlite.specs.Change.{created, next_tree}
use Rattle.sqlite.specs.Does.{Tally, lacks_sequence}
use Rattle.sqlite.specs.Effect.{Database}
use Rattle.sqlite.specs.State.{State, Executes, Writes}
use Rattle.sqlite.proofs.Callers.{runs_as}
use Rattle.sql_statements.specs.Definitions.{IsCreate}
use Rattle.sql_statements.proofs.Inserts.{went, same_value}

-- the table is there and has no rows, and each table that was there has its rows
pub record Adds (schema : Schema) (table : Table) (old new : Database) : Type 0 where
  pub schema_is : new.schema ≡ created schema table
  pub others : AllByRecursion (λ t. new.trees t.tree ≡ old.trees t.tree) schema.tables
  pub empty : new.trees (next_tree schema) ≡ []

pub table_added : (schema : Schema) (sql : List ℕ) (table : Table) → IsCreate schema sql table → (old new : State) (count : ℕ) → old.now.schema ≡ schema → Executes sql [] old new (Ok count) → Adds schema table old.now new.now
table_added schema sql table is old new count has h =
    let w = subst (λ t. Writes old new None CreateTable t [] count) is.whole (runs_as sql [] old new schema has CreateTable is.is is.plain count h) in
    let all = went w.changed in
    let first = went all.1 in
    let made = first.1 in
    let same : made.table ≡ table = same_value (sym made.defined ∙ is.defines) in
    let after : first.0.schema ≡ created schema table = made.is ∙ ap (λ s. created s made.table) has ∙ ap (created schema) same in
    let plain : lacks_sequence first.0.schema ≡ false = ap lacks_sequence after ∙ is.uncounted in
    let now : new.now ≡ first.0 = ap (λ (p : Tally × Database). p.1) (same_value all.2) ∙ same_value (rw plain at first.2) in
    let kept = subst (λ (s : Schema). AllByRecursion (λ t. first.0.trees t.tree ≡ old.now.trees t.tree) s.tables) has made.others in
    let none : first.0.trees (next_tree schema) ≡ [] = subst (λ s. first.0.trees (next_tree s) ≡ []) has made.empty in
    record {
      schema_is = ap (λ (d : Database). d.schema) now ∙ after;
      others = subst (λ (d : Database). AllByRecursion (λ t. d.trees t.tree ≡ old.now.trees t.tree) schema.tables) (sym now) kept;
      empty = ap (λ (d : Database). d.trees (next_tree schema)) now ∙ none;
    }
