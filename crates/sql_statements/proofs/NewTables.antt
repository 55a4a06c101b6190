-- What a CREATE TABLE leaves.
use Rattle.std.proofs.Common.{◌≡◌, ℕ, List, [], None, Ok, sym, ap, ◌∙◌, subst, false}
use Rattle.std.specs.List.{AllByRecursion}
use Rattle.sqlite.specs.Schema.{Schema}
use Rattle.sqlite.specs.Table.{Table}
use Rattle.sqlite.specs.Command.TheVariants.{CreateTable}
use Rattle.sqlite.specs.Change.{created, next_tree}
use Rattle.sqlite.specs.Does.{Tally, lacks_sequence}
use Rattle.sqlite.specs.Effect.{Database}
use Rattle.sqlite.specs.State.{State, Executes, Writes}
use Rattle.sqlite.proofs.Callers.{runs_as}
use Rattle.sqlite_keyed.proofs.ListLemmas.{all-append, all_both}
use Rattle.sql_statements.specs.Definitions.{IsBlank, IsCreate}
use Rattle.sql_statements.proofs.Inserts.{went, same_value}

pub blank_created : (schema : Schema) (sql : List ℕ) (table : Table) → IsCreate schema sql table → (old new : State) (count : ℕ) → IsBlank schema old.now → Executes sql [] old new (Ok count) → IsBlank (created schema table) new.now
blank_created schema sql table is old new count blank h =
    let w = subst (λ t. Writes old new None CreateTable t [] count) is.whole (runs_as sql [] old new schema blank.schema_is CreateTable is.is is.plain count h) in
    let all = went w.changed in
    let first = went all.1 in
    let made = first.1 in
    let same : made.table ≡ table = same_value (sym made.defined ∙ is.defines) in
    let after : first.0.schema ≡ created schema table = made.is ∙ ap (λ s. created s made.table) blank.schema_is ∙ ap (created schema) same in
    let plain : lacks_sequence first.0.schema ≡ false = ap lacks_sequence after ∙ is.uncounted in
    let now : new.now ≡ first.0 = ap (λ (p : Tally × Database). p.1) (same_value all.2) ∙ same_value (rw plain at first.2) in
    let kept = subst (λ (s : Schema). AllByRecursion (λ t. first.0.trees t.tree ≡ old.now.trees t.tree) s.tables) blank.schema_is made.others in
    let olds = all_both _ (λ t. old.now.trees t.tree ≡ []) (λ t. first.0.trees t.tree ≡ []) (λ t a b. a ∙ b) schema.tables kept blank.empty in
    let new_is : first.0.trees (next_tree schema) ≡ [] = subst (λ s. first.0.trees (next_tree s) ≡ []) blank.schema_is made.empty in
    record {
      schema_is = ap (λ (d : Database). d.schema) now ∙ after;
      empty = subst (λ (d : Database). AllByRecursion (λ t. d.trees t.tree ≡ []) (created schema table).tables) (sym now) (all-append (λ t. first.0.trees t.tree ≡ []) schema.tables _ olds (new_is, tt));
    }
