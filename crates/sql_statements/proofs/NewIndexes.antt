-- What a CREATE INDEX leaves: the rows of all tables.
use Rattle.std.proofs.Common.{◌≡◌, ℕ, List, [], None, Ok, sym, ap, ◌∙◌, subst}
use Rattle.std.specs.List.{AllByRecursion}
use Rattle.sqlite.specs.Schema.{Schema}
use Rattle.sqlite.specs.Table.{Table}
use Rattle.sqlite_schema.specs.declared.schema.Index.{Index}
use Rattle.sqlite.specs.Command.TheVariants.{CreateIndex}
use Rattle.sqlite.specs.Change.{indexed}
use Rattle.sqlite.specs.Does.{Tally, Does, Defines, MakesIndex}
use Rattle.sqlite.specs.Effect.{Database}
use Rattle.sqlite.specs.State.{State, mode_of, Executes, Writes}
use Rattle.sqlite.proofs.Callers.{runs_as}
use Rattle.sqlite_keyed.proofs.ListLemmas.{all_both}
use Rattle.sql_statements.specs.Definitions.{IsBlank, IsCreateIndex}
use Rattle.sql_statements.proofs.Inserts.{went, same_value}

pub index_made : (schema : Schema) (sql : List ℕ) (at : ℕ) (table : Table) (index : Index) → IsCreateIndex schema sql at table index → (old new : State) (count : ℕ) → old.now.schema ≡ schema
    → Executes sql [] old new (Ok count) → (new.now.schema ≡ indexed schema table index) × AllByRecursion (λ t. new.now.trees t.tree ≡ old.now.trees t.tree) schema.tables
index_made schema sql at table index is old new count has h =
    let w = subst (λ t. Writes old new None (CreateIndex at) t [] count) is.whole (runs_as sql [] old new schema has (CreateIndex at) is.is is.plain count h) in
    let all = subst (λ s. Does old.step_limit (mode_of old) [] (record old.now { schema = s }) sql None (CreateIndex at) (Ok (w.tally, new.now))) has w.changed in
    let here : Defines (mode_of old) (MakesIndex sql (record old.now { schema = schema }) table) (Ok (w.tally, new.now)) = rw (is.listed) at all in
    let both = went here in
    let made = both.1 in
    let same : made.index ≡ index = same_value (sym made.defined ∙ is.defines) in
    let now : new.now ≡ both.0 = ap (λ (p : Tally × Database). p.1) (same_value both.2) in
    (ap (λ (d : Database). d.schema) now ∙ made.is ∙ ap (indexed schema table) same, subst (λ (d : Database). AllByRecursion (λ t. d.trees t.tree ≡ old.now.trees t.tree) schema.tables) (sym now) made.rows)

pub blank_indexed : (schema : Schema) (sql : List ℕ) (at : ℕ) (table : Table) (index : Index) → IsCreateIndex schema sql at table index → (old new : State) (count : ℕ) → IsBlank schema old.now
    → Executes sql [] old new (Ok count) → IsBlank (indexed schema table index) new.now
blank_indexed schema sql at table index is old new count blank h =
    let done = index_made schema sql at table index is old new count blank.schema_is h in
    record { schema_is = done.0; empty = all_both _ (λ t. old.now.trees t.tree ≡ []) (λ t. new.now.trees t.tree ≡ []) (λ t a b. a ∙ b) schema.tables done.1 blank.empty }
