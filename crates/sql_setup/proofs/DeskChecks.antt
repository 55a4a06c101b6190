-- What a connection is known to have once its version and its schema are tested.
use Rattle.std.proofs.Common.{◌≡◌, ℕ, pos, false, Result, Ok, Err, IfErr, inr, sym, ap, ◌∙◌, subst, IsTrue}
use Rattle.std.specs.Prelude.{OnOk}
use Rattle.sqlite_schema.specs.declared.schema.Schema.{Schema}
use Rattle.sqlite_trees.specs.declared.store.Store.{Ghosts}
use Rattle.sqlite.specs.Held.{Held, state}
use Rattle.sqlite.specs.Effect.{Database}
use Rattle.sqlite.specs.State.{State, HasCleanDisk}
use Rattle.sql_tables.specs.Schema.{desk_schema}
use Rattle.sql_tables.specs.DeskTables.{version}
use Rattle.sql_tables.specs.ByName.{IsStored}
use Rattle.sql_setup.specs.Checked.{IsDesk, TellsSchema}
use Rattle.sql_setup.specs.Refusals.{IsRefused, schema_of_version}
use Rattle.sql_setup.specs.Versions.{ShowsVersion}
use Rattle.sql_setup.proofs.Refused.{refused, says_shown}
use Rattle.sql_setup.proofs.VersionShown.{shown_unchanged}
use Rattle.sql_setup.specs.declared.fault.DeskFault.{DeskFault}
use Rattle.sql_setup.specs.declared.fault.DeskFault.TheVariants.{Told, Failed}
use Rattle.sql_setup.specs.declared.fault.OpenFault.TheVariants.{NotADesk, WrongVersion, Unavailable, Exists}

pub is_desk : (old new : State) → old.in_transaction ≡ false → (IsTrue old.is_open → old.now ≡ old.committed) → ShowsVersion old new (pos version) × (new.now.schema ≡ desk_schema) → IsDesk old new
is_desk old new autocommit settled found =
    let same = shown_unchanged old new (pos version) found.0 in
    let now : new.now ≡ old.committed = same.0.now_is ∙ settled same.0.was_open in
    record {
      unchanged = same;
      autocommit = same.0.mode ∙ autocommit;
      settled = now ∙ sym same.0.committed_is;
      schema = found.1;
      version = found.0;
      tables = λ t stored. (found.1, subst (λ (d : Database). IsStored d.trees t) (sym now) stored);
      sees = λ b kept _. (kept.0, (found.1, subst (λ (d : Database). IsStored d.trees kept.0) (sym now) kept.1), kept.2);
    }

module _ {X A : Type 0} (g : Ghosts X) (was left : Held X) (schema : Schema) (is : schema ≡ (state g left).now.schema) where
  -- the version was that of a desk's tables, and then their schema was compared
  pub desk_checked : (state g was).in_transaction ≡ false → (IsTrue (state g was).is_open → (state g was).now ≡ (state g was).committed) → (result : Result A DeskFault)
      → ShowsVersion (state g was) (state g left) (pos version) → TellsSchema desk_schema schema result → OnOk result (IsDesk (state g was) (state g left))
  desk_checked autocommit settled (Ok done) shown told = is_desk (state g was) (state g left) autocommit settled (shown, sym is ∙ told)
  desk_checked autocommit settled (Err why) shown told = tt

  -- The row said the version that was wanted, so the schema is another, or memory ran out.
  pub refused_by_schema : (wanted : ℕ) → (HasCleanDisk (state g left) → ShowsVersion (state g was) (state g left) (pos wanted)) → (result : Result A DeskFault)
      → TellsSchema (schema_of_version wanted) schema result → IfErr result (IsRefused g wanted was left)
  refused_by_schema wanted shown (Ok done) told = tt
  refused_by_schema wanted shown (Err (Told Unavailable)) told = refused g wanted was left (Told Unavailable) (λ clean.
      let same = shown_unchanged (state g was) (state g left) (pos wanted) (shown clean) in
      inr (inr (says_shown g was left (pos wanted) (shown clean), λ of_a_desk. told (is ∙ ap (λ (d : Database). d.schema) same.0.now_is ∙ of_a_desk))))
  refused_by_schema wanted shown (Err (Told NotADesk)) told = absurd told
  refused_by_schema wanted shown (Err (Told (WrongVersion n))) told = absurd told
  refused_by_schema wanted shown (Err (Told Exists)) told = absurd told
  refused_by_schema wanted shown (Err (Failed error)) told = refused g wanted was left (Failed error) (λ clean. inr (says_shown g was left (pos wanted) (shown clean)))
