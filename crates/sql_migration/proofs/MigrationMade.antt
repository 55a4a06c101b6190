-- The statements of a migration make its edit, and what that says of the connection.
use Rattle.std.proofs.Common.{◌≡◌, Option, None, Some, ℕ, [], Ok, IsTrue, refl, sym, ap, ◌∙◌, subst, arith}
use Rattle.sqlite.specs.Effect.{Database}
use Rattle.sqlite_trees.specs.Tree.{Trees}
use Rattle.sqlite.specs.State.{State, HasCleanDisk, Survives, Executes}
use Rattle.sqlite.proofs.StateLemmas.{survives_then}
use Rattle.sql_statements.specs.Queries.{Stays}
use Rattle.sql_statements.specs.Layouts.{Holds}
use Rattle.sql_statements.specs.Transactions.{Makes, Commits, Leaves}
use Rattle.desk_book.specs.Book.{Book}
use Rattle.desk_book.specs.Unauthorized.{UnauthorizedBooks}
use Rattle.sql_statements.specs.Promises.{GoesOn}
use Rattle.sql_tables.specs.Schema.{desk_schema}
use Rattle.sql_tables.specs.DeskTables as the
use Rattle.sql_tables.specs.Description.{create_text}
use Rattle.sql_tables.specs.Layout.{desk_layout, Keeps, Sees}
use Rattle.sql_tables.specs.ByName.{IsStored}
use Rattle.sql_tables.specs.Tables.{Tables}
use Rattle.sql_migration.specs.FirstVersion.{first_schema, first_layout, IsFirstStored, KeepsFirst}
use Rattle.sql_migration.specs.Migrated.{migrated}
use Rattle.sql_migration.specs.Migration.{number_entries_edit, Version, First, Second, migration_layout, migration_edit, migrated_version, IsFirst, IsFirstSeen, HasMigrated, seen_layout, if_seen}
use Rattle.sql_migration.specs.MigrationTexts.{update_version}
use Rattle.sql_migration.proofs.AddedTables.{table_added}
use Rattle.sql_migration.proofs.KeptBooks.{book_kept, first_kept}
use Rattle.sql_migration.proofs.NewTables.{creates_numbers, creates_authorizations, numbered_schema, written_numbers, written_authorizations, not_second}
use Rattle.sql_migration.proofs.SecondTables.{second_tables, desk_stays, version_set, schema_stays, with_no_numbers}

pub migration_made : (s0 s1 s2 s3 s4 : State) (a b c : ℕ) → GoesOn s0 s1 → GoesOn s1 s2 → GoesOn s2 s3 → Executes (create_text the.sequences) [] s0 s1 (Ok a) → Executes (create_text the.authorizations) [] s1 s2 (Ok b) → Executes update_version.text [] s2 s3 (Ok c)
    → Makes seen_layout (if_seen number_entries_edit) s3 s4 → Makes migration_layout migration_edit s0 s4
migration_made s0 s1 s2 s3 s4 a b c on1 on2 on3 numbers authorizations version entries inside is_open =
    let last = entries (subst IsTrue (sym on3.mode) refl) on3.is_open in
    record {
      shown = record { was_open = is_open; is_open = last.shown.is_open; now_is = refl; committed_is = last.shown.committed_is ∙ on3.committed_is ∙ on2.committed_is ∙ on1.committed_is; mode = last.shown.mode };
      holds = holds;
    }
  where
    made : (t : Tables) → Holds first_layout s0.now t → Holds desk_layout s4.now (migrated t)
    made t h =
        let n = table_added first_schema (create_text the.sequences) written_numbers creates_numbers s0 s1 a h.0 numbers in
        let m = table_added numbered_schema (create_text the.authorizations) written_authorizations creates_authorizations s1 s2 b n.schema_is authorizations in
        let v = version_set t.desk s2 s3 c m.schema_is (desk_stays t s0.now s1.now s2.now h.1 n m) version in
        let last = entries (subst IsTrue (sym on3.mode) refl) on3.is_open in
        (last.holds (Some (with_no_numbers t)) (second_tables t s0.now s1.now s2.now s3.now h.1 n m v)).0

    -- whatever the rows are
    unread : s0.now.schema ≡ first_schema → s4.now.schema ≡ desk_schema
    unread has =
        let n = table_added first_schema (create_text the.sequences) written_numbers creates_numbers s0 s1 a has numbers in
        let m = table_added numbered_schema (create_text the.authorizations) written_authorizations creates_authorizations s1 s2 b n.schema_is authorizations in
        let last = entries (subst IsTrue (sym on3.mode) refl) on3.is_open in
        (last.holds None (schema_stays s2 s3 c m.schema_is version, tt)).0.0

    holds : (v : Version) → Holds migration_layout s0.now v → Holds migration_layout s4.now (migrated_version v) × IsFirst v
    holds (First None) h = ((unread h.0, tt), tt)
    holds (First (Some t)) h = (made t h, tt)
    holds (Second o) h = absurd (not_second s0 s1 a numbers h.0)

-- ---- after the check of the tables

module _ (old mid new : State) (settled : IsTrue old.is_open → old.now ≡ old.committed) (stays : HasCleanDisk mid → Stays old mid) (schema : mid.now.schema ≡ first_schema) where
  -- what was seen is what the transaction begins with
  began : HasCleanDisk mid → IsTrue mid.is_open → (o : Option Tables) → IsFirstSeen old.now.trees o → Holds migration_layout mid.now (First o)
  began clean is_open o h = (schema, subst (λ (d : Database). IsFirstSeen d.trees o) (sym (stays clean is_open).1) h)

  -- and so is what was committed
  kept_first : HasCleanDisk mid → IsTrue mid.is_open → (b : Book) (k : KeepsFirst old.committed.trees b) → Holds migration_layout mid.now (First (Some k.0))
  kept_first clean is_open b k = began clean is_open (Some k.0) (subst (λ (d : Database). IsFirstStored d.trees k.0) (sym (settled (stays clean is_open).0)) k.1)

  pub has_migrated : UnauthorizedBooks → HasCleanDisk mid → Commits migration_layout migration_edit mid new → HasMigrated old new
  has_migrated law clean done =
      let first = λ (b : Book) (k : KeepsFirst old.committed.trees b). (done.holds (First (Some k.0)) (kept_first clean done.was_open b k)).0 in
      let sees : (b : Book) → KeepsFirst old.committed.trees b → Sees new b = λ b k _. (migrated k.0, first b k, book_kept k.0 b k.2) in
      let keeps : (b : Book) → KeepsFirst old.committed.trees b → (trees : Trees) → new.may_leave trees → Keeps trees b =
      λ b k trees left. (migrated k.0, subst (λ d. IsStored d (migrated k.0)) (sym (done.left trees left)) (first b k).1, book_kept k.0 b k.2) in
      record {
        was_open = (stays clean done.was_open).0;
        is_open = done.is_open;
        was_first = ap (λ (d : Database). d.schema) (sym (stays clean done.was_open).1) ∙ schema;
        is_second = (done.holds (First None) (began clean done.was_open None tt)).0.0;
        tables = λ t h. (done.holds (First (Some t)) (began clean done.was_open (Some t) h)).0.1;
        sees = sees;
        committed = done.committed;
        left = done.left;
        keeps = keeps;
        stands = λ identity key H stood.
            let kept = first_kept law old.committed.trees identity key H stood.book in
            record { history = stood.history; sees = sees _ kept; keeps = keeps _ kept };
      }

  -- once the commit has begun a crash may leave version 2's tables
  pub left_migrated : Survives old mid (λ _. ⊥) → Survives mid new (Leaves migration_layout migration_edit mid) → Survives old new (λ trees. (b : Book) → KeepsFirst old.committed.trees b → Keeps trees b)
  left_migrated checked survives =
      survives_then old mid new (λ _. ⊥) (Leaves migration_layout migration_edit mid) (λ trees. (b : Book) → KeepsFirst old.committed.trees b → Keeps trees b)
      (λ _ trees none. absurd none)
      (λ clean trees left b k.
      let before : HasCleanDisk mid = omega (arith, survives.clean, clean) in
      (migrated k.0, (left.1 (First (Some k.0)) (kept_first before left.0 b k)).0, book_kept k.0 b k.2))
      checked survives
