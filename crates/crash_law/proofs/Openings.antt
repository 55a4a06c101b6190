-- New, adopted and migrated desks begin as the laws of crashes require.
use Rattle.std.proofs.Common.{◌≡◌, ◌∙◌, refl, sym, ap, subst, inl, ℕ, List, [], IsTrue}
use Rattle.std.proofs.Math.Logic.{∥∥₁_map}
use Rattle.sqlite_disk.specs.declared.Disk as disk
use Rattle.sqlite_trees.specs.Tree.{Trees}
use Rattle.sqlite_trees.specs.declared.store.Store.{Ghosts}
use Rattle.sqlite.specs.Effect.{Database}
use Rattle.sqlite.specs.Files.{over_files, file_state}
use Rattle.sqlite.specs.Held.{state}
use Rattle.sqlite.proofs.Theorems.{next_run}
use Rattle.desk_history.specs.Message as core
use Rattle.desk_book.specs.Book.{book_of}
use Rattle.desk_history.specs.Authorizations.{without_authorizations}
use Rattle.desk_history.specs.Operator.{IsHistory}
use Rattle.http_history.specs.History.{calls_of}
use Rattle.http_history.specs.Laws.{CallsAreHistory, FirstCalls, IsSpelled}
use Rattle.http_history.specs.Versions.{Present}
use Rattle.http_history.proofs.Calls.{calls_of-none}
use Rattle.sql_tables.specs.Layout.{Keeps, Sees}
use Rattle.sql_migration.specs.FirstHistory.{FirstStandsFor}
use Rattle.sql_migration.specs.FirstVersion.{HasFirstTables}
use Rattle.sql_migration.specs.Migration.{HasMigrated}
use Rattle.sqlite.specs.State.{State}
use Rattle.crash_law.specs.Crashes.{IsFirstHistory, StandsAfterCrash}
use Rattle.desk_http.specs.Keeping.{new_history, DeskHistory, StandsBehind, book_after}
use Rattle.remembering_store.specs.Laws.{NumberedBooks}
use Rattle.crash_law.specs.Openings.{holds, keeps, may_leave, StandsMigrated, FirstOverBytes, InMemory, Tables, InFiles, FilesSurvive}

module _ (first : FirstCalls) (are : CallsAreHistory) where
  -- without the key the calls are those of the history over bytes
  same_calls : (h : DeskHistory) (G : List core.Pair) → IsFirstHistory h → IsSpelled h.identity h.key h.pairs G → calls_of h.identity h.pairs ≡ without_authorizations G
  same_calls h G is spelled = first.calls h.identity h.key h.pairs G is.history is.first spelled

  over_bytes : (trees : Trees) (h : DeskHistory) (G : List core.Pair) → IsFirstHistory h → IsSpelled h.identity h.key h.pairs G → FirstStandsFor trees h.identity h.key G → HasFirstTables trees (book_after h)
  over_bytes trees h G is spelled stands = subst (λ (K : List core.Pair). HasFirstTables trees (book_of h.identity h.key K)) (sym (same_calls h G is spelled)) stands.book

  over_calls : (trees : Trees) (h : DeskHistory) (G : List core.Pair) → IsFirstHistory h → IsSpelled h.identity h.key h.pairs G → HasFirstTables trees (book_after h) → FirstStandsFor trees h.identity h.key G
  over_calls trees h G is spelled has =
      let same = same_calls h G is spelled in
      record {
        history = subst (IsHistory h.identity) same (are h.identity h.pairs);
        book = subst (λ (K : List core.Pair). HasFirstTables trees (book_of h.identity h.key K)) same has;
      }

  migrated : (old new : State) (h : DeskHistory) → HasMigrated old new → IsFirstHistory h → HasFirstTables old.committed.trees (book_after h) → StandsMigrated new h
  migrated old new h desk is has =
      let spelled = first.spelled h.identity h.key h.pairs is.history is.first in
      let stands = desk.stands h.identity h.key spelled.0 (over_calls old.committed.trees h spelled.0 is spelled.1 has) in
      let same = sym (same_calls h spelled.0 is spelled.1) in
      record {
        sees = record { history = is.history; book = subst (λ (K : List core.Pair). Sees new (book_of h.identity h.key K)) same stands.sees };
        keeps = λ trees leaves. record { history = is.history; book = subst (λ (K : List core.Pair). Keeps trees (book_of h.identity h.key K)) same (stands.keeps trees leaves) };
      }

  pub first_over_bytes : {T : Type 0} (g : Ghosts T) → FirstOverBytes g
  first_over_bytes g = record { bytes = over_bytes; calls = over_calls; migrated = λ was now h desk is has. migrated (state g was) (state g now) h desk is has }

pub in_memory : InMemory
unfolding calls_of
in_memory identity key s held = record {
  stands = record { history = tt; book = held };
  left = λ k leaves. (new_history identity key, inl refl, leaves ∙ sym held.book);
}

module _ {T : Type 0} (g : Ghosts T) (numbered : NumberedBooks) (over : FirstOverBytes g) (committed : (s : T) (db : Trees) → IsTrue (g.view s).is_open → g.recovers s db → db ≡ (g.view s).committed) where
  pub in_tables : Tables g
  in_tables = record {
    made = λ identity key was s desk begins.
        let none = sym (calls_of-none identity) in
        let calls = calls_of identity [] in
        record {
          stands = record {
            history = tt;
            book = record {
              held = subst (λ (G : List core.Pair). Sees (state g s.store.conn) (book_of identity key G)) none desk.sees;
              numbered = numbered identity key calls;
              known = begins (book_of identity key calls);
            };
          };
          left = λ k left. (
            new_history identity key,
            inl refl,
            (subst (λ (G : List core.Pair). Keeps k (book_of identity key G)) none (desk.keeps k left), numbered identity key calls),
          );
        };
    adopted = λ was s desk begins version h kept.
        let b = book_after h in record {
          stands = record {
            history = kept.history;
            book = record { held = desk.sees b kept.book.0; numbered = kept.book.1; known = begins b };
          };
          left = λ k left. (
            h,
            inl refl,
            subst (λ (trees : Trees). keeps trees b) (sym (committed s.store.conn.store k desk.unchanged.0.is_open left ∙ ap (λ (d : Database). d.trees) desk.unchanged.0.committed_is)) kept.book,
          );
        };
    migrated = λ was s desk begins h is has.
        let moved = over.migrated was s.store.conn h desk is has in
        let order = numbered h.identity h.key (calls_of h.identity h.pairs) in record {
          stands = record {
            history = is.history;
            book = record { held = moved.sees.book; numbered = order; known = begins (book_after h) };
          };
          left = λ k left. (h, inl refl, ((moved.keeps k left).book, order));
        };
  }

module _ {D : Type 0} (g : disk.Ghosts D) (tables : Tables (over_files {g = g})) where
  pub in_files : InFiles g
  in_files = record {
    made = λ held identity key s made begins. tables.made identity key made.was s made.desk begins;
    found = λ held k s found begins is_held.
        let same = found.opened.found.holds k is_held in
        λ version h kept. tables.adopted found.was s found.desk begins version h (subst (λ (trees : Trees). StandsBehind (keeps trees) h) (sym same) kept);
    migrated = λ held k s moved begins is_held.
        let same = moved.opened.found.holds k is_held in
        λ h is has. tables.migrated moved.was s moved.desk begins h is (subst (λ (trees : Trees). HasFirstTables trees (book_after h)) (sym same) has);
  }

  pub files_survive : StandsAfterCrash (holds (over_files {g = g})) keeps (may_leave over_files) → FilesSurvive g
  files_survive law h start end now xs held settled takes sound left found begins =
      ∥∥₁_map (next_run end.store.conn.store sound.numbered sound.databases held left (file_state found.was) found.opened.found) (λ recovers.
      law Present h start end now xs (file_state found.was).committed.trees settled takes recovers (tables.adopted found.was now found.desk begins))
