-- The history that version 1's tables stand for, and version 2's after them. A desk of version 1 didn't read the key
-- `authorized` of a retry, so its answers are those to the messages without it.
use Rattle.std.specs.Prelude.{ℕ, List}
use Rattle.sqlite_trees.specs.Tree.{Trees}
use Rattle.sqlite.specs.State.{State}
use Rattle.desk_history.specs.declared.identity.Identity.{Identity}
use Rattle.desk_history.specs.Authorizations.{without_authorizations}
use Rattle.desk_history.specs.Message.{Pair}
use Rattle.desk_history.specs.Operator.{IsHistory}
use Rattle.desk_book.specs.Book.{book_of}
use Rattle.sql_tables.specs.Layout.{Keeps, Sees}
use Rattle.sql_migration.specs.FirstVersion.{HasFirstTables}

-- Without the key a history's answers are those of the definitions, and version 1's tables are those of its book. That
-- no retry in it was authorized again needn't be said of the tables: no such history has one.
pub record FirstStandsFor (trees : Trees) (identity : Identity) (key : List ℕ) (H : List Pair) : Type 0 where
  pub history : IsHistory identity (without_authorizations H)
  pub book : HasFirstTables trees (book_of identity key (without_authorizations H))

-- the connection sees the book of the history without the key, and a crash leaves what keeps it
pub record StandsForFirst (new : State) (identity : Identity) (key : List ℕ) (H : List Pair) : Type 0 where
  pub history : IsHistory identity (without_authorizations H)
  pub sees : Sees new (book_of identity key (without_authorizations H))
  pub keeps : (trees : Trees) → new.may_leave trees → Keeps trees (book_of identity key (without_authorizations H))
