-- What reads find of the tables of a database.
use Rattle.std.specs.Prelude.{IsTrue}
use Rattle.sqlite.specs.State.{State}
use Rattle.sql_statements.specs.Layouts.{Layout, Holds}

-- the connection was open, and this is so of the tables that it saw
pub record Finds (layout : Layout) (Tells : layout.Tables → Type 0) (s : State) : Type 0 where
  pub was_open : IsTrue s.is_open
  pub told : (t : layout.Tables) → Holds layout s.now t → Tells t
