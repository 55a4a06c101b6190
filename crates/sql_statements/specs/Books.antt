-- What tables encode, of which a store speaks in their place: call it a book.
use Rattle.std.specs.Prelude.{IsTrue}
use Rattle.sqlite_trees.specs.Tree.{Trees}
use Rattle.sqlite.specs.State.{State}
use Rattle.sql_statements.specs.Edits.{Edit}
use Rattle.sql_statements.specs.Layouts.{Layout, Holds}

module _ (layout : Layout) {B : Type 0} (Encodes : layout.Tables → B → Type 0) where
  -- these trees are tables of the book
  abbrev pub keeps : Trees → B → Type 0
  keeps trees b = (t : layout.Tables) × layout.IsStored trees t × Encodes t b

  -- an open connection sees tables of the book
  abbrev pub holds : State → B → Type 0
  holds s b = IsTrue s.is_open → (t : layout.Tables) × Holds layout s.now t × Encodes t b

  -- after the edit the tables are those of the book after the step, where the step may be made
  abbrev pub Follows : Edit layout.Tables → (Admits : B → Type 0) → (after : B → B) → Type 0
  Follows edit Admits after = (trees : Trees) (t : layout.Tables) (b : B) → layout.IsStored trees t → Encodes t b → Admits b → edit.Tells t → Encodes (edit.after t) (after b)

  -- what is told of tables says this of their book
  abbrev pub Agrees : (Tells : layout.Tables → Type 0) → (Says : B → Type 0) → Type 0
  Agrees Tells Says = (trees : Trees) (t : layout.Tables) (b : B) → layout.IsStored trees t → Encodes t b → Tells t → Says b
