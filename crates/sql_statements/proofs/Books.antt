-- From the tables to the book: what a store says of a write and of a read.
use Rattle.std.proofs.Common.{◌⊎◌, inl, inr, subst, sym, arith}
use Rattle.sqlite_trees.specs.Tree.{Trees}
use Rattle.sqlite.specs.State.{State, HasCleanDisk, Survives}
use Rattle.sql_statements.specs.Queries.{Stays}
use Rattle.sql_statements.specs.Books.{keeps, holds, Follows, Agrees}
use Rattle.sql_statements.specs.Edits.{Edit}
use Rattle.sql_statements.specs.Findings.{Finds}
use Rattle.sql_statements.specs.Layouts.{Layout, Holds}
use Rattle.sql_statements.specs.Transactions.{Commits, Leaves}

-- a call hides no fault of the disk
pub clean_before : (old new : State) (P : Trees → Type 0) → Survives old new P → HasCleanDisk new → HasCleanDisk old
clean_before old new P survives clean = omega (arith, survives.clean, clean)

-- what commits nothing leaves nothing more to a crash
pub left_read : (old new : State) → HasCleanDisk new → Survives old new (λ _. ⊥) → (k : Trees) → new.may_leave k → old.may_leave k
left_read old new clean survives k left = go (survives.crash clean k left)
  where
    go : old.may_leave k ⊎ ⊥ → old.may_leave k
    go (inl before) = before
    go (inr none) = absurd none

module _ (layout : Layout) {B : Type 0} (Encodes : layout.Tables → B → Type 0) where
  -- of a read too
  pub write_undone : (old new : State) → Stays old new → (b : B) → holds layout Encodes old b → holds layout Encodes new b
  write_undone old new stays b h is_open =
      let s = stays is_open in
      let it = h s.0 in
      (it.0, subst (λ d. Holds layout d it.0) (sym s.1) it.1, it.2)

  -- what reads found is so of the book, which is held as before
  pub read_agreed : (Tells : layout.Tables → Type 0) (Says : B → Type 0) → Agrees layout Encodes Tells Says → (old new : State) → Finds layout Tells old → Stays old new
      → (b : B) → holds layout Encodes old b → Says b × holds layout Encodes new b
  read_agreed Tells Says agrees old new found stays b h =
      let it = h found.was_open in
      (agrees old.now.trees it.0 b it.1.1 it.2 (found.told it.0 it.1), write_undone old new stays b h)

  module _ (edit : Edit layout.Tables) (Admits : B → Type 0) (after : B → B) (follows : Follows layout Encodes edit Admits after) (old new : State) where
    pub write_done : Commits layout edit old new → (b : B) → holds layout Encodes old b → Admits b → holds layout Encodes new (after b)
    write_done done b h admits is_open =
        let it = h done.was_open in
        let made = done.holds it.0 it.1 in
        (edit.after it.0, made.0, follows old.now.trees it.0 b it.1.1 it.2 admits made.1)

    pub left_done : Commits layout edit old new → (b : B) (k : Trees) → holds layout Encodes old b → Admits b → new.may_leave k → keeps layout Encodes k (after b)
    left_done done b k h admits left =
        let it = write_done done b h admits done.is_open in
        (it.0, subst (λ trees. layout.IsStored trees it.0) (sym (done.left k left)) it.1.1, it.2)

    pub left_undone : HasCleanDisk new → Survives old new (Leaves layout edit old) → (b : B) (k : Trees) → holds layout Encodes old b → Admits b → new.may_leave k → old.may_leave k ⊎ keeps layout Encodes k (after b)
    left_undone clean survives b k h admits left = go (survives.crash clean k left)
      where
        go : old.may_leave k ⊎ Leaves layout edit old k → old.may_leave k ⊎ keeps layout Encodes k (after b)
        go (inl before) = inl before
        go (inr made) =
            let it = h made.0 in
            let is = made.1 it.0 it.1 in
            inr (edit.after it.0, is.0, follows old.now.trees it.0 b it.1.1 it.2 admits is.1)
