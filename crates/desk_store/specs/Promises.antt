-- The promises of a store's calls, in one word for each kind of call: that the store was clean when the call began if
-- it is clean when it ends, what the call says of the book or does to it, and what a crash may leave then. `is_clean`,
-- `holds`, `keeps` and `may_leave` have the meaning that the trait gives them.
use Rattle.std.specs.Prelude.{ℕ, List, Option, Result, Vec}
use Rattle.std.specs.declared.alloc.Global.{Global}
use Rattle.desk_rules.specs.declared.bodies.submission.Retry.{Retry}
use Rattle.desk_rules.specs.declared.bodies.submission.Submission.{Submission}
use Rattle.desk_book.specs.Book.{Book}
use Rattle.desk_book.specs.Steps.{Step, add_submission}
use Rattle.desk_store.specs.Words.{Reads, ReadsList, Writes, LeavesRead, LeavesWrite}
use Rattle.desk_store.specs.declared.store.StoreFault.{StoreFault}

-- The call says this, and a crash leaves nothing that it could not leave before.
pub record CallTells {S Kept : Type 0} (is_clean : S → Type 0) (may_leave : S → Kept → Type 0) (old new : S) (Told : Type 0) : Type 0 where
  pub before : is_clean new → is_clean old
  pub read : is_clean new → Told
  pub left : is_clean new → LeavesRead (may_leave old) (may_leave new)

-- It makes this step, and a crash leaves this.
pub record CallMakes {S : Type 0} (is_clean : S → Type 0) (old new : S) (Made Left : Type 0) : Type 0 where
  pub before : is_clean new → is_clean old
  pub write : is_clean new → Made
  pub left : is_clean new → Left

module _ {S Kept : Type 0} (is_clean : S → Type 0) (holds : S → Book → Type 0) (may_leave : S → Kept → Type 0) where
  -- The result is this value of the book, or the store could not act; it holds the same book.
  abbrev pub CallGives : {A : Type 0} → (old new : S) → Result A StoreFault → (Book → A) → Type 0
  CallGives old new result value = CallTells is_clean may_leave old new (Reads (holds old) result value (holds new))

  -- the same of a list
  abbrev pub CallGivesList : {A : Type 0} → (old new : S) → Result (Vec A Global) StoreFault → (Book → List A) → Type 0
  CallGivesList old new result value = CallTells is_clean may_leave old new (ReadsList (holds old) result value (holds new))

  -- The store takes this step whole, or could not act and holds the same book. A crash leaves what keeps the book after
  -- the step; where the store could not act, that or what it could leave before.
  abbrev pub CallTakes : (keeps : Kept → Book → Type 0) → (old new : S) → Result (Unit {0}) StoreFault → Step → Type 0
  CallTakes keeps old new result step =
      CallMakes is_clean old new (Writes (holds old) result step (holds new)) (LeavesWrite keeps (holds old) (may_leave old) result step (may_leave new))

  -- It takes the step that adds a company's submission or retry.
  abbrev pub CallAdds : (keeps : Kept → Book → Type 0) → (old new : S) → Result (Unit {0}) StoreFault
      → (company : List ℕ) → (order : ℕ) → Submission → Option Retry → Type 0
  CallAdds keeps old new result company order s retry =
      CallTakes keeps old new result (add_submission company order s retry)
