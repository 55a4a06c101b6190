use Rattle.std.proofs.Common.{◌≡◌, ◌++◌, drop}
use Rattle.desk_book.specs.Book.{Book}
use Rattle.desk_store.specs.Words.{LeavesRead}
use Rattle.desk_calls.specs.Status.{each_waiting}
use Rattle.desk_calls.proofs.operator.status.each_waiting.Given as goal

-- the companies so far, and those that are left
abbrev pub invariant-loop-company : goal.invariant-loop-company
invariant-loop-company g l =
    let S = g.S.Store in
    record {
      before : S.is_clean l.store → S.is_clean l.fn.store;
      read : S.is_clean l.store → (b : Book) → S.holds l.fn.store b
          → (l.found.items ++ each_waiting l.day l.holidays (drop l.company-index l.companies) b ≡ each_waiting l.day l.holidays l.companies b) × S.holds l.store b;
      left : S.is_clean l.store → LeavesRead (S.may_leave l.fn.store) (S.may_leave l.store);
    }
