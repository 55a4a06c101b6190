use Rattle.std.proofs.Common.{◌≡◌, ◌++◌, drop}
use Rattle.desk_book.specs.Book.{Book}
use Rattle.desk_store.specs.Words.{LeavesRead}
use Rattle.desk_calls.specs.Cutting.{latest_of}
use Rattle.desk_calls.proofs.operator.cut.latest_of.Given as goal

-- the days so far, and those of the ranges that are left
abbrev pub invariant-loop-range : goal.invariant-loop-range
invariant-loop-range g l =
    let S = g.S.Store in
    record {
      before : S.is_clean l.store → S.is_clean l.fn.store;
      read : S.is_clean l.store → (b : Book) → S.holds l.fn.store b
          → (l.latest.items ++ latest_of (drop l.range-index l.ranges) b ≡ latest_of l.ranges b) × S.holds l.store b;
      left : S.is_clean l.store → LeavesRead (S.may_leave l.fn.store) (S.may_leave l.store);
    }
