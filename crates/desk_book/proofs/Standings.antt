-- A company's standing: its part and the book give the same.
use Rattle.std.specs.Prelude.{◌≡◌, ℕ, List}
use Rattle.std.proofs.Common.{sym}
use Rattle.desk_history.specs.declared.identity.Identity.{Identity}
use Rattle.desk_book.specs.Book.{rows, book_of}
use Rattle.desk_history.specs.History.{part}
use Rattle.desk_history.specs.Message.{Pair}
use Rattle.desk_history.specs.Operator.{IsHistory}
use Rattle.desk_book.specs.Standing.{standing}
use Rattle.desk_history.proofs.Lines.PartLimits.{same_day, same_holidays, same_limits}
use Rattle.desk_book.specs.OnBook.{standing_in}

abbrev pub SameStanding : Type 0
SameStanding = (identity : Identity) (key : List ℕ) (H : List Pair) (c : List ℕ) → IsHistory identity H
    → standing (part identity.odfi H c) ≡ standing_in (book_of identity key H) c

pub same_standing : SameStanding
same_standing identity key H c is =
    (λ i. record {
      limits = sym (same_limits identity H c is) i;
      day = same_day identity.odfi H c i;
      holidays = same_holidays identity.odfi H c i;
      rows = rows (part identity.odfi H c);
    })
