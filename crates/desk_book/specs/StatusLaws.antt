-- The desk's status after a history is the status of its book.
use Rattle.std.specs.Prelude.{◌≡◌, ℕ, List}
use Rattle.desk_history.specs.declared.identity.Identity.{Identity}
use Rattle.desk_history.specs.Message.{Status, Pair}
use Rattle.desk_history.specs.Operator.{answer_to, IsHistory}
use Rattle.desk_book.specs.Book.{book_of}
use Rattle.desk_book.specs.OnStatus.{status_answer}

abbrev pub TellsStatus : Type 0
TellsStatus = (identity : Identity) (key : List ℕ) (H : List Pair) → IsHistory identity H → answer_to identity H Status ≡ status_answer (book_of identity key H)
