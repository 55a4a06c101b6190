-- What the operator reads of all companies after a history follows from its book.
use Rattle.std.specs.Prelude.{◌≡◌, ℕ, List}
use Rattle.desk_history.specs.declared.identity.Identity.{Identity}
use Rattle.desk_history.specs.Message.{Companies, Pair}
use Rattle.desk_history.specs.Operator.{answer_to, IsHistory}
use Rattle.desk_book.specs.Book.{book_of}
use Rattle.desk_book.specs.OnCompanies.{companies_answer}

abbrev pub TellsCompanies : Type 0
TellsCompanies = (identity : Identity) (key : List ℕ) (H : List Pair) → IsHistory identity H → answer_to identity H Companies ≡ companies_answer (book_of identity key H)
