-- A cut after a history is a cut of its book.
use Rattle.std.specs.Prelude.{◌≡◌, ℕ, List, ◌∷◌}
use Rattle.desk_history.specs.declared.identity.Identity.{Identity}
use Rattle.desk_book.specs.Book.{Book, book_of}
use Rattle.desk_history.specs.Message.{Cut, Pair}
use Rattle.desk_history.specs.Operator.{answer_to, next_pair, IsHistory}
use Rattle.desk_book.specs.OnCut.{cut_answer_on, cut_after, cut_facts, cut_write}
use Rattle.desk_book.specs.Steps.{commit_cut}

pub record TellsCut : Type 0 where
  pub answer : (identity : Identity) (key : List ℕ) (H : List Pair) → IsHistory identity H
      → answer_to identity H Cut ≡ cut_answer_on (book_of identity key H)
  pub step : (identity : Identity) (key : List ℕ) (H : List Pair) → IsHistory identity H
      → book_of identity key (next_pair identity H Cut ∷ H) ≡ cut_after (book_of identity key H)

-- Whatever the book is, a cut of it writes entries of submissions that it sends, and no others.
abbrev pub EntriesOfCuts : Type 0
EntriesOfCuts = (b : Book) (d : ℕ) → (commit_cut (cut_write (cut_facts b d))).Admits b
