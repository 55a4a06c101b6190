-- Books in which no retry was authorized again.
use Rattle.std.specs.Prelude.{◌≡◌, ℕ, List, All, None}
use Rattle.desk_history.specs.declared.identity.Identity.{Identity}
use Rattle.desk_history.specs.Authorizations.{authorization_of, without_authorizations}
use Rattle.desk_history.specs.Message.{Pair}
use Rattle.desk_book.specs.Book.{Book, book_of}

abbrev pub AuthorizesNothing : Book → Type 0
AuthorizesNothing b = (company : List ℕ) → All (λ r. authorization_of r.retry ≡ None) (b.rows company)

-- such is the book of each history without the key `authorized`
abbrev pub UnauthorizedBooks : Type 0
UnauthorizedBooks = (identity : Identity) (key : List ℕ) (H : List Pair) → AuthorizesNothing (book_of identity key (without_authorizations H))
