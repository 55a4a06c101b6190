use Rattle.desk_book.proofs.Unauthorized.{unauthorized_books}
use Rattle.desk_book.proofs.book_laws.unauthorized_books.Goals as goal

pub returns : goal.returns
returns c = unauthorized_books c.authorizations_left_out.ensures
