-- The book of a history without the key `authorized`.
use Rattle.std.proofs.Common.{◌≡◌, None}
use Rattle.std.proofs.lemmas.List.Elements.{All-map}
use Rattle.desk_history.specs.Acceptance.{submissions}
use Rattle.desk_history.specs.Authorizations.{AuthorizationsLeftOut, authorization_of, without_authorizations}
use Rattle.desk_history.specs.History.{part}
use Rattle.desk_book.specs.Book.{row_of}
use Rattle.desk_book.specs.Unauthorized.{UnauthorizedBooks}

pub unauthorized_books : AuthorizationsLeftOut → UnauthorizedBooks
unauthorized_books left_out identity key H c =
    let P = part identity.odfi (without_authorizations H) c in
    All-map (λ r. authorization_of r.retry ≡ None) (row_of P) (submissions P) (left_out.accepted identity.odfi (without_authorizations H) c (left_out.none H))
