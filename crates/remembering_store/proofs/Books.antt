-- The submissions of each company are numbered in the book of each history.
use Rattle.std.proofs.Common.{◌∙◌, ap, sym}
use Rattle.std.specs.List.{range_with_len}
use Rattle.std.proofs.lemmas.List.{length-map}
use Rattle.std.proofs.lemmas.Simd.{map-map}
use Rattle.desk_history.specs.Acceptance.{submissions}
use Rattle.desk_history.specs.AcceptedLaws.{AcceptedInOrder}
use Rattle.desk_history.specs.History.{part}
use Rattle.desk_book.specs.declared.row.Row.{Row}
use Rattle.desk_book.specs.Book.{row_of}
use Rattle.remembering_store.specs.Laws.{NumberedBooks}

pub numbered_books : AcceptedInOrder → NumberedBooks
numbered_books law identity key H c =
    let P = part identity.odfi H c in
    map-map (λ (row : Row). row.order) (row_of P) (submissions P) ∙ law.orders P ∙ ap (range_with_len 1) (sym (length-map (submissions P) (row_of P)))
