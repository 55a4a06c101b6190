use Rattle.std.proofs.Common.{sym, subst, ℕ, List, []}
use Rattle.desk_history.specs.declared.identity.Identity.{Identity}
use Rattle.desk_book.specs.Book.{book_of}
use Rattle.memory_store.specs.Kept.{IsHeld}
use Rattle.memory_store.specs.declared.list_store.ListStore.{ListStore}
use Rattle.remembering_store.specs.Known.{HoldsKnown}
use Rattle.remembering_store.specs.declared.remembering.Remembering.{Remembering}
use Rattle.cli_commands.specs.MessageRuns.{new_book, operator_digest, sample_identity}
use Rattle.cli_commands.proofs.sample_bank.sample_desk.Goals as goal

pub returns : goal.returns
returns c =
    let lists = c.new-store.result in
    let first = c.new.result in
    let made : IsHeld lists new_book =
    subst (λ (key : List ℕ). IsHeld lists (book_of sample_identity key [])) c.digest-key.ensures
    (subst (λ (identity : Identity). IsHeld lists (book_of identity c.digest-key.result [])) c.sample_identity.ensures c.new-store.ensures) in
    let begun : HoldsKnown (IsHeld first.store) first.known new_book = record {
      held = subst (λ (s : ListStore). IsHeld s new_book) (sym c.new.ensures.store) made;
      numbered = c.numbered_books.ensures sample_identity operator_digest [];
      known = c.new.ensures.known new_book;
    } in
    subst (λ (s : Remembering ListStore). HoldsKnown (IsHeld s.store) s.known new_book) (sym c.new-2.ensures) begun
