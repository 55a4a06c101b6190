use Rattle.std.proofs.Common.{◌≡◌, sym, ◌∙◌, subst}
use Rattle.desk_http.specs.Keeping.{StandsKept}
use Rattle.desk_book.specs.Book.{Book}
use Rattle.memory_store.specs.Kept.{IsBookOf, IsHeld}
use Rattle.memory_store.specs.declared.list_store.ListStore.{ListStore}
use Rattle.remembering_store.specs.Known.{HoldsKnown, KeepsNumbered}
use Rattle.remembering_store.specs.declared.remembering.Remembering.{Remembering}
use Rattle.cli_commands.specs.MessageRuns.{new_book, new_desk}
use Rattle.cli_commands.proofs.MessageRunLemmas.{kept_for_nothing, run_of_new_desk}
use Rattle.cli_commands.proofs.SessionRuns.{broken_off}
use Rattle.cli_commands.proofs.message_session.answer_messages.Goals as goal

-- the store of the sample desk, and the books that it holds
abbrev Sample : Type 0
Sample = Remembering ListStore

abbrev held : Sample → Book → Type 0
held s = HoldsKnown (IsHeld s.store) s.known

abbrev keeps : Book → Book → Type 0
keeps = KeepsNumbered (λ (k b : Book). k ≡ b)

abbrev Stands : Sample → Type 0
Stands s = StandsKept (held s) keeps (λ k. IsBookOf s.store k) new_desk

-- a store in memory leaves the book that it holds
new_stands : (s : Sample) → held s new_book → Stands s
new_stands s is = kept_for_nothing (held s) keeps (λ k. IsBookOf s.store k) is (λ k leaves. (leaves ∙ sym is.held.book, is.numbered))

pub returns-clause-answered : goal.returns-clause-answered
returns-clause-answered g c = λ fine.
    let stood = subst Stands (sym c.new-desk.ensures) (new_stands c.sample_desk.result c.sample_desk.ensures) in
    (c.session.result, c.status_of_session.ensures, run_of_new_desk g.R.Source _ _ g.W.Sink _ _ _ _ _ _ (c.session.ensures.left, c.session.ensures.ran) tt stood)

pub returns-clause-failed : goal.returns-clause-failed
returns-clause-failed g c = λ failed.
    let stood = subst Stands (sym c.new-desk.ensures) (new_stands c.sample_desk.result c.sample_desk.ensures) in
    broken_off g.R.Source _ _ g.W.Sink _ _ c.session.result (sym c.status_of_session.ensures ∙ failed)
    (run_of_new_desk g.R.Source _ _ g.W.Sink _ _ _ _ _ _ (c.session.ensures.left, c.session.ensures.ran) tt stood)
