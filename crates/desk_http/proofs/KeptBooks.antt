-- The book after a message that is answered, and what keeps it.
use Rattle.std.proofs.Common.{◌≡◌, ◌∙◌, refl, sym, ap, subst, ℕ, suc, List, ◌∷◌, inl, inr, arith}
use Rattle.std.specs.Prelude.{Any, Bool, true, false, Option, Some, None, IsFalse}
use Rattle.desk_history.specs.Message as core
use Rattle.desk_history.specs.Message.{Message}
use Rattle.desk_book.specs.Book.{Book, book_of}
use Rattle.desk_book.specs.OnMessages.{after_on, BookTells}
use Rattle.desk_book.specs.Writes.{ReadsLeave}
use Rattle.desk_admission.specs.Answering.{IsLeft}
use Rattle.http_message.specs.Message.{MessageValue}
use Rattle.http_history.specs.History.{calls_of, taken_by, text}
use Rattle.http_history.specs.Laws.{CallsAreHistory}
use Rattle.http_history.specs.Verdict.{verdict_on}
use Rattle.http_history.specs.Versions.{MeansAt, Version}
use Rattle.http_history.proofs.Calls.{none_pair, right_pair}
use Rattle.desk_http.specs.Keeping.{DeskHistory, book_after, pending_after, with_answered, with_taken, IsAnsweredBy, IsOneMore, KeptHistory, LeavesBy, MayBeFound, writes}

-- ---- pending messages

still_pending : (wrote : Bool) (pending : List MessageValue) (v : MessageValue) → IsFalse wrote → Any (λ p. p ≡ v) pending → Any (λ p. p ≡ v) (pending_after wrote pending)
still_pending true pending v none is = absurd (cc)
still_pending false pending v none is = is

any_later : (v w : MessageValue) (pending : List MessageValue) → Any (λ p. p ≡ v) pending → Any (λ p. p ≡ v) (w ∷ pending)
any_later v w pending some = (suc some.0, some.1, omega (arith, some.2), some.3, some.4)

-- ---- books

-- the book after what a message means
abbrev after_by : Book → Option Message → Book
after_by b None = b
after_by b (Some m) = after_on b m

module _ (tells : BookTells) (leave : ReadsLeave) (are : CallsAreHistory) (version : Version) where
  pair_book : (h : DeskHistory) (v : MessageValue) (means : Option Message) (answer : List ℕ) → answer ≡ text h.identity h.key h.pairs (taken_by version v) means
      → book_after (with_taken version h v answer means) ≡ after_by (book_after h) means
  pair_book h v None answer is = ap (λ (G : List core.Pair). book_of h.identity h.key G) (none_pair h.identity (taken_by version v) answer h.pairs)
  pair_book h v (Some m) answer is =
      ap (λ (bytes : List ℕ). book_after (with_taken version h v bytes (Some m))) is
      ∙ ap (λ (G : List core.Pair). book_of h.identity h.key G) (right_pair h.identity h.key (taken_by version v) m h.pairs)
      ∙ tells.steps h.identity h.key (calls_of h.identity h.pairs) m (are h.identity h.pairs)

  answered_book : (h : DeskHistory) (v : MessageValue) (answer : List ℕ) (more : DeskHistory) (a : IsAnsweredBy version h v answer more)
      → book_after more ≡ after_by (book_after h) a.means
  answered_book h v answer more a = ap book_after a.more ∙ pair_book h v a.means answer a.said

  quiet_book : (b : Book) (means : Option Message) → IsFalse (writes b means) → after_by b means ≡ b
  quiet_book b None none = refl
  quiet_book b (Some m) none = leave.book b m none

  -- a history after which the book is the same goes on with the same message alike
  one_more : (h now : DeskHistory) (was pending : List MessageValue) (more : DeskHistory) → book_after now ≡ book_after h
      → ((v : MessageValue) → Any (λ p. p ≡ v) was → Any (λ p. p ≡ v) pending) → IsOneMore version h was more
      → (later : DeskHistory) × IsOneMore version now pending later × (book_after later ≡ book_after more)
  one_more h now was pending more same within one =
      let v = one.message in
      let a = one.answered in
      let said = text now.identity now.key now.pairs (taken_by version v) a.means in
      let later = with_taken version now v said a.means in
      let read = subst (λ (b : Book). MeansAt version (verdict_on b v) a.means) (sym same) a.read in (
        later,
        record {
          message = v;
          answer = said;
          is_pending = within v one.is_pending;
          answered = record { means = a.means; read = read; said = refl; more = refl };
          asks = one.asks;
        },
        pair_book now v a.means said refl ∙ ap (λ (b : Book). after_by b a.means) same ∙ sym (answered_book h v one.answer more a),
      )

  module _ {Kept : Type 0} (keeps : Kept → Book → Type 0) where
    abbrev KeepsOne : KeptHistory → Kept → Type 0
    KeepsOne b k = (found : DeskHistory) × MayBeFound version b found × keeps k (book_after found)

    -- if the book stays the same, so does what keeps it
    still : (was now : KeptHistory) (k : Kept) → book_after now.history ≡ book_after was.history
        → ((v : MessageValue) → Any (λ p. p ≡ v) was.pending → Any (λ p. p ≡ v) now.pending) → KeepsOne was k → KeepsOne now k
    still was now k same within (found, inl is, kept) =
        (now.history, inl refl, subst (keeps k) (ap book_after is ∙ sym same) kept)
    still was now k same within (found, inr one, kept) =
        let (later, more, books) = one_more was.history now.history was.pending now.pending found same within one in
        (later, inr more, subst (keeps k) (sym books) kept)

    -- what is left of a message that was answered
    pub answered_left : (was : KeptHistory) (v : MessageValue) (bytes : List ℕ) (now : DeskHistory) (old : Kept → Type 0) (k : Kept) (a : IsAnsweredBy version was.history v bytes now)
        → (old k → KeepsOne was k) → IsLeft (writes (book_after was.history) a.means) (keeps k (book_after now)) (old k)
        → KeepsOne (record { history = now; pending = pending_after (writes (book_after was.history) a.means) was.pending }) k
    answered_left was v bytes now old k a kept (inl wrote) = (now, inl refl, wrote.1)
    answered_left was v bytes now old k a kept (inr none) =
        let wrote = writes (book_after was.history) a.means in
        still was (record { history = now; pending = pending_after wrote was.pending }) k
        (answered_book was.history v bytes now a ∙ quiet_book (book_after was.history) a.means none.0)
        (λ w is. still_pending wrote was.pending w none.0 is) (kept none.1)

    -- and of one that was not
    pub unanswered_left : (was : KeptHistory) (v : MessageValue) (means : Option Message) (old : Kept → Type 0) (k : Kept)
        → MeansAt version (verdict_on (book_after was.history) v) means → (old k → KeepsOne was k) → LeavesBy keeps old version was.history v means None k
        → KeepsOne (record { history = was.history; pending = v ∷ was.pending }) k
    unanswered_left was v means old k read kept (inl same) =
        still was (record { history = was.history; pending = v ∷ was.pending }) k refl (λ w is. any_later w v was.pending is) (kept same)
    unanswered_left was v means old k read kept (inr made) =
        let h = was.history in
        let more = with_answered version h v means in (
          more,
          inr (record {
            message = v;
            answer = text h.identity h.key h.pairs (taken_by version v) means;
            is_pending = (0, v, omega arith, refl, refl);
            answered = record { means = means; read = read; said = refl; more = refl };
            asks = made.0;
          }),
          made.1,
        )
