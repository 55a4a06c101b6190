-- The promises of a function over a store, by a word for each kind: that the store was clean when it began, what it
-- says of the book and does to it, and what a crash may leave then. `g` gives the books that a store holds and what a
-- crash leaves of it.
use Rattle.std.specs.Prelude.{ℕ, Bool, List, Result, Vec}
use Rattle.std.specs.declared.alloc.Global.{Global}
use Rattle.desk_history.specs.declared.answer.Answer.{Answer}
use Rattle.desk_history.specs.Message.{Message, Of}
use Rattle.desk_history.specs.Request.{Request}
use Rattle.desk_book.specs.declared.caller.Caller.{Caller}
use Rattle.desk_book.specs.Book.{Book}
use Rattle.desk_book.specs.OnBook.{reply_on}
use Rattle.desk_book.specs.Requests.{added_row, with_added_row}
use Rattle.desk_book.specs.Writes.{writes_on}
use Rattle.desk_store.specs.Promises.{CallTells, CallGives, CallGivesList}
use Rattle.desk_store.specs.Words.{LeavesRead}
use Rattle.desk_store.specs.declared.store.Store.{Ghosts}
use Rattle.desk_store.specs.declared.store.StoreFault.{StoreFault}
use Rattle.desk_admission.specs.Answering.{Allows, Answers, LeavesCall}
use Rattle.desk_admission.specs.Taking.{ReadsAs}
use Rattle.desk_admission.specs.Verdicts.{Adds, LeavesAdded}
use Rattle.desk_admission.specs.declared.verdict.Verdict.{Verdict}

module _ {S : Type 0} (g : Ghosts S) where
  -- ---- what only reads

  -- A crash leaves nothing that it could not leave before.
  abbrev pub LeavesNoMore : (old new : S) → Type 0
  LeavesNoMore old new = g.is_clean new → LeavesRead (g.may_leave old) (g.may_leave new)

  -- The function says this, and a crash leaves nothing that it could not leave before.
  abbrev pub Tells : (old new : S) → (Told : Type 0) → Type 0
  Tells = CallTells g.is_clean g.may_leave

  -- The result is this value of the book, or the store could not act; it holds the same book.
  abbrev pub Gives : {A : Type 0} → (old new : S) → Result A StoreFault → (Book → A) → Type 0
  Gives = CallGives g.is_clean g.holds g.may_leave

  -- the same of a list
  abbrev pub GivesList : {A : Type 0} → (old new : S) → Result (Vec A Global) StoreFault → (Book → List A) → Type 0
  GivesList = CallGivesList g.is_clean g.holds g.may_leave

  -- the same, if contracts see the result as another value
  abbrev pub GivesAs : {A B : Type 0} → (old new : S) → (A → B) → Result A StoreFault → (Book → B) → Type 0
  GivesAs old new view result value = Tells old new (ReadsAs view (g.holds old) result value (g.holds new))

  -- If the store is clean when the call ends: true exactly if the caller has a key with this digest, or the store
  -- failed; it holds the same book.
  abbrev pub AllowsKey : (old new : S) → Result Bool StoreFault → Caller → (digest : List ℕ) → Type 0
  AllowsKey old new result caller digest = g.is_clean new → Allows (g.holds old) result caller digest (g.holds new)

  -- ---- answers of the desk

  -- The store was clean as the call began, if it is clean as it ends. This is answered, and a crash leaves this.
  pub record Acts (old new : S) (Answered Left : Type 0) : Type 0 where
    pub before : g.is_clean new → g.is_clean old
    pub answers : g.is_clean new → Answered
    pub left : g.is_clean new → Left

  -- The answer to what only asks is this one of the book, or the store could not act; it holds the same book.
  abbrev pub AnswersAsked : (old new : S) → Result Answer StoreFault → (Book → Answer) → Type 0
  AnswersAsked old new result answer =
      Acts old new (Answers (g.holds old) result answer (λ b. b) (g.holds new)) (LeavesRead (g.may_leave old) (g.may_leave new))

  -- the reply to a company that only asks
  abbrev pub RepliesAsked : (old new : S) → Result Answer StoreFault → (company : List ℕ) → Request → Type 0
  RepliesAsked old new result company r = AnswersAsked old new result (λ b. reply_on b company r)

  -- The answer is this one of a book for which `Holds` is true, and the store then holds that book; or the store
  -- failed, and holds the same one. If the call wrote, a crash leaves a form of the book that it made; if it wrote
  -- nothing, nothing new; and if the store failed, either.
  abbrev pub AnswersWhere : (old new : S) → (Holds : Book → Type 0) → Result Answer StoreFault → (writes : Book → Bool) → (Book → Answer) → (after : Book → Book) → Type 0
  AnswersWhere old new Holds result writes answer after =
      Acts old new (Answers Holds result answer after (g.holds new)) (LeavesCall g.keeps Holds (g.may_leave old) result writes after (g.may_leave new))

  -- the same of the book that the store holds
  abbrev pub AnswersWith : (old new : S) → Result Answer StoreFault → (writes : Book → Bool) → (Book → Answer) → (after : Book → Book) → Type 0
  AnswersWith old new = AnswersWhere old new (g.holds old)

  -- the answer to a message
  abbrev pub AnswersMessage : (old new : S) → Result Answer StoreFault → Message → (Book → Answer) → (after : Book → Book) → Type 0
  AnswersMessage old new result m = AnswersWith old new result (λ b. writes_on b m)

  -- the reply to a submission or retry, which may add a row
  abbrev pub RepliesAdding : (old new : S) → Result Answer StoreFault → (company : List ℕ) → Request → Type 0
  RepliesAdding old new result company r =
      AnswersMessage old new result (Of company r) (λ b. reply_on b company r) (λ b. with_added_row company (added_row b company r) b)

  -- The answer is that of the verdict, and the store then has its new row, if there is one; or the store failed, and
  -- holds the same book. If a row was added, a crash leaves a form of the book with it; if none was, nothing new; and
  -- if the store failed, either.
  abbrev pub AnswersVerdict : (old new : S) → Result Answer StoreFault → (company : List ℕ) → Verdict → Type 0
  AnswersVerdict old new result company v =
      Acts old new (Adds (g.holds old) result company v (g.holds new))
      (LeavesAdded g.keeps (g.holds old) (g.may_leave old) result company v (g.may_leave new))
