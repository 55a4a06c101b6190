-- The book of a desk after calls, and what a crash may leave then.
use Rattle.std.proofs.Common.{◌≡◌, ◌∙◌, refl, sym, ap, subst, ℕ, suc, List, [], ◌∷◌, Bool, true, false, inl, inr, arith}
use Rattle.std.specs.Prelude.{◌⊎◌, if◌then◌else◌, Any, Result, Ok, Err}
use Rattle.desk_history.specs.declared.answer.Answer.{Answer}
use Rattle.desk_history.specs.declared.identity.Identity.{Identity}
use Rattle.desk_history.specs.Message.{Message, Pair}
use Rattle.desk_history.specs.Operator.{next_pair, IsHistory}
use Rattle.desk_book.specs.Book.{Book, book_of}
use Rattle.desk_book.specs.OnMessages.{after_on, BookTells}
use Rattle.desk_book.specs.Writes.{is_read, writes_on, ReadsLeave}
use Rattle.desk_store.specs.declared.store.StoreFault.{StoreFault}
use Rattle.desk_calls.specs.Applying.{IsAsked, book_after, GoesOn, LeavesOn}
use Rattle.desk_calls.proofs.ReadCalls.{read_call}
use Rattle.desk_calls.specs.Running.{with_result, history_with, pending_with, pending, KeepsOneMore, CrashesLeave}

any_weaker : {X : Type 0} (P Q : X → Type 0) (xs : List X) → ((x : X) → P x → Q x) → Any P xs → Any Q xs
any_weaker P Q xs weaker some = (some.0, some.1, some.2, some.3, weaker some.1 some.4)

any_later : {X : Type 0} (P : X → Type 0) (x : X) (xs : List X) → Any P xs → Any P (x ∷ xs)
any_later P x xs some = (suc some.0, some.1, omega (arith, some.2), some.3, some.4)

module _ (tells : BookTells) (leave : ReadsLeave) {S Kept : Type 0} (holds : S → Book → Type 0) (keeps : Kept → Book → Type 0) (may_leave : S → Kept → Type 0) where
  -- a message that writes nothing leaves the book
  same_book : (identity : Identity) (key : List ℕ) (H : List Pair) (m : Message) → IsHistory identity H → writes_on (book_of identity key H) m ≡ false → book_after identity key H m ≡ book_of identity key H
  same_book identity key H m is none = tells.steps identity key H m is ∙ leave.book (book_of identity key H) m none

  -- and the book after each other one
  same_after : (identity : Identity) (key : List ℕ) (H : List Pair) (m other : Message) → IsHistory identity H → writes_on (book_of identity key H) m ≡ false
      → book_after identity key H other ≡ book_after identity key (next_pair identity H m ∷ H) other
  same_after identity key H m other is none =
      tells.steps identity key H other is
      ∙ ap (λ (b : Book). after_on b other) (sym (same_book identity key H m is none))
      ∙ sym (tells.steps identity key (next_pair identity H m ∷ H) other ((λ _. refl), is))

  one_more : (identity : Identity) (key : List ℕ) (H : List Pair) (messages : List Message) (m : Message) (k : Kept) → IsHistory identity H → writes_on (book_of identity key H) m ≡ false
      → KeepsOneMore keeps identity key H messages k → KeepsOneMore keeps identity key (next_pair identity H m ∷ H) messages k
  one_more identity key H messages m k is none left = elim left [
    | inl now ↦ inl (subst (keeps k) (sym (same_book identity key H m is none)) now)
    | inr more ↦ inr (any_weaker _ _ messages (λ other. subst (keeps k) (same_after identity key H m other is none)) more)
  ]

  -- a call that was not answered
  unanswered : (identity : Identity) (key : List ℕ) (H : List Pair) (messages : List Message) (m : Message) (asks : Bool) (k : Kept)
      → (asks ≡ true → KeepsOneMore keeps identity key H messages k) → KeepsOneMore keeps identity key H messages k ⊎ keeps k (book_after identity key H m)
      → KeepsOneMore keeps identity key H (if asks then messages else m ∷ messages) k
  unanswered identity key H messages m true k same left = same refl
  unanswered identity key H messages m false k same left = elim left [
    | inl old ↦ elim old [
      | inl now ↦ inl now
      | inr more ↦ inr (any_later _ m messages more)
    ]
    | inr made ↦ inr (0, m, omega arith, refl, made)
  ]

  -- one call more
  next : (identity : Identity) (key : List ℕ) (H : List Pair) (messages : List Message) (m : Message) (result : Result Answer StoreFault) (before end : S) (k : Kept)
      → (is_read m ≡ true → may_leave before k) → IsHistory identity H → ((k : Kept) → may_leave before k → KeepsOneMore keeps identity key H messages k) → LeavesOn keeps (may_leave before) identity key H m result k
      → KeepsOneMore keeps identity key (with_result identity H m result) (pending_with m result (writes_on (book_of identity key H) m) messages) k
  next identity key H messages m (Ok a) before end k read is left leaves = elim leaves [
    | inl wrote ↦ inl wrote.1
    | inr none ↦ subst (λ (wrote : Bool). KeepsOneMore keeps identity key (next_pair identity H m ∷ H) (pending_with m (Ok a) wrote messages) k) (sym none.0) (one_more identity key H messages m k is none.0 (left k none.1))
  ]
  next identity key H messages m (Err fault) before end k read is left leaves =
      unanswered identity key H messages m (is_read m) k (λ reads. left k (read reads)) (elim leaves [ inl old ↦ inl (left k old) | inr made ↦ inr made ])

  history_more : (identity : Identity) (H : List Pair) (m : Message) (result : Result Answer StoreFault) → IsHistory identity H → IsHistory identity (with_result identity H m result)
  history_more identity H m (Ok a) is = ((λ _. refl), is)
  history_more identity H m (Err fault) is = is

  book_more : (identity : Identity) (key : List ℕ) (H : List Pair) (m : Message) (result : Result Answer StoreFault) (new : Book → Type 0) → GoesOn identity key H m result new → new (book_of identity key (with_result identity H m result))
  book_more identity key H m (Ok a) new goes = goes.1
  book_more identity key H m (Err fault) new goes = goes

  pub crashes_leave : CrashesLeave holds keeps may_leave
  crashes_leave identity key H start end [] opened same = record {
    history = opened.history;
    book = subst (λ (s : S). holds s (book_of identity key H)) same opened.book;
    left = λ k left. inl (opened.left k (subst (λ (s : S). may_leave s k) (sym same) left));
  }
  crashes_leave identity key H start end (x ∷ xs) opened takes =
      let run = crashes_leave identity key H start takes.0 xs opened takes.1 in
      let G = history_with identity H xs in
      let asked : IsAsked (holds takes.0) x.call identity key G x.message = record { history = run.history; book = run.book; message = takes.2.message } in
      record {
        history = history_more identity G x.message x.result run.history;
        book = book_more identity key G x.message x.result (holds end) (takes.2.goes identity key G x.message asked);
        left = λ k left. next identity key G (pending identity key H xs) x.message x.result takes.0 end k (λ reads. takes.2.read (read_call x.call x.message takes.2.message reads) k left) run.history run.left (takes.2.left identity key G x.message k asked left);
      }
