-- A message more is a step of what a desk represents, and of what a crash may leave of it.
use Rattle.std.proofs.Common.{ℕ, List, ◌∷◌, refl, sym, subst}
use Rattle.std.specs.Prelude.{Ok, Err, Option, Some, None, option_map, Result, Vec}
use Rattle.std.specs.declared.alloc.Global.{Global}
use Rattle.desk_history.specs.Authorizations.{message_without_authorization}
use Rattle.desk_history.specs.Message.{Message}
use Rattle.desk_admission.specs.Answering.{IsLeft}
use Rattle.desk_book.specs.Book.{Book}
use Rattle.desk_book.specs.OnMessages.{BookTells}
use Rattle.desk_book.specs.Writes.{ReadsLeave}
use Rattle.http_message.specs.Message.{MessageValue}
use Rattle.http_session.specs.declared.answers.Unavailable.{Unavailable}
use Rattle.http_session.specs.Exchanges.{Answered}
use Rattle.http_history.specs.Laws.{CallsAreHistory, OneMeaning}
use Rattle.http_history.specs.Verdict.{Verdict, verdict_on}
use Rattle.http_history.specs.Versions.{First, MeansAt, Present, Version}
use Rattle.desk_http.specs.Answering.{answer_in, GoesBytes, IsAsked, LeavesBytes}
use Rattle.desk_http.specs.Keeping.{book_after, pending_after, with_taken, GoesBy, IsAnsweredBy, KeptHistory, LeavesBy, StandsKept, StandsKeptBy, Takes, TakesBy, writes}
use Rattle.desk_http.proofs.KeptBooks.{answered_left, unanswered_left}

module _ (tells : BookTells) (leave : ReadsLeave) (are : CallsAreHistory) {Kept : Type 0} (keeps : Kept → Book → Type 0) (old new : Book → Type 0) (left_before left_after : Kept → Type 0) where
  pub step_by : (version : Version) (b : KeptHistory) (v : MessageValue) (means : Option Message) (answer : Option (List ℕ))
      → MeansAt version (verdict_on (book_after b.history) v) means → StandsKeptBy old keeps left_before version b → GoesBy version b.history v means answer new
      → ((k : Kept) → left_after k → LeavesBy keeps left_before version b.history v means answer k)
      → (after : KeptHistory) × TakesBy version b v answer after × StandsKeptBy new keeps left_after version after
  step_by version b v means (Some bytes) read is goes left =
      let h = b.history in
      let now = with_taken version h v bytes means in
      let a : IsAnsweredBy version h v bytes now = record { means = means; read = read; said = goes.0; more = refl } in
      let Left : Kept → List ℕ → Type 0 = λ k said. IsLeft (writes (book_after h) means) (keeps k (book_after (with_taken version h v said means))) (left_before k) in (
        record { history = now; pending = pending_after (writes (book_after h) means) b.pending },
        record { answered = a; pending = refl },
        record {
          stands = goes.1;
          left = λ k leaves. answered_left tells leave are version keeps b v bytes now left_before k a (is.left k) (subst (Left k) (sym goes.0) (left k leaves));
        },
      )
  step_by version b v means None read is goes left = (
    record { history = b.history; pending = v ∷ b.pending },
    refl,
    record {
      stands = goes;
      left = λ k leaves. unanswered_left tells leave are version keeps b v means left_before k read (is.left k) (left k leaves);
    },
  )

  -- a message means something to each version
  meant : OneMeaning → (version : Version) (verdict : Verdict) → (means : Option Message) × MeansAt version verdict means
  meant one First verdict = let (spelled, is) = one.some verdict in (option_map message_without_authorization spelled, (spelled, is, refl))
  meant one Present verdict = one.some verdict

  pub step : OneMeaning → (version : Version) (v : MessageValue) (answer : Option (List ℕ))
      → GoesBytes version old v answer new → LeavesBytes version keeps old left_before v answer left_after
      → (b : KeptHistory) → StandsKeptBy old keeps left_before version b → (after : KeptHistory) × TakesBy version b v answer after × StandsKeptBy new keeps left_after version after
  step one version v answer goes left b is =
      let h = b.history in
      let (means, read) = meant one version (verdict_on (book_after h) v) in
      let asked : IsAsked version old h v means = record { stands = is.stands; read = read } in
      step_by version b v means answer read is (goes h means asked) (λ k leaves. left h means k asked leaves)

  -- as `answer` has it
  pub answered : OneMeaning → (v : MessageValue) (result : Result (Vec ℕ Global) Unavailable)
      → GoesBytes Present old v (answer_in result) new → LeavesBytes Present keeps old left_before v (answer_in result) left_after
      → (b : KeptHistory) → StandsKept old keeps left_before b → Answered Takes b v (StandsKept new keeps left_after) result
  answered one v (Ok bytes) goes left = step one Present v (Some bytes.items) goes left
  answered one v (Err fault) goes left = step one Present v None goes left
