-- A request that was accepted once writes nothing when it is sent again.
use Rattle.std.proofs.Common.{◌≡◌, ℕ, List, ◌∷◌, ◌++◌, Bool, true, false, inl, inr, refl, sym, ap, ◌∙◌, subst}
use Rattle.std.specs.Prelude.{if◌then◌else◌, find, IsTrue, Option, Some, None, option_map, is_some, Result, Ok, Err, bytes_eq}
use Rattle.std.specs.List.{list_any}
use Rattle.ach_files.specs.declared.fault.Fault.{Fault}
use Rattle.ach_files.specs.Facts.{FileFacts}
use Rattle.desk_rules.specs.declared.bodies.draft.Draft.{Draft}
use Rattle.desk_rules.specs.declared.bodies.draft.RetryDraft.{RetryDraft}
use Rattle.desk_rules.specs.declared.bodies.submission.Retry.{Retry}
use Rattle.desk_rules.specs.declared.bodies.submission.Submission.{Submission}
use Rattle.desk_rules.specs.declared.refusals.refusal.Refusal.{Refusal}
use Rattle.desk_rules.specs.declared.refusals.refusal.Refusal.TheVariants.{FileKeyReused}
use Rattle.desk_rules.specs.Laws.{SameContents}
use Rattle.desk_rules.specs.Retry.{retry_of}
use Rattle.desk_rules.specs.SameContent.{same_retry}
use Rattle.desk_rules.specs.Submission.{submission_of}
use Rattle.desk_history.specs.declared.answer.Answer.{Answer}
use Rattle.desk_history.specs.declared.answer.CallRefusal.TheVariants.{Rule}
use Rattle.desk_history.specs.declared.identity.Identity.{Identity}
use Rattle.desk_history.specs.declared.operations.TakenFile.{TakenFile}
use Rattle.desk_history.specs.Acceptance.{submissions, new_submission, new_retry, is_same_retry, is_same_submission}
use Rattle.desk_history.specs.Accepted.{AcceptedSubmission, is_called}
use Rattle.desk_history.specs.History.{part}
use Rattle.desk_history.specs.Message.{Message, Of, TakeFile, Pair}
use Rattle.desk_history.specs.Operator.{answer_to, intake_answer, IsHistory}
use Rattle.desk_history.specs.Intake.{has_key, taken_files}
use Rattle.desk_history.specs.Part.{Event}
use Rattle.desk_history.specs.Reply.{answer_of, receipt_of}
use Rattle.desk_history.specs.Reports.{submission_under}
use Rattle.desk_history.specs.Request as request
use Rattle.desk_history.proofs.Acceptance.Growing.{found_any, IsKnownSubmission, IsKnownRetry}
use Rattle.desk_history.proofs.Basics.Elements.{same_text}
use Rattle.desk_history.proofs.Repeated.FirstAnswers.{earlier_history, IsKnownMessage, known_message}
use Rattle.desk_history.proofs.Repeated.KnownFiles.{known_counts}
use Rattle.desk_history.proofs.Repeated.KnownRequests.{known_outcome}
use Rattle.desk_book.specs.declared.row.Row.{Row}
use Rattle.desk_book.specs.Book.{Book, book_of, rows, row_of}
use Rattle.desk_book.specs.BookLaws.{TellsReplies}
use Rattle.desk_book.specs.OnBook.{standing_in}
use Rattle.desk_book.specs.OnIntake.{Again, Refused, taking_on, taking_file}
use Rattle.desk_book.specs.OnMessages.{BookTells}
use Rattle.desk_book.specs.Repeating.{AreSameFiles, AreSameRetries, AreSameSubmissions, HaveSameContent, IsRepeated, TwiceActsOnce}
use Rattle.desk_book.specs.Requests.{row_if_new}
use Rattle.desk_book.specs.RowLaws.{row_of_result, VerdictsOnRows}
use Rattle.desk_book.specs.Standing.{Standing, is_row_under, submission_row, retry_row}
use Rattle.desk_book.specs.Writes.{is_new_taking, writes_on, ReadsLeave}

-- no row is added under a reference that a row has
none_added : (rs : List Row) (row : Row) (x : Result Row Refusal) → x ≡ Ok row → list_any (is_row_under row.content.reference) rs ≡ true → is_some (row_if_new rs x) ≡ false
none_added rs row x is among = ap (λ x. is_some (row_if_new rs x)) is ∙ ap (λ (t : Bool). is_some (if t then None else Some row)) among

-- a file whose key was taken is not a new one
no_new_file : (b : Book) (f : FileFacts) (t : TakenFile) → b.taken f.key ≡ Some t → (on : Option ℕ) → is_new_taking (taking_on b on (Ok f)) ≡ false
no_new_file b f t found None = refl
no_new_file b f t found (Some d) = ap (λ (o : Option TakenFile). is_new_taking (taking_file b d f o)) found ∙ by (bytes_eq t.digest f.digest) where
  by : (same : Bool) → is_new_taking (if same then Again t.answer else Refused (Rule FileKeyReused)) ≡ false
  by true = refl
  by false = refl

-- ---- what is known stays known under the same content

-- a draft says one thing
ok_same : {X E : Type 0} (r : Result X E) (x y : X) → r ≡ Ok x → r ≡ Ok y → x ≡ y
ok_same r x y a b = let both = sym a ∙ b in cc

module _ (same_contents : SameContents) where
  submission_again : (P : List Event) (A : List AcceptedSubmission) (d e : Draft) (a : AcceptedSubmission) (x y : Result Submission Refusal)
      → submission_of d ≡ x → submission_of e ≡ y → AreSameSubmissions x y → IsKnownSubmission P A d a → IsKnownSubmission P A e a
  submission_again P A d e a (Ok s) (Ok t) first again same known =
      let is : known.content ≡ t = ok_same (submission_of d) known.content s known.drafted first ∙ (same_contents.submissions s t).0 same in
      record {
        registered = known.registered;
        on = known.on;
        content = t;
        drafted = again;
        found = subst (λ (s : Submission). find (is_called s.reference) A ≡ Some a) is known.found;
        same = subst (λ (s : Submission). is_same_submission s a.content a.retry ≡ true) is known.same;
      }
  submission_again P A d e a (Ok s) (Err why) first again same known = absurd same
  submission_again P A d e a (Err why) y first again same known = absurd same

  same_retry_again : (r q : Retry) (o : Option Retry) → IsTrue (same_retry r q) → is_same_retry r o ≡ true → is_same_retry q o ≡ true
  same_retry_again r q None same is = cc
  same_retry_again r q (Some first) same is =
      let x = (same_contents.retries first r).0 is in
      let y = (same_contents.retries r q).0 same in
      (same_contents.retries first q).1 (record { of = x.of ∙ y.of; index = x.index ∙ y.index; day = x.day ∙ y.day; authorized = x.authorized ∙ y.authorized })

  retry_again : (P : List Event) (A : List AcceptedSubmission) (d e : RetryDraft) (a : AcceptedSubmission) (x y : Result Retry Refusal)
      → retry_of d ≡ x → retry_of e ≡ y → AreSameRetries x y → IsKnownRetry P A d a → IsKnownRetry P A e a
  retry_again P A d e a (Ok r) (Ok q) first again same known =
      let drafted : known.content ≡ r = ok_same (retry_of d) known.content r known.drafted first in
      record {
        registered = known.registered;
        on = known.on;
        content = q;
        drafted = again;
        found = subst (λ (reference : List ℕ). find (is_called reference) A ≡ Some a) (ap (λ (r : Retry). r.reference) drafted ∙ same.0) known.found;
        same = same_retry_again r q a.retry same.1 (subst (λ (r : Retry). is_same_retry r a.retry ≡ true) drafted known.same);
      }
  retry_again P A d e a (Ok r) (Err why) first again same known = absurd same
  retry_again P A d e a (Err why) y first again same known = absurd same

  file_again : (odfi : List ℕ) (H : List Pair) (answer : Answer) (x y : Result FileFacts Fault) → AreSameFiles x y
      → IsKnownMessage odfi H answer (TakeFile x) → IsKnownMessage odfi H answer (TakeFile y)
  file_again odfi H answer (Ok f) (Ok g) same known = (
    known.0,
    record {
      on = known.1.on;
      taken = known.1.taken;
      found = subst (λ (key : List ℕ). find (has_key key) (taken_files odfi H) ≡ Some known.1.taken) same.0 known.1.found;
      digest = subst (λ (digest : List ℕ). bytes_eq known.1.taken.digest digest ≡ true) same.1 known.1.digest;
      answer = known.1.answer;
    },
    known.2,
  )
  file_again odfi H answer (Ok f) (Err fault) same known = absurd same
  file_again odfi H answer (Err fault) y same known = absurd same

  known_again : (odfi : List ℕ) (H : List Pair) (answer : Answer) (first again : Message) → HaveSameContent first again
      → IsKnownMessage odfi H answer first → IsKnownMessage odfi H answer again
  known_again odfi H answer (Of c (request.Submit d)) (Of k (request.Submit e)) same known =
      subst (λ (k : List ℕ). IsKnownMessage odfi H answer (Of k (request.Submit e))) same.0
      (known.0, submission_again (part odfi H c) (submissions (part odfi H c)) d e known.0 (submission_of d) (submission_of e) refl refl same.1 known.1, known.2)
  known_again odfi H answer (Of c (request.Retry d)) (Of k (request.Retry e)) same known =
      subst (λ (k : List ℕ). IsKnownMessage odfi H answer (Of k (request.Retry e))) same.0
      (known.0, retry_again (part odfi H c) (submissions (part odfi H c)) d e known.0 (retry_of d) (retry_of e) refl refl same.1 known.1, known.2)
  known_again odfi H answer (TakeFile x) (TakeFile y) same known = file_again odfi H answer x y same known
  known_again odfi H answer first again same known = absurd same

  known_repeated : (odfi : List ℕ) (H : List Pair) (answer : Answer) (first again : Message) → IsRepeated first again
      → IsKnownMessage odfi H answer first → IsKnownMessage odfi H answer again
  known_repeated odfi H answer first again (inl is) known = subst (IsKnownMessage odfi H answer) is known
  known_repeated odfi H answer first again (inr same) known = known_again odfi H answer first again same known

-- ---- what is known is answered as it was, and writes nothing

known_answer : (identity : Identity) (H : List Pair) (answer : Answer) (m : Message) → IsKnownMessage identity.odfi H answer m → answer_to identity H m ≡ answer
known_answer identity H answer (Of c (request.Submit d)) known =
    let P = part identity.odfi H c in
    ap (λ r. answer_of (receipt_of r)) (known_outcome _ _ _ known.0 P (new_submission P (submissions P)) known.1) ∙ sym known.2
known_answer identity H answer (Of c (request.Retry d)) known =
    let P = part identity.odfi H c in
    ap (λ r. answer_of (receipt_of r)) (known_outcome _ _ _ known.0 P (new_retry P (submissions P)) known.1) ∙ sym known.2
known_answer identity H answer (TakeFile (Ok f)) known = ap intake_answer (known_counts identity.odfi f known.0 H known.1) ∙ sym known.2
known_answer identity H answer (TakeFile (Err fault)) known = absurd known
known_answer identity H answer m known = absurd known

module _ (replies : TellsReplies) (verdicts : VerdictsOnRows) where
  -- its row is among the company's
  row_among : (P : List Event) (a : AcceptedSubmission) (reference : List ℕ) → submission_under P reference ≡ Some a → list_any (is_row_under a.content.reference) (rows P) ≡ true
  row_among P a reference found =
      found_any (is_row_under reference) (is_row_under a.content.reference) (rows P) (row_of P a)
      (sym (verdicts.under P reference) ∙ ap (option_map (row_of P)) found)
      (same_text a.content.reference)

  writes_nothing : (identity : Identity) (key : List ℕ) (H : List Pair) → IsHistory identity H → (answer : Answer) (m : Message) → IsKnownMessage identity.odfi H answer m → writes_on (book_of identity key H) m ≡ false
  writes_nothing identity key H is answer (Of c (request.Submit d)) known =
      let P = part identity.odfi H c in
      none_added (rows P) (row_of P known.0) (submission_row (standing_in (book_of identity key H) c) d)
      (ap (λ (st : Standing). submission_row st d) (sym (replies.standings identity key H c is))
      ∙ sym (verdicts.submitted P d)
      ∙ ap (row_of_result P) (known_outcome _ _ _ known.0 P (new_submission P (submissions P)) known.1))
      (row_among P known.0 known.1.content.reference known.1.found)
  writes_nothing identity key H is answer (Of c (request.Retry d)) known =
      let P = part identity.odfi H c in
      none_added (rows P) (row_of P known.0) (retry_row (standing_in (book_of identity key H) c) d)
      (ap (λ (st : Standing). retry_row st d) (sym (replies.standings identity key H c is))
      ∙ sym (verdicts.retried P d)
      ∙ ap (row_of_result P) (known_outcome _ _ _ known.0 P (new_retry P (submissions P)) known.1))
      (row_among P known.0 known.1.content.reference known.1.found)
  writes_nothing identity key H is answer (TakeFile (Ok f)) known = no_new_file (book_of identity key H) f known.1.taken known.1.found (book_of identity key H).day
  writes_nothing identity key H is answer (TakeFile (Err fault)) known = absurd known
  writes_nothing identity key H is answer m known = absurd known

  pub twice_acts_once : SameContents → BookTells → ReadsLeave → TwiceActsOnce
  twice_acts_once same_contents tells leave identity key later first earlier again is once ok repeated =
      let H = later ++ first ∷ earlier in
      let first_known = known_message same_contents identity later first earlier (earlier_history identity later (first ∷ earlier) is) ok first.message refl once in
      let known = known_repeated same_contents identity.odfi H first.answer first.message again repeated first_known in
      record {
        answered = known_answer identity H first.answer again known;
        book = tells.steps identity key H again is ∙ leave.book (book_of identity key H) again (writes_nothing identity key H is first.answer again known);
      }
