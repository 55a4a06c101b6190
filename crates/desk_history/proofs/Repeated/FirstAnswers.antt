-- Something accepted once is known from then on, and is answered as it was the first time.
use Rattle.std.proofs.Common.{◌≡◌, ℕ, List, [], ◌∷◌, ◌++◌, true, ◌&&◌, refl, sym, ap, ◌∙◌, subst, append_assoc, Option, Some, None, Result, Ok, Err}
use Rattle.ach_files.specs.declared.fault.Fault.{Fault}
use Rattle.ach_files.specs.Facts.{FileFacts}
use Rattle.desk_rules.specs.declared.bodies.draft.Draft.{Draft}
use Rattle.desk_rules.specs.declared.bodies.draft.RetryDraft.{RetryDraft}
use Rattle.desk_rules.specs.declared.refusals.refusal.Refusal as rules
use Rattle.desk_rules.specs.Laws.{SameContents}
use Rattle.desk_history.specs.declared.answer.Answer.{Answer}
use Rattle.desk_history.specs.declared.answer.CallRefusal.{CallRefusal}
use Rattle.desk_history.specs.declared.identity.Identity.{Identity}
use Rattle.desk_history.specs.declared.operations.Intake.{Intake}
use Rattle.desk_history.specs.Accepted.{AcceptedSubmission}
use Rattle.desk_history.specs.Acceptance.{submissions, accepted_submission, accepted_retry, new_submission, new_retry}
use Rattle.desk_history.specs.History.{day, is_new, part, sent_entries, request_event, events_for}
use Rattle.desk_history.specs.Intake.{take_file, intake_on_day}
use Rattle.desk_history.specs.Message.{Message, Of, TakeFile, Pair, is_accepted}
use Rattle.desk_history.specs.Operator.{answer_to, intake_answer, IsHistory}
use Rattle.desk_history.specs.Part.{Event, Asked, is_registered}
use Rattle.desk_history.specs.Repeated.{acts_once, FirstAnswerStands}
use Rattle.desk_history.specs.Reply.{answer_of, receipt_of}
use Rattle.desk_history.specs.Request as request
use Rattle.desk_history.specs.Request.{Request}
use Rattle.desk_history.proofs.Acceptance.Growing.{IsKnownSubmission, IsKnownRetry}
use Rattle.desk_history.proofs.Basics.Elements.{same_text}
use Rattle.desk_history.proofs.Repeated.KnownFiles.{IsKnownFile, known_counts, taken_again}
use Rattle.desk_history.proofs.Repeated.KnownRequests.{known_outcome, submitted_again, retried_again}

-- ---- histories and parts

pub earlier_history : (identity : Identity) (later H : List Pair) → IsHistory identity (later ++ H) → IsHistory identity H
earlier_history identity [] H is = is
earlier_history identity (x ∷ later) H is = earlier_history identity later H is.1

-- a part with the events that came since
pub record HasGrown (odfi : List ℕ) (later H : List Pair) (c : List ℕ) : Type 0 where
  pub more : List Event
  pub is : part odfi (later ++ H) c ≡ more ++ part odfi H c

part_grows : (odfi : List ℕ) (later H : List Pair) (c : List ℕ) → HasGrown odfi later H c
part_grows odfi [] H c = record { more = []; is = refl }
part_grows odfi (x ∷ later) H c =
    let grown = part_grows odfi later H c in
    let given = events_for odfi (sent_entries odfi (later ++ H)) (is_new (later ++ H) x.message) c (is_accepted x.answer) x.message (part odfi (later ++ H) c) in
    record { more = given ++ grown.more; is = ap (λ (P : List Event). given ++ P) grown.is ∙ sym (append_assoc given grown.more (part odfi H c)) }

-- the part of a registered company has its request
record HasAsked (odfi : List ℕ) (later : List Pair) (x : Pair) (H : List Pair) (c : List ℕ) (r : Request) : Type 0 where
  more : List Event
  is : part odfi (later ++ x ∷ H) c ≡ more ++ Asked r ∷ part odfi H c

part_has_asked : (odfi : List ℕ) (later : List Pair) (x : Pair) (H : List Pair) (c : List ℕ) (r : Request) → request_event true r ≡ Asked r ∷ [] → x.message ≡ Of c r
    → is_registered (part odfi H c) ≡ true → HasAsked odfi later x H c r
part_has_asked odfi later x H c r given message registered =
    let P = part odfi H c in
    let grown = part_grows odfi later (x ∷ H) c in
    let asked : part odfi (x ∷ H) c ≡ Asked r ∷ P =
    ap (λ (m : Message). events_for odfi (sent_entries odfi H) (is_new H m) c (is_accepted x.answer) m P ++ P) message
    ∙ (λ i. request_event (same_text c i && registered i) r ++ P)
    ∙ ap (λ (es : List Event). es ++ P) given in
    record { more = grown.more; is = grown.is ∙ ap (λ (es : List Event). grown.more ++ es) asked }

-- ---- what is known

-- what was accepted is known, and this is its answer
abbrev pub IsKnownMessage : List ℕ → List Pair → Answer → Message → Type 0
IsKnownMessage odfi H answer (Of c (request.Submit d)) = (a : AcceptedSubmission) × IsKnownSubmission (part odfi H c) (submissions (part odfi H c)) d a × (answer ≡ answer_of (receipt_of (Ok a)))
IsKnownMessage odfi H answer (Of c (request.Retry d)) = (a : AcceptedSubmission) × IsKnownRetry (part odfi H c) (submissions (part odfi H c)) d a × (answer ≡ answer_of (receipt_of (Ok a)))
IsKnownMessage odfi H answer (TakeFile (Ok f)) = (counts : Intake) × IsKnownFile odfi f counts H × (answer ≡ intake_answer (Ok counts))
IsKnownMessage odfi H answer m = ⊥

-- a message with a faulty file takes no file
no_file : (odfi : List ℕ) (H : List Pair) (fault : Fault) (on : Option ℕ) → is_accepted (intake_answer (intake_on_day odfi H on (Err fault))) ≡ true → ⊥
no_file odfi H fault None accepted = cc
no_file odfi H fault (Some d) accepted = cc

module _ (same_contents : SameContents) where
  known_submission : (odfi : List ℕ) (later : List Pair) (x : Pair) (H : List Pair) (c : List ℕ) (d : Draft) (a : AcceptedSubmission) → x.message ≡ Of c (request.Submit d)
      → accepted_submission (part odfi H c) (submissions (part odfi H c)) d ≡ Ok a → IsKnownSubmission (part odfi (later ++ x ∷ H) c) (submissions (part odfi (later ++ x ∷ H) c)) d a
  known_submission odfi later x H c d a message accepted =
      let P = part odfi H c in
      let asked = part_has_asked odfi later x H c (request.Submit d) refl message (submitted_again same_contents P d a [] accepted).registered in
      subst (λ (Q : List Event). IsKnownSubmission Q (submissions Q) d a) (sym asked.is) (submitted_again same_contents P d a asked.more accepted)

  known_retry : (odfi : List ℕ) (later : List Pair) (x : Pair) (H : List Pair) (c : List ℕ) (d : RetryDraft) (a : AcceptedSubmission) → x.message ≡ Of c (request.Retry d)
      → accepted_retry (part odfi H c) (submissions (part odfi H c)) d ≡ Ok a → IsKnownRetry (part odfi (later ++ x ∷ H) c) (submissions (part odfi (later ++ x ∷ H) c)) d a
  known_retry odfi later x H c d a message accepted =
      let P = part odfi H c in
      let asked = part_has_asked odfi later x H c (request.Retry d) refl message (retried_again same_contents P d a [] accepted).registered in
      subst (λ (Q : List Event). IsKnownRetry Q (submissions Q) d a) (sym asked.is) (retried_again same_contents P d a asked.more accepted)

  pub known_message : (identity : Identity) (later : List Pair) (x : Pair) (H : List Pair) → IsHistory identity (x ∷ H) → is_accepted x.answer ≡ true
      → (m : Message) → x.message ≡ m → acts_once m ≡ true → IsKnownMessage identity.odfi (later ++ x ∷ H) x.answer m
  known_message identity later x H is ok = by where
    odfi : List ℕ
    odfi = identity.odfi

    told : (m : Message) → x.message ≡ m → x.answer ≡ answer_to identity H m
    told m message = is.0 ok ∙ ap (answer_to identity H) message

    accepted : (a : Answer) → x.answer ≡ a → is_accepted a ≡ true
    accepted a same = ap is_accepted (sym same) ∙ ok

    by_submission : (c : List ℕ) (d : Draft) → x.message ≡ Of c (request.Submit d) → (r : Result AcceptedSubmission rules.Refusal) → accepted_submission (part odfi H c) (submissions (part odfi H c)) d ≡ r
        → x.answer ≡ answer_of (receipt_of r) → IsKnownMessage odfi (later ++ x ∷ H) x.answer (Of c (request.Submit d))
    by_submission c d message (Ok a) outcome told = (a, known_submission odfi later x H c d a message outcome, told)
    by_submission c d message (Err why) outcome told = let refused = accepted (answer_of (receipt_of (Err why))) told in cc

    by_retry : (c : List ℕ) (d : RetryDraft) → x.message ≡ Of c (request.Retry d) → (r : Result AcceptedSubmission rules.Refusal) → accepted_retry (part odfi H c) (submissions (part odfi H c)) d ≡ r
        → x.answer ≡ answer_of (receipt_of r) → IsKnownMessage odfi (later ++ x ∷ H) x.answer (Of c (request.Retry d))
    by_retry c d message (Ok a) outcome told = (a, known_retry odfi later x H c d a message outcome, told)
    by_retry c d message (Err why) outcome told = let refused = accepted (answer_of (receipt_of (Err why))) told in cc

    by_file : (f : FileFacts) → x.message ≡ TakeFile (Ok f) → (r : Result Intake CallRefusal) → take_file odfi H (Ok f) ≡ r
        → x.answer ≡ intake_answer r → IsKnownMessage odfi (later ++ x ∷ H) x.answer (TakeFile (Ok f))
    by_file f message (Ok counts) outcome told = (counts, taken_again odfi later x H f counts message ok outcome, told)
    by_file f message (Err why) outcome told = let refused = accepted (intake_answer (Err why)) told in cc

    by : (m : Message) → x.message ≡ m → acts_once m ≡ true → IsKnownMessage odfi (later ++ x ∷ H) x.answer m
    by (Of c (request.Submit d)) message once = by_submission c d message (accepted_submission (part odfi H c) (submissions (part odfi H c)) d) refl (told (Of c (request.Submit d)) message)
    by (Of c (request.Retry d)) message once = by_retry c d message (accepted_retry (part odfi H c) (submissions (part odfi H c)) d) refl (told (Of c (request.Retry d)) message)
    by (TakeFile (Ok f)) message once = by_file f message (take_file odfi H (Ok f)) refl (told (TakeFile (Ok f)) message)
    by (TakeFile (Err fault)) message once = absurd (no_file odfi H fault (day H) (accepted (answer_to identity H (TakeFile (Err fault))) (told (TakeFile (Err fault)) message)))
    by m message once = cc

  pub first_answer_stands : FirstAnswerStands
  first_answer_stands identity later x H is once ok =
      by x.message (known_message identity later x H (earlier_history identity later (x ∷ H) is) ok x.message refl once)
    where
      G : List Pair
      G = later ++ x ∷ H

      by : (m : Message) → IsKnownMessage identity.odfi G x.answer m → answer_to identity G m ≡ x.answer
      by (Of c (request.Submit d)) known =
          let P = part identity.odfi G c in
          ap (λ r. answer_of (receipt_of r)) (known_outcome _ _ _ known.0 P (new_submission P (submissions P)) known.1) ∙ sym known.2
      by (Of c (request.Retry d)) known =
          let P = part identity.odfi G c in
          ap (λ r. answer_of (receipt_of r)) (known_outcome _ _ _ known.0 P (new_retry P (submissions P)) known.1) ∙ sym known.2
      by (TakeFile (Ok f)) known = ap intake_answer (known_counts identity.odfi f known.0 G known.1) ∙ sym known.2
      by (TakeFile (Err fault)) known = absurd known
      by m known = absurd known
