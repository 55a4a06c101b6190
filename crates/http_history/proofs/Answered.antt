-- No text of the definitions has the status 503.
use Rattle.std.proofs.Common.{◌≡◌, ℕ, List, [], ◌∷◌, ◌++◌, arith, Bool, true, false, ◌⊎◌, inl, inr, refl, sym, ap, ◌∙◌, subst, Option, Some, None, Ok, Err, codes, decimal}
use Rattle.std.proofs.lemmas.Fmt.{decimal-digits_of}
use Rattle.http_response.specs.declared.response.Content.{Content}
use Rattle.http_response.specs.declared.response.Content.TheVariants.{Json}
use Rattle.http_response.specs.Response.{response_text, unavailable_text}
use Rattle.desk_history.specs.declared.answer.Answer.{Answer}
use Rattle.desk_history.specs.declared.answer.Answer.TheVariants as answers
use Rattle.desk_history.specs.declared.answer.Outcome.{Outcome}
use Rattle.desk_history.specs.declared.answer.Outcome.TheVariants as outcomes
use Rattle.desk_history.specs.declared.identity.Identity.{Identity}
use Rattle.desk_history.specs.Message as core
use Rattle.desk_history.specs.Message.{Message}
use Rattle.desk_history.specs.Operator.{answer_to}
use Rattle.desk_book.specs.Book.{book_of}
use Rattle.http_message.specs.Message as messages
use Rattle.http_answers.specs.declared.faults.MessageFault.{MessageFault}
use Rattle.http_answers.specs.declared.faults.MessageFault.TheVariants as faults
use Rattle.http_answers.specs.declared.statuses.CallKind.{CallKind}
use Rattle.http_answers.specs.declared.statuses.CallKind.TheVariants as kinds
use Rattle.http_answers.specs.Answers.{answer_body}
use Rattle.http_answers.specs.Faults.{fault_status, message_fault_body}
use Rattle.http_answers.specs.Refusals.{refusal_status}
use Rattle.http_answers.specs.Statuses.{kind_of, status_of, content_of}
use Rattle.http_history.specs.Texts.{call_text, fault_text, is_unavailable}
use Rattle.http_history.specs.Verdict.{Verdict, verdict_on}
use Rattle.http_history.specs.History.{Origin, taken_by, from_facts, Pair, closes, calls_of, text_in, text, IsAnswer, IsHistory}
use Rattle.http_history.specs.Laws.{AllAnswered, NoneUnavailable}
use Rattle.http_history.proofs.Success.{response_spelled, IsRefused, refused}

-- ---- the first digit of a status

abbrev IsFirstTwoOrFour : ℕ → Type 0
IsFirstTwoOrFour status = (rest : List ℕ) × ((decimal status ≡ 50 ∷ rest) ⊎ (decimal status ≡ 52 ∷ rest))

begins_2 : (rest : List ℕ) → is_unavailable (codes "HTTP/1.1 " ++ 50 ∷ rest) ≡ false
unfolding is_unavailable
begins_2 rest = refl

begins_4 : (rest : List ℕ) → is_unavailable (codes "HTTP/1.1 " ++ 52 ∷ rest) ≡ false
unfolding is_unavailable
begins_4 rest = refl

response_answers : (status : ℕ) → IsFirstTwoOrFour status → (content : Content) (closes : Bool) (body : List ℕ)
    → is_unavailable (response_text status content closes body) ≡ false
response_answers status (rest, inl is) content closes body = ap is_unavailable (response_spelled status (50 ∷ rest) content closes body is) ∙ begins_2 _
response_answers status (rest, inr is) content closes body = ap is_unavailable (response_spelled status (52 ∷ rest) content closes body is) ∙ begins_4 _

first_200 : IsFirstTwoOrFour 200
first_200 = (codes "00", inl (decimal-digits_of 200 (omega arith) (omega arith)))

first_201 : IsFirstTwoOrFour 201
first_201 = (codes "01", inl (decimal-digits_of 201 (omega arith) (omega arith)))

first_400 : IsFirstTwoOrFour 400
first_400 = (codes "00", inr (decimal-digits_of 400 (omega arith) (omega arith)))

first_403 : IsFirstTwoOrFour 403
first_403 = (codes "03", inr (decimal-digits_of 403 (omega arith) (omega arith)))

first_404 : IsFirstTwoOrFour 404
first_404 = (codes "04", inr (decimal-digits_of 404 (omega arith) (omega arith)))

first_405 : IsFirstTwoOrFour 405
first_405 = (codes "05", inr (decimal-digits_of 405 (omega arith) (omega arith)))

first_409 : IsFirstTwoOrFour 409
first_409 = (codes "09", inr (decimal-digits_of 409 (omega arith) (omega arith)))

first_411 : IsFirstTwoOrFour 411
first_411 = (codes "11", inr (decimal-digits_of 411 (omega arith) (omega arith)))

first_413 : IsFirstTwoOrFour 413
first_413 = (codes "13", inr (decimal-digits_of 413 (omega arith) (omega arith)))

first_422 : IsFirstTwoOrFour 422
first_422 = (codes "22", inr (decimal-digits_of 422 (omega arith) (omega arith)))

-- ---- the statuses of faults and of answers

of_fault : (fault : MessageFault) → IsFirstTwoOrFour (fault_status fault)
of_fault faults.BadHead = first_400
of_fault faults.LengthRequired = first_411
of_fault faults.TooLarge = first_413
of_fault faults.NotFound = first_404
of_fault faults.BadMethod = first_405
of_fault faults.Denied = first_403
of_fault faults.BadJson = first_400
of_fault faults.NoReference = first_404
of_fault faults.NoFile = first_404

of_refusal : (status : ℕ) → IsRefused status → IsFirstTwoOrFour status
of_refusal status (inl is) = subst IsFirstTwoOrFour (sym is) first_409
of_refusal status (inr is) = subst IsFirstTwoOrFour (sym is) first_422

of_outcome : (kind : CallKind) (outcome : Outcome) → IsFirstTwoOrFour (status_of kind (answers.Done outcome))
of_outcome kinds.Creates outcome = first_201
of_outcome kinds.Other outcome = first_200
of_outcome kinds.LooksUp (outcomes.Found None) = first_404
of_outcome kinds.LooksUp (outcomes.Found (Some report)) = first_200
of_outcome kinds.LooksUp (outcomes.File None) = first_404
of_outcome kinds.LooksUp (outcomes.File (Some file)) = first_200
of_outcome kinds.LooksUp outcome = first_200

of_answer : (kind : CallKind) (a : Answer) → IsFirstTwoOrFour (status_of kind a)
of_answer kind (answers.Done outcome) = of_outcome kind outcome
of_answer kind (answers.Refused why) = of_refusal (refusal_status why) (refused why)

-- ---- texts

call_answers : (closes : Bool) (m : Message) (a : Answer) → is_unavailable (call_text closes m a) ≡ false
unfolding call_text
call_answers closes m a = response_answers (status_of (kind_of m) a) (of_answer (kind_of m) a) (content_of a) closes (answer_body a)

none_answers : is_unavailable [] ≡ false
unfolding is_unavailable
none_answers = refl

fault_answers : (closes : Bool) (verdict : Verdict) → is_unavailable (fault_text closes verdict) ≡ false
unfolding fault_text
fault_answers closes (Err fault) = response_answers (fault_status fault) (of_fault fault) Json closes (message_fault_body fault)
fault_answers closes (Ok call) = none_answers

in_calls : (identity : Identity) (key : List ℕ) (G : List core.Pair) (origin : Origin) (means : Option Message) → is_unavailable (text_in identity key G origin means) ≡ false
in_calls identity key G origin (Some m) = call_answers (closes origin) m (answer_to identity G m)
in_calls identity key G (taken_by version v) None = fault_answers (messages.closes v) (verdict_on (book_of identity key G) v)
in_calls identity key G from_facts None = none_answers

pub text_answers : (identity : Identity) (key : List ℕ) (H : List Pair) (origin : Origin) (means : Option Message) → is_unavailable (text identity key H origin means) ≡ false
unfolding text
text_answers identity key H origin means = in_calls identity key (calls_of identity H) origin means

-- the text is an answer
pub right_answer : (identity : Identity) (key : List ℕ) (H : List Pair) (origin : Origin) (means : Option Message) (answer : List ℕ) → answer ≡ text identity key H origin means
    → IsAnswer (text identity key H origin means) answer
right_answer identity key H origin means answer is = record {
  answered = ap is_unavailable is ∙ text_answers identity key H origin means;
  said = λ _. is;
}

-- and is one to what it answers
pub right_text : (identity : Identity) (key : List ℕ) (origin : Origin) (means : Option Message) (H : List Pair) → IsAnswer (text identity key H origin means) (text identity key H origin means)
right_text identity key origin means H = right_answer identity key H origin means (text identity key H origin means) refl

-- ---- the law

told : is_unavailable unavailable_text ≡ true
unfolding is_unavailable
told = refl

none_told : (answer : List ℕ) → is_unavailable answer ≡ false → answer ≡ unavailable_text → ⊥
none_told answer other is = let both : false ≡ true = sym other ∙ ap is_unavailable is ∙ told in cc

pairs : (identity : Identity) (key : List ℕ) (H : List Pair) → IsHistory identity key H → AllAnswered H
pairs identity key [] is = tt
pairs identity key (x ∷ H) is = (none_told x.answer is.1.answered, pairs identity key H is.2)

pub none_unavailable : NoneUnavailable
none_unavailable = record { told = told; texts = text_answers; pairs = pairs }
