-- A status of 200 or 201 is an accepted call.
use Rattle.std.proofs.Common.{◌≡◌, ℕ, List, [], ◌++◌, length, arith, Bool, true, false, ◌⊎◌, refl, ap, ◌∙◌, inl, inr}
use Rattle.std.specs.Prelude.{⊤, unwrap_or, codes, decimal}
use Rattle.std.proofs.lemmas.Fmt.{decimal-digits_of}
use Rattle.http.specs.StatusCode.{reason_phrase}
use Rattle.desk_rules.specs.declared.refusals.names.RefusalName.{RefusalName}
use Rattle.desk_rules.specs.declared.refusals.names.RefusalName.TheVariants as names
use Rattle.desk_rules.specs.RefusalNames as refusal_names
use Rattle.desk_rules.specs.RefusalNames.{name_of}
use Rattle.http_response.specs.declared.response.Content.{Content}
use Rattle.http_response.specs.Response.{status_line, line, header_lines, response_text}
use Rattle.desk_history.specs.declared.answer.Answer.{Answer}
use Rattle.desk_history.specs.declared.answer.Answer.TheVariants as answers
use Rattle.desk_history.specs.declared.answer.CallRefusal.{CallRefusal}
use Rattle.desk_history.specs.declared.answer.CallRefusal.TheVariants.{Rule, BadFile, BadCalendar}
use Rattle.desk_history.specs.Message.{Message, is_accepted}
use Rattle.http_answers.specs.declared.statuses.CallKind.{CallKind}
use Rattle.http_answers.specs.declared.statuses.CallKind.TheVariants as kinds
use Rattle.http_answers.specs.Answers.{answer_body}
use Rattle.http_answers.specs.Refusals.{refusal_status}
use Rattle.http_answers.specs.Statuses.{kind_of, status_of, content_of}
use Rattle.http_history.specs.Texts.{call_text, is_success}

-- ---- the digits of a status

-- a response with a status of these digits
abbrev spelled : (digits : List ℕ) → (status : ℕ) → Content → (closes : Bool) → (body : List ℕ) → List ℕ
spelled digits status content closes body =
    codes "HTTP/1.1 " ++ digits ++ line (codes " ") (unwrap_or (reason_phrase status) []) ++ header_lines content closes (length body) ++ body

pub response_spelled : (status : ℕ) (digits : List ℕ) (content : Content) (closes : Bool) (body : List ℕ) → decimal status ≡ digits
    → response_text status content closes body ≡ spelled digits status content closes body
unfolding status_line
response_spelled status digits content closes body is = ap (λ (s : List ℕ). spelled s status content closes body) is

begins_200 : (rest fields body : List ℕ) → is_success (codes "HTTP/1.1 " ++ codes "200" ++ rest ++ fields ++ body) ≡ true
unfolding is_success
begins_200 rest fields body = refl

begins_201 : (rest fields body : List ℕ) → is_success (codes "HTTP/1.1 " ++ codes "201" ++ rest ++ fields ++ body) ≡ true
unfolding is_success
begins_201 rest fields body = refl

begins_409 : (rest fields body : List ℕ) → is_success (codes "HTTP/1.1 " ++ codes "409" ++ rest ++ fields ++ body) ≡ false
unfolding is_success
begins_409 rest fields body = refl

begins_422 : (rest fields body : List ℕ) → is_success (codes "HTTP/1.1 " ++ codes "422" ++ rest ++ fields ++ body) ≡ false
unfolding is_success
begins_422 rest fields body = refl

module _ (content : Content) (closes : Bool) (body : List ℕ) where
  abbrev phrase : ℕ → List ℕ
  phrase status = line (codes " ") (unwrap_or (reason_phrase status) [])

  abbrev fields : List ℕ
  fields = header_lines content closes (length body)

  succeeds_200 : is_success (response_text 200 content closes body) ≡ true
  succeeds_200 =
      ap is_success (response_spelled 200 (codes "200") content closes body (decimal-digits_of 200 (omega arith) (omega arith)))
      ∙ begins_200 (phrase 200) fields body

  succeeds_201 : is_success (response_text 201 content closes body) ≡ true
  succeeds_201 =
      ap is_success (response_spelled 201 (codes "201") content closes body (decimal-digits_of 201 (omega arith) (omega arith)))
      ∙ begins_201 (phrase 201) fields body

  fails_409 : is_success (response_text 409 content closes body) ≡ false
  fails_409 =
      ap is_success (response_spelled 409 (codes "409") content closes body (decimal-digits_of 409 (omega arith) (omega arith)))
      ∙ begins_409 (phrase 409) fields body

  fails_422 : is_success (response_text 422 content closes body) ≡ false
  fails_422 =
      ap is_success (response_spelled 422 (codes "422") content closes body (decimal-digits_of 422 (omega arith) (omega arith)))
      ∙ begins_422 (phrase 422) fields body

-- ---- a refusal does not succeed

abbrev pub IsRefused : ℕ → Type 0
IsRefused status = (status ≡ 409) ⊎ (status ≡ 422)

name_refused : (n : RefusalName) → IsRefused (refusal_names.status_of n)
name_refused names.BadField = inr refl
name_refused names.TooManyEntries = inr refl
name_refused names.TotalTooLarge = inr refl
name_refused names.DateRange = inr refl
name_refused names.BadFile = inr refl
name_refused names.BadCalendar = inr refl
name_refused n = inl refl

pub refused : (why : CallRefusal) → IsRefused (refusal_status why)
refused (Rule why) = name_refused (name_of why)
refused (BadFile fault) = inr refl
refused (BadCalendar fault) = inr refl

fails : (status : ℕ) → IsRefused status → (content : Content) (closes : Bool) (body : List ℕ) → is_success (response_text status content closes body) ≡ false
fails status is content closes body = elim is as (λ _. is_success (response_text status content closes body) ≡ false) [
  | inl e ↦ ap (λ (s : ℕ). is_success (response_text s content closes body)) e ∙ fails_409 content closes body
  | inr e ↦ ap (λ (s : ℕ). is_success (response_text s content closes body)) e ∙ fails_422 content closes body
]

-- ---- an answer

-- its status is 200 or 201 wherever the call is done
abbrev pub IsSure : CallKind → Type 0
IsSure kinds.Creates = ⊤
IsSure kinds.LooksUp = ⊥
IsSure kinds.Other = ⊤

answer_accepts : (kind : CallKind) → IsSure kind → (content : Content) (closes : Bool) (body : List ℕ) (a : Answer) → is_success (response_text (status_of kind a) content closes body) ≡ is_accepted a
answer_accepts kinds.LooksUp sure content closes body a = absurd sure
answer_accepts kinds.Creates sure content closes body (answers.Done d) = succeeds_201 content closes body
answer_accepts kinds.Other sure content closes body (answers.Done d) = succeeds_200 content closes body
answer_accepts kinds.Creates sure content closes body (answers.Refused why) = fails (refusal_status why) (refused why) content closes body
answer_accepts kinds.Other sure content closes body (answers.Refused why) = fails (refusal_status why) (refused why) content closes body

pub accepts : (closes : Bool) (m : Message) (a : Answer) → IsSure (kind_of m) → is_success (call_text closes m a) ≡ is_accepted a
unfolding call_text
accepts closes m a sure = answer_accepts (kind_of m) sure (content_of a) closes (answer_body a) a
