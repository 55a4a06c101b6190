-- Messages with their answers.
use Rattle.std.specs.Prelude.{◌≡◌, ℕ, ◌||◌, Bool, List, [], ◌∷◌, flat_map, map, Option, Some, None, is_none, unwrap_or, IsFalse, Result, Ok, Err, Vec}
use Rattle.std.specs.declared.alloc.Global.{Global}
use Rattle.http_message.specs.Message.{MessageValue, message_value, closes}
use Rattle.http_message.specs.declared.message.Message.{Message}
use Rattle.http_response.specs.Response.{unavailable_text}
use Rattle.http_session.specs.declared.answers.Unavailable.{Unavailable}

-- a message and its answer, or none where it was answered 503
pub record Exchange : Type 0 where
  pub message : MessageValue
  pub answer : Option (List ℕ)

-- what is written for the answer
abbrev pub response_of : Option (List ℕ) → List ℕ
response_of answer = unwrap_or answer unavailable_text

-- what is written for the answers, in their order
abbrev pub responses_of : List Exchange → List ℕ
responses_of exchanges = flat_map (λ x. response_of x.answer) exchanges

abbrev pub messages_of : List Exchange → List MessageValue
messages_of exchanges = map (λ x. x.message) exchanges

-- whether the session ends after a message with this answer
abbrev pub ends_after : MessageValue → Option (List ℕ) → Bool
ends_after message answer = is_none answer || closes message

-- the session goes on after the exchange
abbrev pub GoesOn : Exchange → Type 0
GoesOn x = IsFalse (ends_after x.message x.answer)

-- the steps of these exchanges, in their order, lead from one thing that an answerer represents to another
abbrev pub Follows : {B : Type 0} → (B → MessageValue → Option (List ℕ) → B → Type 0) → B → List Exchange → B → Type 0
Follows step before [] after = after ≡ before
Follows {B} step before (x ∷ xs) after = (mid : B) × step before x.message x.answer mid × Follows step mid xs after

-- If it is clean, the answerer represents what these messages with their answers make of whatever it represented.
abbrev pub StandsAfter : {B : Type 0} → (B → MessageValue → Option (List ℕ) → B → Type 0) → (is_clean : Type 0) → (stood stands : B → Type 0)
    → List Exchange → Type 0
StandsAfter {B} step is_clean stood stands exchanges =
    is_clean → (w : B) → stood w → (v : B) × Follows step w exchanges v × stands v

-- The answer, or its absence, is a step from what the answerer represented to what it represents afterwards.
abbrev pub Answered : {B : Type 0} → (B → MessageValue → Option (List ℕ) → B → Type 0) → B → MessageValue → (B → Type 0) → Result (Vec ℕ Global) Unavailable → Type 0
Answered {B} step before message stands (Ok bytes) = (after : B) × step before message (Some bytes.items) after × stands after
Answered {B} step before message stands (Err fault) = (after : B) × step before message None after × stands after

-- If the answerer is clean, it answers so whatever it represented.
abbrev pub AnswersAs : {D B : Type 0} → (is_clean : D → Type 0) → (stands_for : D → B → Type 0)
    → (step : B → MessageValue → Option (List ℕ) → B → Type 0) → (old new : D)
    → Message → Result (Vec ℕ Global) Unavailable → Type 0
AnswersAs {D} {B} is_clean stands_for step old new message result =
    is_clean new → (w : B) → stands_for old w → Answered step w (message_value message) (stands_for new) result
