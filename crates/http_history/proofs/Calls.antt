-- The calls of a history over bytes.
use Rattle.std.proofs.Common.{◌≡◌, ℕ, List, [], ◌∷◌, Bool, true, false, ◌&&◌, refl, ap, ◌∙◌, not, if◌then◌else◌, Option, Some, None}
use Rattle.desk_history.specs.declared.identity.Identity.{Identity}
use Rattle.desk_history.specs.Message as core
use Rattle.desk_history.specs.Message.{Message, Of}
use Rattle.desk_history.specs.Operator as operator
use Rattle.desk_history.specs.Operator.{answer_to, next_pair}
use Rattle.http_history.specs.Texts.{call_text, is_success}
use Rattle.http_history.specs.History.{Origin, Pair, closes, is_lost, call_at, with_call, calls_of, text}
use Rattle.http_history.specs.Laws.{CallsAreHistory}

pub calls_of-more : (identity : Identity) (x : Pair) (H : List Pair) → calls_of identity (x ∷ H) ≡ with_call identity (call_at identity (calls_of identity H) x x.means) (calls_of identity H)
unfolding calls_of
calls_of-more identity x H = refl

pub calls_of-none : (identity : Identity) → calls_of identity [] ≡ []
unfolding calls_of
calls_of-none identity = refl

pub calls_are_history : CallsAreHistory
unfolding calls_of
calls_are_history identity [] = tt
calls_are_history identity (x ∷ H) = by (call_at identity (calls_of identity H) x x.means) (calls_are_history identity H) where
  by : (call : Option Message) → operator.IsHistory identity (calls_of identity H) → operator.IsHistory identity (with_call identity call (calls_of identity H))
  by None before = before
  by (Some m) before = ((λ ok. refl), before)

-- nothing is lost if the answer is the text
not_both : (b : Bool) → (b && not b) ≡ false
not_both true = refl
not_both false = refl

not_lost : (identity : Identity) (G : List core.Pair) (x : Pair) (m : Message) → x.answer ≡ call_text (closes x.origin) m (answer_to identity G m) → is_lost identity G x m ≡ false
not_lost identity G x (Of c r) is = refl
not_lost identity G x m is =
    let success = is_success (call_text (closes x.origin) m (answer_to identity G m)) in
    ap (λ (bytes : List ℕ). success && not (is_success bytes)) is ∙ not_both success

-- a message with its text adds exactly its call
pub right_pair : (identity : Identity) (key : List ℕ) (origin : Origin) (m : Message) (H : List Pair)
    → calls_of identity (record { origin = origin; answer = text identity key H origin (Some m); means = Some m } ∷ H) ≡ next_pair identity (calls_of identity H) m ∷ calls_of identity H
unfolding calls_of text
right_pair identity key origin m H =
    ap (λ (lost : Bool). with_call identity (if lost then None else Some m) (calls_of identity H))
    (not_lost identity (calls_of identity H) (record { origin = origin; answer = text identity key H origin (Some m); means = Some m }) m refl)

-- a message without a call adds none
pub none_pair : (identity : Identity) (origin : Origin) (answer : List ℕ) (H : List Pair)
    → calls_of identity (record { origin = origin; answer = answer; means = None } ∷ H) ≡ calls_of identity H
unfolding calls_of
none_pair identity origin answer H = refl
