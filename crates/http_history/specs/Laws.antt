-- Laws of all histories over bytes.
use Rattle.std.specs.Prelude.{◌≡◌, ◌≢◌, ◌<◌, ◌≤◌, ◌^◌, ◌⊎◌, ⊤, ℕ, true, false, List, [], ◌∷◌, ◌++◌, length, map, count_by, Option, option_to_list}
use Rattle.desk_history.specs.declared.identity.Identity.{Identity}
use Rattle.desk_history.specs.Alone as core_alone
use Rattle.desk_history.specs.Alone.{is_answer}
use Rattle.desk_history.specs.Authorizations.{without_authorizations, HaveNoAuthorizations}
use Rattle.desk_history.specs.History as core
use Rattle.desk_history.specs.History.{sent_entries}
use Rattle.desk_history.specs.Message as core_messages
use Rattle.desk_history.specs.Message.{Message}
use Rattle.desk_history.specs.Operator as operator
use Rattle.http_message.specs.Message.{MessageValue}
use Rattle.http_response.specs.Response.{unavailable_text}
use Rattle.http_routes.specs.declared.route.CompanyRoute.{CompanyRoute}
use Rattle.http_history.specs.Verdict.{Verdict, verdict_on, Means}
use Rattle.http_history.specs.Versions.{Version, First}
use Rattle.http_history.specs.Texts.{is_success, is_unavailable}
use Rattle.http_history.specs.History.{Origin, taken_by, from_message, from_first, from_facts, Pair, call_at, calls_of, text, IsReadAs, IsHistory, book_behind}
use Rattle.http_history.specs.Part.{Posted, core_events, origin_events, part}
use Rattle.http_history.specs.Reply.{reply, IsToCompany}
use Rattle.http_history.specs.Alone.{alone}

-- what a message comes to means one thing, and no other
pub record OneMeaning : Type 0 where
  pub some : (v : Verdict) → (means : Option Message) × Means v means
  pub only : (v : Verdict) (means meant : Option Message) → Means v means → Means v meant → means ≡ meant

-- none was answered 503
abbrev pub AllAnswered : List Pair → Type 0
AllAnswered [] = ⊤
AllAnswered (x ∷ H) = (x.answer ≢ unavailable_text) × AllAnswered H

-- A 503 does not count as an answer: no text of the definitions has this status, and no pair of a history
pub record NoneUnavailable : Type 0 where
  pub told : is_unavailable unavailable_text ≡ true
  pub texts : (identity : Identity) (key : List ℕ) (H : List Pair) (origin : Origin) (means : Option Message)
      → is_unavailable (text identity key H origin means) ≡ false
  pub pairs : (identity : Identity) (key : List ℕ) (H : List Pair) → IsHistory identity key H → AllAnswered H

-- the calls of a history over bytes are a history
abbrev pub CallsAreHistory : Type 0
CallsAreHistory = (identity : Identity) (H : List Pair) → operator.IsHistory identity (calls_of identity H)

-- a company's part is one, over bytes and over calls
abbrev pub SamePart : Type 0
SamePart = (identity : Identity) (key : List ℕ) (H : List Pair) (c : List ℕ) → IsHistory identity key H
    → core_events (part identity H c) ≡ core.part identity.odfi (calls_of identity H) c

-- a history, and what a message comes to after it
pub record IsMeant (identity : Identity) (key : List ℕ) (H : List Pair) (v : MessageValue) (means : Option Message) : Type 0 where
  pub history : IsHistory identity key H
  pub read : Means (verdict_on (book_behind identity key H) v) means

-- the bytes that a company gets are made of its part and its message alone
abbrev pub OwnText : Type 0
OwnText = (identity : Identity) (key : List ℕ) (H : List Pair) (c : List ℕ) (v : MessageValue) (means : Option Message)
    → IsMeant identity key H v means → IsToCompany c v
    → text identity key H (from_message v) means ≡ reply v (part identity H c)

-- Two histories with the same part of a company give it the same bytes, even if they are of different banks.
abbrev pub TwoWorlds : Type 0
TwoWorlds = (here there : Identity) (key other_key : List ℕ) (H G : List Pair) (c : List ℕ) (v : MessageValue) (means meant : Option Message)
    → IsMeant here key H v means → IsMeant there other_key G v meant → IsToCompany c v
    → part here H c ≡ part there G c
    → text here key H (from_message v) means ≡ text there other_key G (from_message v) meant

-- ---- a desk that serves the company alone

-- the calls of its history are those that `desk_history` gives a desk that serves the company alone
abbrev pub CallsAlone : Type 0
CallsAlone = (identity : Identity) (key : List ℕ) (H : List Pair) (c : List ℕ) → IsHistory identity key H
    → calls_of identity (alone identity key c H) ≡ core_alone.alone identity c (calls_of identity H)

-- the company posted this under its key, after this history
abbrev pub IsOwn : Identity → (company : List ℕ) → List Pair → Origin → Type 0
IsOwn identity c H origin =
    (version : Version) × (route : CompanyRoute) × (body : List ℕ) × (origin_events c origin (core.part identity.odfi (calls_of identity H) c) ≡ Posted version route body ∷ [])

-- each was accepted, or is the company's own
abbrev pub AreAcceptedOrOwn : Identity → (company : List ℕ) → List Pair → Type 0
AreAcceptedOrOwn identity c [] = ⊤
AreAcceptedOrOwn identity c (x ∷ H) = ((is_success x.answer ≡ true) ⊎ IsOwn identity c H x.origin) × AreAcceptedOrOwn identity c H

pub record IsServedAlone (identity : Identity) (key : List ℕ) (H : List Pair) (c : List ℕ) : Type 0 where
  pub history : IsHistory identity key (alone identity key c H)
  pub calls : calls_of identity (alone identity key c H) ≡ core_alone.alone identity c (calls_of identity H)
  pub accepted : AreAcceptedOrOwn identity c (alone identity key c H)
  pub same_part : part identity (alone identity key c H) c ≡ part identity H c
  pub same_answers : (v : MessageValue) (means meant : Option Message)
      → IsMeant identity key (alone identity key c H) v means → IsMeant identity key H v meant → IsToCompany c v
      → text identity key (alone identity key c H) (from_message v) means ≡ text identity key H (from_message v) meant

-- where the desk sent at most 9,999,999 entries and the company had fewer than 10^21 returns and changes
abbrev pub ServedAlone : Type 0
ServedAlone = (identity : Identity) (key : List ℕ) (H : List Pair) (c : List ℕ) → IsHistory identity key H
    → length (sent_entries identity.odfi (calls_of identity H)) ≤ 9_999_999 → count_by is_answer (core_events (part identity H c)) < 10 ^ 21
    → IsServedAlone identity key H c

-- ---- a desk of version 1

-- a desk of version 1 took it
abbrev pub IsOfFirst : Origin → Type 0
IsOfFirst (taken_by First v) = ⊤
IsOfFirst origin = ⊥

abbrev pub AreOfFirst : List Pair → Type 0
AreOfFirst [] = ⊤
AreOfFirst (x ∷ H) = IsOfFirst x.origin × AreOfFirst H

-- the same bytes, before a desk of the present version
abbrev pub as_present : Origin → Origin
as_present (taken_by version v) = from_message v
as_present from_facts = from_facts

-- the calls that the bytes spell, with the key `authorized`, whichever desk took them
abbrev pub AreSpelled : Identity → (key : List ℕ) → List Pair → List Message → Type 0
AreSpelled identity key [] ms = ms ≡ []
AreSpelled identity key (x ∷ H) ms =
    (spelled : Option Message) × (before : List Message) × IsReadAs identity key (calls_of identity H) (as_present x.origin) spelled
    × AreSpelled identity key H before × (ms ≡ option_to_list (call_at identity (calls_of identity H) x spelled) ++ before)

-- the calls that the bytes spell, each with the answer that was given
pub record IsSpelled (identity : Identity) (key : List ℕ) (H : List Pair) (G : List core_messages.Pair) : Type 0 where
  pub messages : AreSpelled identity key H (map (λ x. x.message) G)
  pub answers : map (λ x. x.answer) G ≡ map (λ x. x.answer) (calls_of identity H)

-- Any messages have a history of a desk of version 1. Its calls are those that the bytes spell, without the key.
pub record FirstCalls : Type 0 where
  pub taken : (identity : Identity) (key : List ℕ) (vs : List MessageValue) → (H : List Pair) × IsHistory identity key H × (map (λ x. x.origin) H ≡ map from_first vs)
  pub spelled : (identity : Identity) (key : List ℕ) (H : List Pair) → IsHistory identity key H → AreOfFirst H → (G : List core_messages.Pair) × IsSpelled identity key H G
  pub calls : (identity : Identity) (key : List ℕ) (H : List Pair) (G : List core_messages.Pair) → IsHistory identity key H → AreOfFirst H → IsSpelled identity key H G
      → calls_of identity H ≡ without_authorizations G
  pub unauthorized : (identity : Identity) (key : List ℕ) (H : List Pair) → IsHistory identity key H → AreOfFirst H → HaveNoAuthorizations (calls_of identity H)
