-- A company is answered from its own part alone.
use Rattle.std.proofs.Common.{◌≡◌, ℕ, List, Bool, refl, sym, ap, ◌∙◌, subst, Option, Some, None, Result, Ok, Err}
use Rattle.desk_history.specs.declared.identity.Identity.{Identity}
use Rattle.desk_history.specs.History as core_history
use Rattle.desk_history.specs.Message as core
use Rattle.desk_history.specs.Message.{Message}
use Rattle.desk_history.specs.Operator.{answer_to}
use Rattle.desk_history.specs.PartCompany.{DigestOfPart}
use Rattle.desk_history.specs.Part.{digest}
use Rattle.desk_history.specs.Request.{Request}
use Rattle.desk_book.specs.declared.caller.Caller.TheVariants as callers
use Rattle.desk_book.specs.Book.{book_of}
use Rattle.desk_book.specs.Reads.{key_of}
use Rattle.http_message.specs.Message as messages
use Rattle.http_message.specs.Message.{MessageValue}
use Rattle.http_answers.specs.declared.faults.MessageFault.{MessageFault}
use Rattle.http_history.specs.Addressee.{Addressee, to_nobody, to_company, to_operator, addressee_of}
use Rattle.http_history.specs.Verdict.{company_request, company_verdict, verdict_by, verdict_on, Means}
use Rattle.http_history.specs.Texts.{call_text, fault_text}
use Rattle.http_history.specs.History.{from_message, Pair, calls_of, text, book_behind}
use Rattle.http_history.specs.Part.{Event}
use Rattle.http_history.specs.Reply.{request_text, reply_to, reply, IsOnRouteOf, IsToCompany}
use Rattle.http_history.specs.Laws.{OwnText, TwoWorlds}
use Rattle.http_history.proofs.Asking.{own_message}
use Rattle.http_history.proofs.Parts.{keys_of, same_part}
use Rattle.http_history.proofs.Replies.{text_of_request}

module _ (identity : Identity) (key : List ℕ) (G : List core.Pair) (closes : Bool) where
  -- the text of what a message to this addressee means
  abbrev text_to : Addressee → Option Message → List ℕ
  text_to a None = fault_text closes (verdict_by (λ k. key_of (callers.Company k) (book_of identity key G)) (Some key) a)
  text_to a (Some m) = call_text closes m (answer_to identity G m)

  asked_text : (k : List ℕ) (asked : Result Request MessageFault) (m : Message) → Means (company_verdict k asked) (Some m)
      → call_text closes m (answer_to identity G m) ≡ request_text closes asked (core_history.part identity.odfi G k)
  asked_text k (Err fault) m is = cc
  asked_text k (Ok q) m is =
      subst (λ (m : Message). call_text closes m (answer_to identity G m) ≡ request_text closes (Ok q) (core_history.part identity.odfi G k)) (sym (own_message k q m is))
      (text_of_request closes k (core_history.part identity.odfi G k) q)

  denied_text : (k : List ℕ) (asked : Result Request MessageFault) → Means (company_verdict k asked) None
      → fault_text closes (company_verdict k asked) ≡ request_text closes asked (core_history.part identity.odfi G k)
  denied_text k (Err fault) is = refl
  denied_text k (Ok q) is = absurd is

  module _ (keys : (k : List ℕ) → key_of (callers.Company k) (book_of identity key G) ≡ digest (core_history.part identity.odfi G k)) where
    addressee_text : (c : List ℕ) (a : Addressee) (means : Option Message) → IsOnRouteOf c a
        → Means (verdict_by (λ k. key_of (callers.Company k) (book_of identity key G)) (Some key) a) means
        → text_to a means ≡ reply_to closes a (core_history.part identity.odfi G c)
    addressee_text c (to_nobody fault) means to is = absurd to
    addressee_text c (to_operator route r) means to is = absurd to
    addressee_text c (to_company route k r) None to is =
        let by_key = ap (λ (o : Option (List ℕ)). company_request o route k r) (keys k) in
        subst (λ (c : List ℕ). text_to (to_company route k r) None ≡ reply_to closes (to_company route k r) (core_history.part identity.odfi G c)) to
        (ap (λ (asked : Result Request MessageFault). fault_text closes (company_verdict k asked)) by_key
        ∙ denied_text k (company_request (digest (core_history.part identity.odfi G k)) route k r) (subst (λ (asked : Result Request MessageFault). Means (company_verdict k asked) None) by_key is))
    addressee_text c (to_company route k r) (Some m) to is =
        let by_key = ap (λ (o : Option (List ℕ)). company_request o route k r) (keys k) in
        subst (λ (c : List ℕ). text_to (to_company route k r) (Some m) ≡ reply_to closes (to_company route k r) (core_history.part identity.odfi G c)) to
        (asked_text k (company_request (digest (core_history.part identity.odfi G k)) route k r) m (subst (λ (asked : Result Request MessageFault). Means (company_verdict k asked) (Some m)) by_key is))

module _ (digests : DigestOfPart) where
  -- by the part over calls
  pub text_of_part : (identity : Identity) (key : List ℕ) (H : List Pair) (c : List ℕ) (v : MessageValue) (means : Option Message)
      → Means (verdict_on (book_behind identity key H) v) means → IsToCompany c v
      → text identity key H (from_message v) means ≡ reply_to (messages.closes v) (addressee_of v) (core_history.part identity.odfi (calls_of identity H) c)
  unfolding text
  text_of_part identity key H c v None read to =
      addressee_text identity key (calls_of identity H) (messages.closes v) (keys_of digests identity key H) c (addressee_of v) None to read
  text_of_part identity key H c v (Some m) read to =
      addressee_text identity key (calls_of identity H) (messages.closes v) (keys_of digests identity key H) c (addressee_of v) (Some m) to read

  pub own_text : OwnText
  own_text identity key H c v means meant to =
      text_of_part identity key H c v means meant.read to
      ∙ ap (reply_to (messages.closes v) (addressee_of v)) (sym (same_part digests identity key H c meant.history))

  pub two_worlds : TwoWorlds
  two_worlds here there key other_key H G c v means meant is was to same =
      own_text here key H c v means is to
      ∙ ap (λ (P : List Event). reply v P) same
      ∙ sym (own_text there other_key G c v meant was to)
