-- A company's part over bytes is its part over calls.
use Rattle.std.proofs.Common.{◌≡◌, ℕ, List, [], ◌∷◌, ◌++◌, map, Bool, true, false, ◌&&◌, ◌⊎◌, inl, inr, refl, sym, ap, ◌∙◌, subst, append_assoc, append-nil, if◌then◌else◌, Option, Some, None, Result, Ok, Err, bytes_eq}
use Rattle.std.specs.Result.{result_ok}
use Rattle.std.proofs.lemmas.Bool.{and_parts}
use Rattle.std.proofs.lemmas.Slice.Eq.{bytes_eq-Decides}
use Rattle.ach_fields.specs.Names.{is_id, reference_of}
use Rattle.desk_history.specs.declared.identity.Identity.{Identity}
use Rattle.desk_history.specs.Authorizations.{request_without_authorization}
use Rattle.desk_history.specs.History as core_history
use Rattle.desk_history.specs.History.{request_event}
use Rattle.desk_history.specs.Message as core
use Rattle.desk_history.specs.Message.{Message}
use Rattle.desk_history.specs.Part as events
use Rattle.desk_history.specs.Part.{is_registered, digest}
use Rattle.desk_history.specs.PartCompany.{DigestOfPart}
use Rattle.desk_history.specs.Request as request
use Rattle.desk_history.specs.Request.{Request}
use Rattle.desk_book.specs.declared.caller.Caller.TheVariants as callers
use Rattle.desk_book.specs.Book.{book_of}
use Rattle.desk_book.specs.Reads.{key_of}
use Rattle.http_message.specs.Message.{RequestValue}
use Rattle.http_routes.specs.declared.route.CompanyRoute.{CompanyRoute}
use Rattle.http_routes.specs.declared.route.CompanyRoute.TheVariants as company_routes
use Rattle.http_routes.specs.Finding.{piece_of}
use Rattle.http_answers.specs.declared.faults.MessageFault.{MessageFault}
use Rattle.http_answers.specs.declared.faults.MessageFault.TheVariants.{Denied}
use Rattle.http_history.specs.Addressee.{Addressee, to_nobody, to_company, to_operator, addressee_of, request_path, shown_key}
use Rattle.http_history.specs.Verdict.{is_company, look_up, submission_in, retry_in, request_on, company_request, company_verdict, verdict_by, Means}
use Rattle.http_history.specs.Versions.{Version, First, Present, read_at, MeansAt}
use Rattle.http_history.specs.History.{Origin, taken_by, from_facts, Pair, call_at, with_call, calls_of, IsReadAs}
use Rattle.http_history.specs.Part.{Event, Posted, Given, posted_events, events_of_post, core_events, is_post, post_if, own_events, origin_events, call_events, or_given, events_at, part}
use Rattle.http_history.specs.Laws.{SamePart}
use Rattle.http_history.proofs.Asking.{own_message, asked_at, asked_if, company_meaning}
use Rattle.http_history.proofs.Calls.{calls_are_history, calls_of-more, calls_of-none}

-- ---- who has a key is registered

has_digest : (P : List events.Event) (d : List ℕ) → digest P ≡ Some d → is_registered P ≡ true
has_digest [] d is = cc
has_digest (events.Registered name key l ∷ P) d is = refl
has_digest (events.Limited l ∷ P) d is = refl
has_digest (e ∷ P) d is = has_digest P d is

none_false : (b : Bool) → (b && false) ≡ true → true ≡ false
none_false b is = let parts = and_parts b false is in sym parts.1

who_is_registered : (P : List events.Event) (c : List ℕ) (key : Option (List ℕ)) → is_company (digest P) c key ≡ true → is_registered P ≡ true
who_is_registered P c key is = by (digest P) refl is where
  by : (o : Option (List ℕ)) → digest P ≡ o → is_company o c key ≡ true → is_registered P ≡ true
  by None none is = let no = none_false (is_id c) is in cc
  by (Some d) some is = has_digest P d some

-- ---- events of a list

pub core_events-append : (P Q : List Event) → core_events (P ++ Q) ≡ core_events P ++ core_events Q
core_events-append [] Q = refl
core_events-append (Posted version route body ∷ P) Q =
    ap (λ (l : List events.Event). events_of_post version route body ++ l) (core_events-append P Q) ∙ sym (append_assoc (events_of_post version route body) (core_events P) (core_events Q))
core_events-append (Given e ∷ P) Q = ap (λ (l : List events.Event). e ∷ l) (core_events-append P Q)

pub core_events-given : (es : List events.Event) → core_events (map Given es) ≡ es
core_events-given [] = refl
core_events-given (e ∷ es) = ap (λ (l : List events.Event). e ∷ l) (core_events-given es)

-- ---- what was posted

-- the events of a request, if the company asked it
abbrev asked_events : Bool → Result Request MessageFault → List events.Event
asked_events own (Ok q) = request_event own q
asked_events own (Err fault) = []

posted_asked : (version : Version) (asked : Result Request MessageFault) → posted_events version asked ++ [] ≡ asked_events true (asked_at version asked)
posted_asked version (Ok q) = append-nil (request_event true (read_at version q))
posted_asked version (Err fault) = refl

none_asked : (version : Version) (asked : Result Request MessageFault) → [] ≡ asked_events false (asked_at version asked)
none_asked version (Ok q) = refl
none_asked version (Err fault) = refl

-- what only asks gives nothing, however it is read
quiet_event : (version : Version) (b : Bool) (q : Request) → request_without_authorization q ≡ q → request_event true q ≡ [] → [] ≡ request_event b (read_at version q)
quiet_event version false q same none = refl
quiet_event First true q same none = sym none ∙ ap (request_event true) (sym same)
quiet_event Present true q same none = sym none

none_looked_up : (version : Version) (b : Bool) (o : Option (List ℕ)) → [] ≡ asked_events b (asked_at version (look_up o))
none_looked_up version b None = refl
none_looked_up version b (Some reference) = quiet_event version b (request.LookUp reference) refl refl

-- only what is posted gives something
post_events : (version : Version) (route : CompanyRoute) (r : RequestValue) (b : Bool)
    → core_events (post_if (is_post route && b) version route r.body) ≡ asked_events b (asked_at version (request_on route r))
post_events version company_routes.Submit r true = posted_asked version (submission_in r.body)
post_events version company_routes.Submit r false = none_asked version (submission_in r.body)
post_events version company_routes.Retry r true = posted_asked version (retry_in r.body)
post_events version company_routes.Retry r false = none_asked version (retry_in r.body)
post_events version company_routes.LookUp r b = none_looked_up version b (result_ok (reference_of (piece_of 4 (request_path r))))
post_events version company_routes.Returns r b = quiet_event version b request.Returns refl refl
post_events version company_routes.Changes r b = quiet_event version b request.Changes refl refl
post_events version company_routes.Statement r b = quiet_event version b request.Statement refl refl
post_events version company_routes.Rates r b = quiet_event version b request.Rates refl refl
post_events version company_routes.Exposure r b = quiet_event version b request.Exposure refl refl

-- ---- the events of a pair

-- what was posted gives the events of the call, or else nothing was posted
core_given : (posted : List Event) (es : List events.Event) → (posted ≡ []) ⊎ (core_events posted ≡ es) → core_events (or_given posted es) ≡ es
core_given [] es is = core_events-given es
core_given (e ∷ posted) es (inl none) = cc
core_given (e ∷ posted) es (inr same) = same

module _ (identity : Identity) (key c : List ℕ) (G : List core.Pair)
    (keys : (k : List ℕ) → key_of (callers.Company k) (book_of identity key G) ≡ digest (core_history.part identity.odfi G k)) where
  abbrev P : List events.Event
  P = core_history.part identity.odfi G c

  registered_events : (b e : Bool) (q : Request) → b ≡ e → (e ≡ true → is_registered P ≡ true) → request_event (e && true) q ≡ request_event (b && is_registered P) q
  registered_events b true q same known = sym (ap (λ (b : Bool). request_event (b && is_registered P) q) same ∙ ap (λ (b : Bool). request_event b q) (known refl))
  registered_events b false q same known = sym (ap (λ (b : Bool). request_event (b && is_registered P) q) same)

  by_asked : (x : Pair) (means : Option Message) (e i : Bool) (asked : Result Request MessageFault) (k : List ℕ) → bytes_eq k c ≡ e
      → (e ≡ true → i ≡ true → is_registered P ≡ true) → Means (company_verdict k (if i then asked else Err Denied)) means
      → asked_events (e && i) asked ≡ call_events identity c G (call_at identity G x means)
  by_asked x None e true (Ok q) k same known is = absurd is
  by_asked x None e true (Err fault) k same known is = refl
  by_asked x None true false (Ok q) k same known is = refl
  by_asked x None false false (Ok q) k same known is = refl
  by_asked x None e false (Err fault) k same known is = refl
  by_asked x (Some m) e false asked k same known is = cc
  by_asked x (Some m) e true (Err fault) k same known is = cc
  by_asked x (Some m) e true (Ok q) k same known is =
      subst (λ (m : Message). request_event (e && true) q ≡ call_events identity c G (call_at identity G x (Some m))) (sym (own_message k q m is))
      (registered_events (bytes_eq k c) e q same (λ own. known own refl))

  -- the company's key is that of its part
  same_key : (k : List ℕ) (okey : Option (List ℕ)) (e : Bool) → bytes_eq k c ≡ e
      → (e && is_company (digest P) c okey) ≡ (e && is_company (digest (core_history.part identity.odfi G k)) k okey)
  same_key k okey false is = refl
  same_key k okey true is =
      let same = (bytes_eq-Decides k c).0 is in
      subst (λ (j : List ℕ). is_company (digest P) c okey ≡ is_company (digest (core_history.part identity.odfi G j)) j okey) (sym same) refl

  known : (k : List ℕ) (okey : Option (List ℕ)) → bytes_eq k c ≡ true → is_company (digest (core_history.part identity.odfi G k)) k okey ≡ true → is_registered P ≡ true
  known k okey e i =
      who_is_registered P c okey (subst (λ (j : List ℕ). is_company (digest (core_history.part identity.odfi G j)) j okey ≡ true) ((bytes_eq-Decides k c).0 e) i)

  -- on a route of a company what was posted gives the events of the call
  pub company_events : (x : Pair) (means : Option Message) (version : Version) (route : CompanyRoute) (k : List ℕ) (r : RequestValue)
      → MeansAt version (company_verdict k (company_request (key_of (callers.Company k) (book_of identity key G)) route k r)) means
      → core_events (own_events c version (to_company route k r) P) ≡ call_events identity c G (call_at identity G x means)
  company_events x means version route k r is =
      let i = is_company (digest (core_history.part identity.odfi G k)) k (shown_key r) in
      ap (λ (b : Bool). core_events (post_if (is_post route && b) version route r.body)) (same_key k (shown_key r) (bytes_eq k c) refl)
      ∙ post_events version route r (bytes_eq k c && i)
      ∙ by_asked x means (bytes_eq k c) i (asked_at version (request_on route r)) k refl (known k (shown_key r))
      (subst (λ (asked : Result Request MessageFault). Means (company_verdict k asked) means) (asked_if version i (request_on route r) Denied)
      (company_meaning version k (if i then request_on route r else Err Denied) means
      (subst (λ (o : Option (List ℕ)). MeansAt version (company_verdict k (company_request o route k r)) means) (keys k) is)))

  posted_or_given : (x : Pair) (origin : Origin) (means : Option Message) → IsReadAs identity key G origin means
      → (origin_events c origin P ≡ []) ⊎ (core_events (origin_events c origin P) ≡ call_events identity c G (call_at identity G x means))
  posted_or_given x from_facts means is = inl refl
  posted_or_given x (taken_by version v) means is = by (addressee_of v) is where
    by : (a : Addressee) → MeansAt version (verdict_by (λ k. key_of (callers.Company k) (book_of identity key G)) (Some key) a) means
        → (own_events c version a P ≡ []) ⊎ (core_events (own_events c version a P) ≡ call_events identity c G (call_at identity G x means))
    by (to_nobody fault) is = inl refl
    by (to_operator route r) is = inl refl
    by (to_company route k r) is = inr (company_events x means version route k r is)

-- a part grows by the events of a call
pub part_with : (identity : Identity) (c : List ℕ) (G : List core.Pair) (call : Option Message)
    → call_events identity c G call ++ core_history.part identity.odfi G c ≡ core_history.part identity.odfi (with_call identity call G) c
part_with identity c G None = refl
part_with identity c G (Some m) = refl

module _ (digests : DigestOfPart) where
  pub keys_of : (identity : Identity) (key : List ℕ) (H : List Pair) (k : List ℕ)
      → key_of (callers.Company k) (book_of identity key (calls_of identity H)) ≡ digest (core_history.part identity.odfi (calls_of identity H) k)
  keys_of identity key H k = digests identity (calls_of identity H) k (calls_are_history identity H)

  -- a pair gives over bytes what its call gives
  pub events_are : (identity : Identity) (key : List ℕ) (x : Pair) (H : List Pair) (c : List ℕ) → IsReadAs identity key (calls_of identity H) x.origin x.means
      → core_events (events_at identity H x c) ≡ call_events identity c (calls_of identity H) (call_at identity (calls_of identity H) x x.means)
  events_are identity key x H c read =
      let G = calls_of identity H in
      core_given (origin_events c x.origin (core_history.part identity.odfi G c)) (call_events identity c G (call_at identity G x x.means))
      (posted_or_given identity key c G (keys_of identity key H) x x.origin x.means read)

  pub same_part : SamePart
  same_part identity key [] c is = ap (λ (K : List core.Pair). core_history.part identity.odfi K c) (sym (calls_of-none identity))
  same_part identity key (x ∷ H) c is =
      let G = calls_of identity H in
      core_events-append (events_at identity H x c) (part identity H c)
      ∙ (λ i. events_are identity key x H c is.0 i ++ same_part identity key H c is.2 i)
      ∙ part_with identity c G (call_at identity G x x.means)
      ∙ ap (λ (K : List core.Pair). core_history.part identity.odfi K c) (sym (calls_of-more identity x H))
