-- The origin of a company's events: its own POST, or a command.
use Rattle.std.proofs.Common.{◌≡◌, ℕ, List, [], ◌∷◌, ◌++◌, map, Bool, true, false, ◌&&◌, ◌⊎◌, inl, inr, refl, sym, ap, ◌∙◌, subst, if◌then◌else◌, Option, Some, None, Result, Ok, Err, bytes_eq}
use Rattle.std.proofs.lemmas.Bool.{and_parts}
use Rattle.std.proofs.lemmas.Slice.Eq.{bytes_eq-Decides}
use Rattle.serde_json.specs.Data.{Data}
use Rattle.http_json.specs.Drafts.{submission_draft_of, retry_draft_of}
use Rattle.http_json.specs.Read.{object_of}
use Rattle.desk_history.specs.declared.identity.Identity.{Identity}
use Rattle.desk_history.specs.History as core_history
use Rattle.desk_history.specs.Message as core
use Rattle.desk_history.specs.Message.{Message, Of, TakeFile}
use Rattle.desk_history.specs.Part as events
use Rattle.desk_history.specs.Part.{digest}
use Rattle.desk_history.specs.Request as request
use Rattle.desk_history.specs.Request.{Request}
use Rattle.desk_book.specs.declared.caller.Caller.TheVariants as callers
use Rattle.desk_book.specs.Book.{book_of}
use Rattle.desk_book.specs.Reads.{key_of}
use Rattle.http_message.specs.Message.{RequestValue}
use Rattle.http_routes.specs.declared.route.CompanyRoute.{CompanyRoute}
use Rattle.http_routes.specs.declared.route.CompanyRoute.TheVariants as company_routes
use Rattle.http_routes.specs.declared.route.OperatorRoute.{OperatorRoute}
use Rattle.http_answers.specs.declared.faults.MessageFault.{MessageFault}
use Rattle.http_answers.specs.declared.faults.MessageFault.TheVariants.{Denied}
use Rattle.http_history.specs.Addressee.{Addressee, to_nobody, to_company, to_operator, addressee_of, shown_key}
use Rattle.http_history.specs.Verdict.{is_key, is_company, with_object, request_on, company_request, company_verdict, operator_call, verdict_by, Means}
use Rattle.http_history.specs.Versions.{Version, First, Present, MeansAt}
use Rattle.http_history.specs.History.{Origin, taken_by, from_facts, Pair, is_lost, call_at, IsReadAs}
use Rattle.http_history.specs.Part.{Event, Posted, Given, posted_events, core_events, is_post, post_if, own_events, origin_events, call_events, or_given}
use Rattle.http_history.proofs.Asking.{own_message, asked_at, company_meaning, nothing_meant, IsCommand, is_command, command_meaning}
use Rattle.http_history.proofs.Parts.{company_events, core_events-given}

-- ---- a POST that was read

submitted : (version : Version) (o : Option Data) (q : Request) → with_object o (λ d. request.Submit (submission_draft_of d)) ≡ Ok q
    → posted_events version (with_object o (λ d. request.Submit (submission_draft_of d))) ++ [] ≡ [] → ⊥
submitted version None q is none = cc
submitted First (Some d) q is none = cc
submitted Present (Some d) q is none = cc

retried : (version : Version) (o : Option Data) (q : Request) → with_object o (λ d. request.Retry (retry_draft_of d)) ≡ Ok q
    → posted_events version (with_object o (λ d. request.Retry (retry_draft_of d))) ++ [] ≡ [] → ⊥
retried version None q is none = cc
retried First (Some d) q is none = cc
retried Present (Some d) q is none = cc

-- what was posted and made a request makes an event
post_made : (version : Version) (route : CompanyRoute) (r : RequestValue) (i : Bool) (q : Request) → is_post route ≡ true → (if i then request_on route r else Err Denied) ≡ Ok q
    → core_events (Posted version route r.body ∷ []) ≡ [] → ⊥
post_made version route r false q post is none = cc
post_made version company_routes.Submit r true q post is none = submitted version (object_of r.body) q is none
post_made version company_routes.Retry r true q post is none = retried version (object_of r.body) q is none
post_made version route r true q post is none = cc

asked_request : (k : List ℕ) (asked : Result Request MessageFault) (m : Message) → Means (company_verdict k asked) (Some m)
    → (q : Request) × (asked ≡ Ok q) × (m ≡ Of k q)
asked_request k (Err fault) m is = cc
asked_request k (Ok q) m is = (q, refl, own_message k q m is)

-- what a desk of each version reads was asked
asked_before : (version : Version) (asked : Result Request MessageFault) (q : Request) → asked_at version asked ≡ Ok q → (asking : Request) × (asked ≡ Ok asking)
asked_before version (Ok asking) q is = (asking, refl)
asked_before version (Err fault) q is = cc

-- ---- what gave events

-- the company's own POST, which made a request of it or no call
pub record IsPosted (c : List ℕ) (means : Option Message) (own : List Event) : Type 0 where
  pub version : Version
  pub route : CompanyRoute
  pub body : List ℕ
  pub is : own ≡ Posted version route body ∷ []
  pub request : (m : Message) → means ≡ Some m → (q : Request) × (m ≡ Of c q)
  pub made : (m : Message) → means ≡ Some m → core_events (Posted version route body ∷ []) ≡ [] → ⊥

-- a command
pub record IsCommanded (means : Option Message) (own : List Event) : Type 0 where
  pub message : Message
  pub is : means ≡ Some message
  pub command : IsCommand message
  pub none : own ≡ []

module _ (identity : Identity) (key c : List ℕ) (G : List core.Pair)
    (keys : (k : List ℕ) → key_of (callers.Company k) (book_of identity key G) ≡ digest (core_history.part identity.odfi G k)) (x : Pair) where
  abbrev P : List events.Event
  P = core_history.part identity.odfi G c

  abbrev given : Option Message → List events.Event
  given means = call_events identity c G (call_at identity G x means)

  -- without a call only a POST gives an event
  nothing_given : (means : Option Message) (e : Event) (rest : List Event) → means ≡ None → map Given (given means) ≡ e ∷ rest → ⊥
  nothing_given None e rest is gave = cc
  nothing_given (Some m) e rest is gave = cc

  own_post : (version : Version) (route : CompanyRoute) (k : List ℕ) (r : RequestValue) (means : Option Message) (digest : Option (List ℕ)) → is_post route ≡ true → k ≡ c
      → MeansAt version (company_verdict k (company_request digest route k r)) means → IsPosted c means (Posted version route r.body ∷ [])
  own_post version route k r means digest post own read = record {
    version = version;
    route = route;
    body = r.body;
    is = refl;
    request = λ m some. let q = one m some in (q.0, q.2 ∙ ap (λ (k : List ℕ). Of k q.0) own);
    made = λ m some none.
        let q = one m some in
        let before = asked_before version (company_request digest route k r) q.0 q.1 in
        post_made version route r (is_company digest k (shown_key r)) before.0 post before.1 none;
  } where
    one : (m : Message) → means ≡ Some m → (q : Request) × (asked_at version (company_request digest route k r) ≡ Ok q) × (m ≡ Of k q)
    one m some =
        let asked = asked_at version (company_request digest route k r) in
        asked_request k asked m (subst (Means (company_verdict k asked)) some (company_meaning version k (company_request digest route k r) means read))

  pub by_company : (version : Version) (route : CompanyRoute) (k : List ℕ) (r : RequestValue) (means : Option Message) (e : Event) (rest : List Event)
      → MeansAt version (company_verdict k (company_request (key_of (callers.Company k) (book_of identity key G)) route k r)) means
      → or_given (own_events c version (to_company route k r) P) (given means) ≡ e ∷ rest
      → (k ≡ c) × IsPosted c means (own_events c version (to_company route k r) P)
  by_company version route k r means e rest read gave =
      by (is_post route && (bytes_eq k c && is_company (digest P) c (shown_key r))) refl (company_events identity key c G keys x means version route k r read) gave where
        by : (b : Bool) → (is_post route && (bytes_eq k c && is_company (digest P) c (shown_key r))) ≡ b
            → core_events (post_if b version route r.body) ≡ given means → or_given (post_if b version route r.body) (given means) ≡ e ∷ rest
            → (k ≡ c) × IsPosted c means (post_if b version route r.body)
        by true is same gave =
            let post = and_parts (is_post route) (bytes_eq k c && is_company (digest P) c (shown_key r)) is in
            let own = (bytes_eq-Decides k c).0 (and_parts (bytes_eq k c) (is_company (digest P) c (shown_key r)) post.1).0 in
            (own, own_post version route k r means (key_of (callers.Company k) (book_of identity key G)) post.0 own read)
        by false is same gave = let no : [] ≡ e ∷ rest = ap (map Given) same ∙ gave in cc

  by_operator : (b : Bool) (route : OperatorRoute) (r : RequestValue) (means : Option Message) (e : Event) (rest : List Event)
      → Means (if b then operator_call route r else Err Denied) means → map Given (given means) ≡ e ∷ rest → IsCommanded means []
  by_operator b route r None e rest is gave = cc
  by_operator b route r (Some m) e rest is gave = record { message = m; is = refl; command = is_command b route r m is; none = refl }

  gave_to : (version : Version) (a : Addressee) (means : Option Message) (e : Event) (rest : List Event)
      → MeansAt version (verdict_by (λ k. key_of (callers.Company k) (book_of identity key G)) (Some key) a) means → or_given (own_events c version a P) (given means) ≡ e ∷ rest
      → IsPosted c means (own_events c version a P) ⊎ IsCommanded means (own_events c version a P)
  gave_to version (to_nobody fault) means e rest read gave = absurd (nothing_given means e rest (nothing_meant version fault means read) gave)
  gave_to version (to_company route k r) means e rest read gave = inl (by_company version route k r means e rest read gave).1
  gave_to version (to_operator route r) means e rest read gave =
      inr (by_operator (is_key (Some key) (shown_key r)) route r means e rest (command_meaning version (is_key (Some key) (shown_key r)) route r means read) gave)

  -- what gives events is a POST of the company's, or a command
  pub gave_events : (origin : Origin) (means : Option Message) (e : Event) (rest : List Event) → IsReadAs identity key G origin means
      → or_given (origin_events c origin P) (given means) ≡ e ∷ rest → IsPosted c means (origin_events c origin P) ⊎ IsCommanded means (origin_events c origin P)
  gave_events (taken_by version v) means e rest read gave = gave_to version (addressee_of v) means e rest read gave
  gave_events from_facts None e rest read gave = absurd read
  gave_events from_facts (Some (TakeFile file)) e rest read gave = inr (record { message = TakeFile file; is = refl; command = tt; none = refl })
  gave_events from_facts (Some m) e rest read gave = absurd read

  -- ---- its call counts

  if_given : (lost : Bool) (m : Message) (e : Event) (rest : List Event) → map Given (call_events identity c G (if lost then None else Some m)) ≡ e ∷ rest
      → (if lost then None else Some m) ≡ Some m
  if_given true m e rest gave = cc
  if_given false m e rest gave = refl

  own_call : (means : Option Message) → ((m : Message) → means ≡ Some m → (q : Request) × (m ≡ Of c q)) → call_at identity G x means ≡ means
  own_call None request = refl
  own_call (Some m) request = let q = request m refl in subst (λ (m : Message). call_at identity G x (Some m) ≡ Some m) (sym q.1) refl

  commanded_call : (means : Option Message) (m : Message) (e : Event) (rest : List Event) → means ≡ Some m → map Given (given means) ≡ e ∷ rest → call_at identity G x means ≡ means
  commanded_call None m e rest is gave = refl
  commanded_call (Some n) m e rest is gave = if_given (is_lost identity G x n) n e rest gave

  pub call_counts : (means : Option Message) (own : List Event) (e : Event) (rest : List Event) → IsPosted c means own ⊎ IsCommanded means own → or_given own (given means) ≡ e ∷ rest
      → call_at identity G x means ≡ means
  call_counts means own e rest (inl posted) gave = own_call means posted.request
  call_counts means own e rest (inr commanded) gave =
      commanded_call means commanded.message e rest commanded.is (subst (λ (own : List Event). or_given own (given means) ≡ e ∷ rest) commanded.none gave)

  -- what a command gave is given
  given_is : (es : List events.Event) (e : Event) (rest : List Event) → map Given es ≡ e ∷ rest → e ∷ rest ≡ map Given (core_events (e ∷ rest))
  given_is es e rest is = sym is ∙ ap (map Given) (sym (core_events-given es)) ∙ ap (λ (l : List Event). map Given (core_events l)) is

  pub commanded_given : (means : Option Message) (own : List Event) (e : Event) (rest : List Event) → IsCommanded means own → or_given own (given means) ≡ e ∷ rest
      → e ∷ rest ≡ map Given (core_events (e ∷ rest))
  commanded_given means own e rest commanded gave =
      given_is (given means) e rest (subst (λ (own : List Event). or_given own (given means) ≡ e ∷ rest) commanded.none gave)

  -- and makes an event over calls, if it made a call
  some_given : (es : List Event) (e : Event) (rest : List Event) → es ≡ e ∷ rest → es ≡ map Given (core_events es) → core_events es ≡ [] → ⊥
  some_given es e rest is given none = let no : [] ≡ e ∷ rest = sym (given ∙ ap (map Given) none) ∙ is in cc

  pub made_events : (means : Option Message) (own : List Event) (e : Event) (rest : List Event) (m : Message) → IsPosted c means own ⊎ IsCommanded means own → or_given own (given means) ≡ e ∷ rest
      → means ≡ Some m → core_events (e ∷ rest) ≡ [] → ⊥
  made_events means own e rest m (inl posted) gave some none =
      let same : Posted posted.version posted.route posted.body ∷ [] ≡ e ∷ rest = subst (λ (own : List Event). or_given own (given means) ≡ e ∷ rest) posted.is gave in
      posted.made m some (ap core_events same ∙ none)
  made_events means own e rest m (inr commanded) gave some none =
      some_given (e ∷ rest) e rest refl (commanded_given means own e rest commanded gave) none
