-- A desk that serves one company alone, over bytes.
use Rattle.std.proofs.Common.{◌≡◌, ℕ, ◌<◌, ◌≤◌, ◌^◌, List, [], ◌∷◌, ◌++◌, length, map, Bool, true, false, ◌⊎◌, inl, inr, refl, sym, ap, ◌∙◌, subst, append_assoc, arith, if◌then◌else◌, All, count_by, Option, Some, None, Ok}
use Rattle.std.proofs.lemmas.List.{append_cancel_right, map-append}
use Rattle.std.proofs.lemmas.List.Elements.{All-head, All-tail}
use Rattle.desk_history.specs.declared.identity.Identity.{Identity}
use Rattle.desk_history.specs.Alone as core_alone
use Rattle.desk_history.specs.Alone.{is_answer, file_for, IsOf, IsAcceptedOrOf}
use Rattle.desk_history.specs.History as core_history
use Rattle.desk_history.specs.History.{sent_entries}
use Rattle.desk_history.specs.Message as core
use Rattle.desk_history.specs.Message.{Message, Of, TakeFile, FileText}
use Rattle.desk_history.specs.Operator.{answer_to, next_pair}
use Rattle.desk_history.specs.Part as events
use Rattle.desk_history.specs.PartCompany.{DigestOfPart}
use Rattle.desk_history.specs.Part.{digest}
use Rattle.desk_history.proofs.Alone.ServedAlone.{sent_grows, answers_grow}
use Rattle.desk_book.specs.declared.caller.Caller.TheVariants as callers
use Rattle.desk_book.specs.Book.{book_of}
use Rattle.desk_book.specs.Reads.{key_of}
use Rattle.http_message.specs.Message as messages
use Rattle.http_answers.specs.Statuses.{kind_of}
use Rattle.http_history.specs.Addressee.{Addressee, to_nobody, to_company, to_operator, addressee_of}
use Rattle.http_history.specs.Verdict.{company_request, company_verdict, verdict_by}
use Rattle.http_history.specs.Versions.{Version, MeansAt}
use Rattle.http_history.specs.Texts.{is_success}
use Rattle.http_history.specs.History.{Origin, taken_by, from_facts, Pair, closes, is_lost, call_at, with_call, calls_of, text, IsReadAs, IsHistory}
use Rattle.http_history.specs.Part.{Event, Given, core_events, origin_events, own_events, call_events, or_given, events_at, part}
use Rattle.http_history.specs.Reply.{reply_to}
use Rattle.http_history.specs.Alone as bytes_alone
use Rattle.http_history.specs.Alone.{with_text, with_files, alone}
use Rattle.http_history.specs.Laws.{IsOwn, AreAcceptedOrOwn, CallsAlone, ServedAlone}
use Rattle.http_history.proofs.Answered.{right_text}
use Rattle.http_history.proofs.Asking.{IsCommand}
use Rattle.http_history.proofs.Calls.{calls_are_history, calls_of-more, calls_of-none, right_pair, none_pair}
use Rattle.http_history.proofs.PartAlone.{by_company, call_counts, commanded_given, gave_events, made_events, IsCommanded, IsPosted}
use Rattle.http_history.proofs.Parts.{events_are, keys_of, part_with, same_part}
use Rattle.http_history.proofs.Success.{IsSure, accepts}
use Rattle.http_history.proofs.Worlds.{text_of_part}

-- what holds with nothing, with files and with the message holds with what takes the message's place
shape : (identity : Identity) (key c : List ℕ) (C : List Pair → Type 0) (origin : Origin) (means : Option Message) (es : List Event) (A : List Pair)
    → (es ≡ [] → C A) → ((file : Message) → means ≡ Some file → IsCommand file → (e : Event) (rest : List Event) → es ≡ e ∷ rest → C (with_files identity key c (core_events es) A))
    → ((e : Event) (rest : List Event) → es ≡ e ∷ rest → C (with_text identity key origin means A))
    → C (bytes_alone.with_message identity key c origin means es A)
shape identity key c C origin means [] A none files other = none refl
shape identity key c C origin None (e ∷ es) A none files other = other e es refl
shape identity key c C origin (Some (TakeFile file)) (e ∷ es) A none files other = files (TakeFile file) refl tt e es refl
shape identity key c C origin (Some m) (e ∷ es) A none files other = other e es refl

-- ---- its calls

module _ (identity : Identity) (key c : List ℕ) where
  files_calls : (es : List events.Event) (A : List Pair) → calls_of identity (with_files identity key c es A) ≡ core_alone.with_files identity c es (calls_of identity A)
  files_calls [] A = refl
  files_calls (e ∷ es) A =
      let before = with_files identity key c es A in
      right_pair identity key from_facts (TakeFile (Ok (file_for identity c (calls_of identity before) e))) before
      ∙ ap (λ (K : List core.Pair). next_pair identity K (TakeFile (Ok (file_for identity c K e))) ∷ K) (files_calls es A)

  message_calls : (origin : Origin) (m : Message) (e : Event) (rest : List Event) (es : List events.Event) (A : List Pair) → es ≡ core_events (e ∷ rest) → (es ≡ [] → ⊥)
      → calls_of identity (bytes_alone.with_message identity key c origin (Some m) (e ∷ rest) A) ≡ core_alone.with_message identity c m es (calls_of identity A)
  message_calls origin m e rest [] A is some = absurd (some refl)
  message_calls origin (TakeFile file) e rest (g ∷ es) A is some =
      ap (λ (l : List events.Event). calls_of identity (with_files identity key c l A)) (sym is) ∙ files_calls (g ∷ es) A
  message_calls origin m e rest (g ∷ es) A is some = right_pair identity key origin m A

  counted_calls : (origin : Origin) (means : Option Message) (G : List core.Pair) (e : Event) (rest : List Event) (A : List Pair)
      → core_events (e ∷ rest) ≡ call_events identity c G means → ((m : Message) → means ≡ Some m → core_events (e ∷ rest) ≡ [] → ⊥)
      → calls_of identity A ≡ core_alone.alone identity c G
      → calls_of identity (bytes_alone.with_message identity key c origin means (e ∷ rest) A) ≡ core_alone.alone identity c (with_call identity means G)
  counted_calls origin None G e rest A same made before = none_pair identity origin (text identity key A origin None) A ∙ before
  counted_calls origin (Some m) G e rest A same made before =
      message_calls origin m e rest (core_events (e ∷ rest)) A refl (made m refl)
      ∙ (λ i. core_alone.with_message identity c m (same i) (before i))

  quiet_call : (call : Option Message) (G : List core.Pair) (A : List Pair) → [] ≡ call_events identity c G call → calls_of identity A ≡ core_alone.alone identity c G
      → calls_of identity A ≡ core_alone.alone identity c (with_call identity call G)
  quiet_call None G A same before = before
  quiet_call (Some m) G A same before = before ∙ ap (λ (es : List events.Event). core_alone.with_message identity c m es (core_alone.alone identity c G)) same

module _ (digests : DigestOfPart) where
  pub calls_alone : CallsAlone
  calls_alone identity key [] c is = calls_of-none identity ∙ ap (core_alone.alone identity c) (sym (calls_of-none identity))
  calls_alone identity key (x ∷ H) c is =
      by (events_at identity H x c) refl (events_are digests identity key x H c is.0) (calls_alone identity key H c is.2)
      ∙ ap (core_alone.alone identity c) (sym (calls_of-more identity x H))
    where
      G : List core.Pair
      G = calls_of identity H

      by : (es : List Event) → events_at identity H x c ≡ es → core_events es ≡ call_events identity c G (call_at identity G x x.means)
          → calls_of identity (alone identity key c H) ≡ core_alone.alone identity c G
          → calls_of identity (bytes_alone.with_message identity key c x.origin x.means es (alone identity key c H)) ≡ core_alone.alone identity c (with_call identity (call_at identity G x x.means) G)
      by [] gave same before = quiet_call identity key c (call_at identity G x x.means) G (alone identity key c H) same before
      by (e ∷ rest) gave same before =
          let own = origin_events c x.origin (core_history.part identity.odfi G c) in
          let kind = gave_events identity key c G (keys_of digests identity key H) x x.origin x.means e rest is.0 gave in
          let counts = call_counts identity key c G (keys_of digests identity key H) x x.means own e rest kind gave in
          subst (λ (call : Option Message). calls_of identity (bytes_alone.with_message identity key c x.origin x.means (e ∷ rest) (alone identity key c H)) ≡ core_alone.alone identity c (with_call identity call G))
          (sym counts)
          (counted_calls identity key c x.origin x.means G e rest (alone identity key c H) (same ∙ ap (call_events identity c G) counts)
          (λ m some. made_events identity key c G (keys_of digests identity key H) x x.means own e rest m kind gave some) before)

-- ---- its history

module _ (digests : DigestOfPart) (identity : Identity) (key c : List ℕ) (H A : List Pair)
    (same : core_history.part identity.odfi (calls_of identity A) c ≡ core_history.part identity.odfi (calls_of identity H) c) (x : Pair) where
  abbrev key_in : List Pair → List ℕ → Option (List ℕ)
  key_in K k = key_of (callers.Company k) (book_of identity key (calls_of identity K))

  same_key : (k : List ℕ) → k ≡ c → key_in H k ≡ key_in A k
  same_key k is =
      keys_of digests identity key H k
      ∙ ap digest (ap (core_history.part identity.odfi (calls_of identity H)) is ∙ sym same ∙ ap (core_history.part identity.odfi (calls_of identity A)) (sym is))
      ∙ sym (keys_of digests identity key A k)

  addressee_reads : (version : Version) (a : Addressee) (means : Option Message) (e : Event) (rest : List Event)
      → or_given (own_events c version a (core_history.part identity.odfi (calls_of identity H) c)) (call_events identity c (calls_of identity H) (call_at identity (calls_of identity H) x means)) ≡ e ∷ rest
      → MeansAt version (verdict_by (key_in H) (Some key) a) means → MeansAt version (verdict_by (key_in A) (Some key) a) means
  addressee_reads version (to_nobody fault) means e rest gave read = read
  addressee_reads version (to_operator route r) means e rest gave read = read
  addressee_reads version (to_company route k r) means e rest gave read =
      subst (λ (o : Option (List ℕ)). MeansAt version (company_verdict k (company_request o route k r)) means)
      (same_key k (by_company identity key c (calls_of identity H) (keys_of digests identity key H) x version route k r means e rest read gave).0) read

  -- what gave events is read alike
  reads_alike : (origin : Origin) (means : Option Message) (e : Event) (rest : List Event)
      → or_given (origin_events c origin (core_history.part identity.odfi (calls_of identity H) c)) (call_events identity c (calls_of identity H) (call_at identity (calls_of identity H) x means)) ≡ e ∷ rest
      → IsReadAs identity key (calls_of identity H) origin means → IsReadAs identity key (calls_of identity A) origin means
  reads_alike (taken_by version v) means e rest gave read = addressee_reads version (addressee_of v) means e rest gave read
  reads_alike from_facts None e rest gave read = absurd read
  reads_alike from_facts (Some m) e rest gave read = read

files_history : (identity : Identity) (key c : List ℕ) (es : List events.Event) (A : List Pair) → IsHistory identity key A → IsHistory identity key (with_files identity key c es A)
files_history identity key c [] A is = is
files_history identity key c (e ∷ es) A is =
    let before = with_files identity key c es A in
    (tt, right_text identity key from_facts (Some (TakeFile (Ok (file_for identity c (calls_of identity before) e)))) before, files_history identity key c es A is)

-- ---- its part

module _ (identity : Identity) (key c : List ℕ) where
  abbrev calls_part : List Pair → List events.Event
  calls_part K = core_history.part identity.odfi (calls_of identity K) c

  part_more : (x : Pair) (A : List Pair) → calls_part (x ∷ A) ≡ call_events identity c (calls_of identity A) (call_at identity (calls_of identity A) x x.means) ++ calls_part A
  part_more x A =
      ap (λ (K : List core.Pair). core_history.part identity.odfi K c) (calls_of-more identity x A)
      ∙ sym (part_with identity c (calls_of identity A) (call_at identity (calls_of identity A) x x.means))

  -- files give what they give over calls
  given_files : (es : List events.Event) (A : List Pair)
      → (gs : List events.Event) × (part identity (with_files identity key c es A) c ≡ map Given gs ++ part identity A c) × (calls_part (with_files identity key c es A) ≡ gs ++ calls_part A)
  given_files [] A = ([], refl, refl)
  given_files (e ∷ es) A =
      let before = with_files identity key c es A in
      let m = TakeFile (Ok (file_for identity c (calls_of identity before) e)) in
      let x : Pair = record { origin = from_facts; answer = text identity key before from_facts (Some m); means = Some m } in
      let new = call_events identity c (calls_of identity before) (call_at identity (calls_of identity before) x (Some m)) in
      let rest = given_files es A in (
        new ++ rest.0,
        ap (λ (l : List Event). map Given new ++ l) rest.1
            ∙ sym (append_assoc (map Given new) (map Given rest.0) (part identity A c))
            ∙ ap (λ (l : List Event). l ++ part identity A c) (sym (map-append Given new rest.0)),
        part_more x before ∙ ap (λ (l : List events.Event). new ++ l) rest.2 ∙ sym (append_assoc new rest.0 (calls_part A)),
      )

  -- the same part over calls before and after, and the same POST: the same events
  same_events : (x y : Pair) (H A : List Pair) → y.origin ≡ x.origin → calls_part A ≡ calls_part H → calls_part (y ∷ A) ≡ calls_part (x ∷ H) → events_at identity A y c ≡ events_at identity H x c
  same_events x y H A origin before after =
      let new = λ (K : List Pair) (z : Pair). call_events identity c (calls_of identity K) (call_at identity (calls_of identity K) z z.means) in
      let given = append_cancel_right (new A y) (new H x) (calls_part H)
      (ap (λ (P : List events.Event). new A y ++ P) (sym before) ∙ sym (part_more y A) ∙ after ∙ part_more x H) in
      (λ i. or_given (origin_events c (origin i) (before i)) (given i))

  -- what takes the place of a pair gives its events
  whole_events : (x : Pair) (H A : List Pair) (es : List Event) → events_at identity H x c ≡ es → core_events es ++ calls_part H ≡ calls_part (x ∷ H)
      → ((file : Message) → x.means ≡ Some file → IsCommand file → (e : Event) (rest : List Event) → es ≡ e ∷ rest → es ≡ map Given (core_events es))
      → calls_part A ≡ calls_part H → part identity A c ≡ part identity H c → calls_part (bytes_alone.with_message identity key c x.origin x.means es A) ≡ calls_part (x ∷ H)
      → part identity (bytes_alone.with_message identity key c x.origin x.means es A) c ≡ es ++ part identity H c
  whole_events x H A es gave grown given before same =
      shape identity key c (λ K. calls_part K ≡ calls_part (x ∷ H) → part identity K c ≡ es ++ part identity H c) x.origin x.means es A
      (λ none after. same ∙ ap (λ (l : List Event). l ++ part identity H c) (sym none))
      (λ file is command e rest some after.
      let files = given_files (core_events es) A in
      let alike = append_cancel_right files.0 (core_events es) (calls_part A)
      (sym files.2 ∙ after ∙ sym grown ∙ ap (λ (P : List events.Event). core_events es ++ P) (sym before)) in
      files.1 ∙ (λ i. map Given (alike i) ++ same i) ∙ ap (λ (l : List Event). l ++ part identity H c) (sym (given file is command e rest some)))
      (λ e rest some after.
      let y : Pair = record { origin = x.origin; answer = text identity key A x.origin x.means; means = x.means } in
      (λ i. (same_events x y H A refl before after ∙ gave) i ++ same i))

-- ---- each was accepted, or is the company's own

no_request : (c : List ℕ) (m : Message) → IsCommand m → IsOf c m → ⊥
no_request c (Of k r) command is = command
no_request c m command is = is

module _ (identity : Identity) (key c : List ℕ) where
  abbrev AreAccepted : List Pair → Type 0
  AreAccepted K = All (λ x. IsAcceptedOrOf c x) (calls_of identity K)

  accepted_pair : (origin : Origin) (m : Message) (A : List Pair) → IsCommand m → IsSure (kind_of m) → AreAccepted (with_text identity key origin (Some m) A)
      → is_success (text identity key A origin (Some m)) ≡ true
  unfolding text
  accepted_pair origin m A command sure all =
      accepts (closes origin) m (answer_to identity (calls_of identity A) m) sure
      ∙ (elim (All-head (λ x. IsAcceptedOrOf c x) (next_pair identity (calls_of identity A) m) (calls_of identity A) (subst (λ (G : List core.Pair). All (λ x. IsAcceptedOrOf c x) G) (right_pair identity key origin m A) all)) [
        | inl ok ↦ ok
        | inr of ↦ absurd (no_request c m command of)
      ])

  accepted_before : (origin : Origin) (m : Message) (A : List Pair) → AreAccepted (with_text identity key origin (Some m) A) → AreAccepted A
  accepted_before origin m A all =
      All-tail (λ x. IsAcceptedOrOf c x) (next_pair identity (calls_of identity A) m) (calls_of identity A) (subst (λ (G : List core.Pair). All (λ x. IsAcceptedOrOf c x) G) (right_pair identity key origin m A) all)

  accepted_files : (es : List events.Event) (A : List Pair) → AreAcceptedOrOwn identity c A → AreAccepted (with_files identity key c es A) → AreAcceptedOrOwn identity c (with_files identity key c es A)
  accepted_files [] A are all = are
  accepted_files (e ∷ es) A are all =
      let before = with_files identity key c es A in
      let m = TakeFile (Ok (file_for identity c (calls_of identity before) e)) in
      (inl (accepted_pair from_facts m before tt tt all), accepted_files es A are (accepted_before from_facts m before all))

  -- a command that gives something is sure of its status
  sure_command : (m : Message) (G : List core.Pair) (lost : Bool) (e : Event) (rest : List Event) → IsCommand m
      → map Given (call_events identity c G (if lost then None else Some m)) ≡ e ∷ rest → IsSure (kind_of m)
  sure_command (Of k r) G lost e rest command is = absurd command
  sure_command (FileText d modifier) G true e rest command is = cc
  sure_command (FileText d modifier) G false e rest command is = cc
  sure_command m G lost e rest command is = tt

  accepted_command : (x : Pair) (means : Option Message) (G : List core.Pair) (own : List Event) (A : List Pair) (e : Event) (rest : List Event) → IsCommanded means own
      → or_given own (call_events identity c G (call_at identity G x means)) ≡ e ∷ rest → AreAccepted (with_text identity key x.origin means A) → is_success (text identity key A x.origin means) ≡ true
  accepted_command x means G own A e rest commanded gave =
      let m = commanded.message in
      let given = subst (λ (own : List Event). or_given own (call_events identity c G (call_at identity G x means)) ≡ e ∷ rest) commanded.none gave in
      let called = subst (λ (means : Option Message). map Given (call_events identity c G (call_at identity G x means)) ≡ e ∷ rest) commanded.is given in
      subst (λ (means : Option Message). AreAccepted (with_text identity key x.origin means A) → is_success (text identity key A x.origin means) ≡ true) (sym commanded.is)
      (accepted_pair x.origin m A commanded.command (sure_command m G (is_lost identity G x m) e rest commanded.command called))

-- ---- both bounds hold before each pair

fewer : (identity : Identity) (call : Option Message) (G : List core.Pair) (n : ℕ) → length (sent_entries identity.odfi (with_call identity call G)) ≤ n → length (sent_entries identity.odfi G) ≤ n
fewer identity None G n few = few
fewer identity (Some m) G n few = let more = sent_grows identity.odfi (next_pair identity G m) G in omega arith

lower : (identity : Identity) (c : List ℕ) (call : Option Message) (G : List core.Pair) (n : ℕ)
    → count_by is_answer (core_history.part identity.odfi (with_call identity call G) c) < n → count_by is_answer (core_history.part identity.odfi G c) < n
lower identity c None G n low = low
lower identity c (Some m) G n low = let more = answers_grow (call_events identity c G (Some m)) (core_history.part identity.odfi G c) in omega arith

-- ---- the law

abbrev IsFew : Identity → (company : List ℕ) → List Pair → Type 0
IsFew identity c H = (length (sent_entries identity.odfi (calls_of identity H)) ≤ 9_999_999) × (count_by is_answer (core_history.part identity.odfi (calls_of identity H) c) < 10 ^ 21)

module _ (digests : DigestOfPart) (served : core_alone.ServedAlone) (identity : Identity) (key c : List ℕ) where
  few_before : (x : Pair) (H : List Pair) → IsFew identity c (x ∷ H) → IsFew identity c H
  few_before x H few =
      let call = call_at identity (calls_of identity H) x x.means in (
        fewer identity call (calls_of identity H) 9_999_999 (subst (λ (K : List core.Pair). length (sent_entries identity.odfi K) ≤ 9_999_999) (calls_of-more identity x H) few.0),
        lower identity c call (calls_of identity H) (10 ^ 21) (subst (λ (K : List core.Pair). count_by is_answer (core_history.part identity.odfi K c) < 10 ^ 21) (calls_of-more identity x H) few.1),
      )

  part_alone : (H : List Pair) → IsHistory identity key H → IsFew identity c H → core_history.part identity.odfi (calls_of identity (alone identity key c H)) c ≡ core_history.part identity.odfi (calls_of identity H) c
  part_alone H is few =
      ap (λ (K : List core.Pair). core_history.part identity.odfi K c) (calls_alone digests identity key H c is)
      ∙ (served identity (calls_of identity H) c (calls_are_history identity H) few.0 few.1).same_part

  alone_history : (H : List Pair) → IsHistory identity key H → IsFew identity c H → IsHistory identity key (alone identity key c H)
  alone_history [] is few = tt
  alone_history (x ∷ H) is few =
      let A = alone identity key c H in
      let history = alone_history H is.2 (few_before x H few) in
      shape identity key c (λ K. IsHistory identity key K) x.origin x.means (events_at identity H x c) A
      (λ none. history)
      (λ file some command e rest gave. files_history identity key c (core_events (events_at identity H x c)) A history)
      (λ e rest gave. (reads_alike digests identity key c H A (part_alone H is.2 (few_before x H few)) x x.origin x.means e rest gave is.0, right_text identity key x.origin x.means A, history))

  -- what gave the company events gives it the same, whole
  whole_part : (H : List Pair) → IsHistory identity key H → IsFew identity c H → (part identity (alone identity key c H) c ≡ part identity H c) × AreAcceptedOrOwn identity c (alone identity key c H)
  whole_part [] is few = (refl, tt)
  whole_part (x ∷ H) is few =
      let A = alone identity key c H in
      let es = events_at identity H x c in
      let before = whole_part H is.2 (few_before x H few) in
      let same = part_alone H is.2 (few_before x H few) in
      let all = subst (λ (K : List core.Pair). All (λ p. IsAcceptedOrOf c p) K) (sym (calls_alone digests identity key (x ∷ H) c is)) (served identity (calls_of identity (x ∷ H)) c (calls_are_history identity (x ∷ H)) few.0 few.1).accepted in (
        whole_events identity key c x H A es refl
            (ap (λ (l : List events.Event). l ++ core_history.part identity.odfi (calls_of identity H) c) (events_are digests identity key x H c is.0) ∙ sym (part_more identity key c x H))
            given same before.0 (part_alone (x ∷ H) is few),
        shape identity key c (λ K. AreAccepted identity key c K → AreAcceptedOrOwn identity c K) x.origin x.means es A
            (λ none all. before.1)
            (λ file some command e rest gave all. accepted_files identity key c (core_events es) A before.1 all)
            (λ e rest gave all. (accepted_or_own e rest gave same all, before.1)) all,
      )
    where
      G : List core.Pair
      G = calls_of identity H

      own : List Event
      own = origin_events c x.origin (core_history.part identity.odfi G c)

      kind : (e : Event) (rest : List Event) → events_at identity H x c ≡ e ∷ rest → IsPosted c x.means own ⊎ IsCommanded x.means own
      kind e rest gave = gave_events identity key c G (keys_of digests identity key H) x x.origin x.means e rest is.0 gave

      given : (file : Message) → x.means ≡ Some file → IsCommand file → (e : Event) (rest : List Event) → events_at identity H x c ≡ e ∷ rest
          → events_at identity H x c ≡ map Given (core_events (events_at identity H x c))
      given file some command e rest gave = elim (kind e rest gave) [
        | inl posted ↦ let q = posted.request file some in absurd (subst IsCommand q.1 command)
        | inr commanded ↦
            subst (λ (l : List Event). l ≡ map Given (core_events l)) (sym gave) (commanded_given identity key c G (keys_of digests identity key H) x x.means own e rest commanded gave)
      ]

      accepted_or_own : (e : Event) (rest : List Event) → events_at identity H x c ≡ e ∷ rest
          → core_history.part identity.odfi (calls_of identity (alone identity key c H)) c ≡ core_history.part identity.odfi G c
          → AreAccepted identity key c (with_text identity key x.origin x.means (alone identity key c H))
          → (is_success (text identity key (alone identity key c H) x.origin x.means) ≡ true) ⊎ IsOwn identity c (alone identity key c H) x.origin
      accepted_or_own e rest gave same all = elim (kind e rest gave) [
        | inl posted ↦ inr (posted.version, posted.route, posted.body, ap (origin_events c x.origin) same ∙ posted.is)
        | inr commanded ↦ inl (accepted_command identity key c x x.means G own (alone identity key c H) e rest commanded gave all)
      ]

pub served_alone : DigestOfPart → core_alone.ServedAlone → ServedAlone
served_alone digests served identity key H c is sent answers =
    let few : IsFew identity c H = (sent, subst (λ (P : List events.Event). count_by is_answer P < 10 ^ 21) (same_part digests identity key H c is) answers) in
    let whole = whole_part digests served identity key c H is few in
    record {
      history = alone_history digests served identity key c H is few;
      calls = calls_alone digests identity key H c is;
      accepted = whole.1;
      same_part = whole.0;
      same_answers = λ v means meant here there to.
          text_of_part digests identity key (alone identity key c H) c v means here.read to
          ∙ ap (reply_to (messages.closes v) (addressee_of v)) (part_alone digests served identity key c H is few)
          ∙ sym (text_of_part digests identity key H c v meant there.read to);
    }
