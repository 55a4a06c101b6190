-- Files in a desk that serves one company alone: one for each return and each change.
use Rattle.std.proofs.Common.{◌≡◌, ℕ, ◌+◌, ◌<◌, ◌≤◌, ◌^◌, List, [], ◌∷◌, ◌++◌, length, map, Bool, true, false, cond, not, ◌&&◌, refl, sym, ap, ◌∙◌, subst, inl, arith, append_assoc, if◌then◌else◌, unwrap_or, bytes_eq, count_by, filter, find, Option, Some, None, option_map, option_to_list, is_none, Ok}
use Rattle.std.specs.List.{list_any}
use Rattle.std.specs.Option.{option_or}
use Rattle.std.proofs.lemmas.Bool.{and_from, eq-eqb, false_from_ne_true}
use Rattle.std.proofs.lemmas.List.{length-map}
use Rattle.std.proofs.lemmas.List.Folds.{find-append}
use Rattle.std.proofs.lemmas.Slice.Eq.{bytes_eq-Decides}
use Rattle.ach_fields.specs.Digits.{digits, number}
use Rattle.ach_fields.specs.Laws.{NumbersAndDigits}
use Rattle.ach_files.specs.declared.facts.ItemFacts.{ItemFacts}
use Rattle.ach_files.specs.declared.facts.ReturnOrChange.{ReturnOrChange}
use Rattle.ach_files.specs.declared.facts.ReturnOrChange.TheVariants as kinds
use Rattle.ach_files.specs.Facts.{FileFacts}
use Rattle.desk_plan.specs.declared.batch.Batch as plan
use Rattle.desk_plan.specs.Sequences.{IsNumbered}
use Rattle.ach_fields.specs.Trace.{most_sequence}
use Rattle.desk_rules.specs.declared.bodies.company.Company.{Company}
use Rattle.desk_rules.specs.ReturnCodes.{IsCode, code_of}
use Rattle.desk_history.specs.declared.answer.Answer.{Answer}
use Rattle.desk_history.specs.declared.answer.Answer.TheVariants as answers
use Rattle.desk_history.specs.declared.identity.Identity.{Identity}
use Rattle.desk_history.specs.declared.operations.TakenFile.{TakenFile}
use Rattle.desk_history.specs.declared.sent_entry.SentEntry.{SentEntry}
use Rattle.desk_history.specs.Part as part_of
use Rattle.desk_history.specs.Part.{Event, Returned, Changed}
use Rattle.desk_history.specs.State.{is_returned}
use Rattle.desk_history.specs.Message.{Message, TakeFile, Pair, is_accepted}
use Rattle.desk_history.specs.Sendings.{sent_sequence}
use Rattle.desk_history.specs.Resolve.{has_trace, is_change_code, event_of, resolve, is_repeated_return, item_event, item_events}
use Rattle.desk_history.specs.History.{day, companies, takes_key, is_new_file, events_for, sent_entries_after, part, sent_entries}
use Rattle.desk_history.specs.Files.{cut_batches, file_count, files, files_after}
use Rattle.desk_history.specs.Intake.{new_file, taken_file, with_taken_file, taken_files, has_key, intake_unless_known, intake_on_day}
use Rattle.desk_history.specs.Operator.{answer_to, intake_answer, next_pair}
use Rattle.desk_history.specs.Alone.{is_answer, is_entry, return_item, change_item, item_for, file_for, with_files}
use Rattle.desk_history.proofs.Accounts.Companies.{companies_after}
use Rattle.desk_history.proofs.Basics.Elements.{same_text}
use Rattle.desk_history.proofs.Alone.Lone.{IsLone, lone_day, no_file, count-answers}
use Rattle.desk_history.proofs.Alone.LoneCompany.{none_first}
use Rattle.desk_history.proofs.Alone.LoneCuts.{unnumbered, is_entry_of}
use Rattle.desk_history.proofs.Acceptance.Growing.{found_any}
use Rattle.desk_history.proofs.Alone.LoneItems.{in_order, among_own, IsThere, there, resolves_return, resolves_change}
use Rattle.desk_history.proofs.Sent.Resolving.{event_holds, given_holds}

-- ---- keys

-- a key that no file took is not among those that were taken
not_taken : (odfi key : List ℕ) (G : List Pair) → find (takes_key key) G ≡ None → find (has_key key) (taken_files odfi G) ≡ None
not_taken odfi key [] none = refl
not_taken odfi key (x ∷ G) none =
    let parts = none_first (takes_key key) x G none in
    by x.answer x.message parts.0 (not_taken odfi key G parts.1)
  where
    with_one : (f : FileFacts) (before : List TakenFile) → bytes_eq f.key key ≡ false → find (has_key key) before ≡ None → (b : Bool) → find (has_key key) (with_taken_file odfi G (if b then Some f else None) before) ≡ None
    with_one f before other h false = h
    with_one f before other h true =
        find-append (has_key key) before (taken_file odfi G (unwrap_or (day G) 0) f ∷ [])
        ∙ ap (λ (o : Option TakenFile). option_or o (find (has_key key) (taken_file odfi G (unwrap_or (day G) 0) f ∷ []))) h
        ∙ ap (λ (b : Bool). cond b (Some (taken_file odfi G (unwrap_or (day G) 0) f)) None) other

    by : (a : Answer) (m : Message) → takes_key key (record { message = m; answer = a }) ≡ false → find (has_key key) (taken_files odfi G) ≡ None
        → find (has_key key) (with_taken_file odfi G (new_file G (record { message = m; answer = a })) (taken_files odfi G)) ≡ None
    by (answers.Done value) (TakeFile (Ok f)) other h = with_one f (taken_files odfi G) other h (is_new_file G f.key)
    by (answers.Done value) m other h = h
    by (answers.Refused why) m other h = h

-- numbers of at most 21 digits have different keys
keys_differ : NumbersAndDigits → (m n : ℕ) → m < n → n < 10 ^ 21 → bytes_eq (digits 21 m) (digits 21 n) ≡ false
keys_differ law m n less few =
    false_from_ne_true _ (λ same.
    let is : m ≡ n = sym (law.read 21 m (omega arith)) ∙ ap number ((bytes_eq-Decides (digits 21 m) (digits 21 n)).0 same) ∙ law.read 21 n few in
    omega arith)

-- ---- events that a file can give the company: of an entry that was sent, and each return once

pub record IsToldReturn (c : List ℕ) (es : List SentEntry) (P : List Event) (reference : List ℕ) (index code : ℕ) : Type 0 where
  pub sent : list_any (is_entry c reference index) es ≡ true
  pub first : is_returned P reference index ≡ false
  pub code_is : IsCode code

pub record IsToldChange (c : List ℕ) (es : List SentEntry) (reference : List ℕ) (index : ℕ) (code : List ℕ) : Type 0 where
  pub sent : list_any (is_entry c reference index) es ≡ true
  pub code_is : is_change_code code ≡ true

abbrev pub IsTold : List ℕ → List SentEntry → List Event → Event → Type 0
IsTold c es P (Returned reference index code information) = IsToldReturn c es P reference index code
IsTold c es P (Changed reference index code text) = IsToldChange c es reference index code
IsTold c es P _ = ⊥

abbrev pub AreTold : List ℕ → List SentEntry → List Event → List Event → Type 0
AreTold c es [] P = Unit {0}
AreTold c es (e ∷ more) P = IsTold c es (more ++ P) e × AreTold c es more P

told_answer : (c : List ℕ) (es : List SentEntry) (P : List Event) (e : Event) → IsTold c es P e → is_answer e ≡ true
told_answer c es P (Returned reference index code information) told = refl
told_answer c es P (Changed reference index code text) told = refl
told_answer c es P e told = absurd told

told_day : (c : List ℕ) (es : List SentEntry) (P : List Event) (e : Event) → IsTold c es P e → part_of.day (e ∷ P) ≡ part_of.day P
told_day c es P (Returned reference index code information) told = refl
told_day c es P (Changed reference index code text) told = refl
told_day c es P e told = absurd told

told_append : (c : List ℕ) (es : List SentEntry) (more events P : List Event) → AreTold c es more (events ++ P) → AreTold c es events P → AreTold c es (more ++ events) P
told_append c es [] events P h k = k
told_append c es (e ∷ more) events P h k = (subst (λ (Q : List Event). IsTold c es Q e) (sym (append_assoc more events P)) h.0, told_append c es more events P h.1 k)

-- ---- what a file of the whole desk gives

change_within : (e : SentEntry) (item : ItemFacts) (reference : List ℕ) (index : ℕ) (code text : List ℕ) → event_of e item ≡ Some (Changed reference index code text) → is_change_code code ≡ true
change_within e item reference index code text h = by_kind item.return_or_change h where
  by_code : (information : List ℕ) (o : Option ℕ) → option_map (λ n. Returned e.reference e.index n information) o ≡ Some (Changed reference index code text) → is_change_code code ≡ true
  by_code information None k = cc
  by_code information (Some n) k = cc

  by_change : (b : Bool) (corrected : List ℕ) → is_change_code item.code ≡ b → (if b then Some (Changed e.reference e.index item.code corrected) else None) ≡ Some (Changed reference index code text) → is_change_code code ≡ true
  by_change true corrected is k = let same : item.code ≡ code = cc in ap is_change_code (sym same) ∙ is
  by_change false corrected is k = cc

  by_kind : (kind : ReturnOrChange) → event_of e (record item { return_or_change = kind }) ≡ Some (Changed reference index code text) → is_change_code code ≡ true
  by_kind (kinds.Return information) k = by_code information (code_of item.code) k
  by_kind (kinds.Change corrected) k = by_change (is_change_code item.code) corrected refl k

told_item : (odfi : List ℕ) (entries : List SentEntry) (c : List ℕ) (P : List Event) (item : ItemFacts) → AreTold c (filter (is_entry_of c) (map unnumbered entries)) (item_event c P (resolve odfi entries item)) P
told_item odfi entries c P item =
    let es = filter (is_entry_of c) (map unnumbered entries) in
    given_holds (λ more. AreTold c es more P) c P odfi entries item tt
    (λ x gives.
    let e = x.entry in
    let itself : is_entry c e.reference e.index e ≡ true = and_from _ _ (and_from _ _ gives.own (same_text e.reference)) (eq-eqb e.index e.index refl) in
    let among = among_own c e.reference e.index entries (found_any (has_trace odfi item.original_trace) (is_entry c e.reference e.index) entries e gives.meeting.names itself) in (
      event_holds (λ event. event_of e item ≡ Some event → is_repeated_return P event ≡ false → IsTold c es P event) e item x.event gives.meeting.gives
          (λ code information within is first. record { sent = among; first = first; code_is = within })
          (λ code text is first. record { sent = among; code_is = change_within e item e.reference e.index code text is })
          gives.meeting.gives
          gives.first,
      tt,
    ))

pub told_items : (odfi : List ℕ) (entries : List SentEntry) (c : List ℕ) (items : List ItemFacts) (P : List Event) → AreTold c (filter (is_entry_of c) (map unnumbered entries)) (item_events odfi entries c items P) P
told_items odfi entries c [] P = tt
told_items odfi entries c (item ∷ items) P =
    let event = item_event c P (resolve odfi entries item) in
    told_append c (filter (is_entry_of c) (map unnumbered entries)) (item_events odfi entries c items (event ++ P)) event P (told_items odfi entries c items (event ++ P)) (told_item odfi entries c P item)

-- ---- the files of the lone desk

module _ (law : NumbersAndDigits) (identity : Identity) (c : List ℕ) (ks : List Company) (es : List SentEntry) (cuts : ℕ → List (List plan.Batch)) (few : length es ≤ most_sequence) where
  -- the item of an event, and what it gives there
  record IsItemOf (P : List Event) (G : List Pair) (e : Event) : Type 0 where
    item : ItemFacts
    is : item_for identity.odfi c (sent_entries identity.odfi G) e ≡ Some item
    gives : item_event c P (resolve identity.odfi (sent_entries identity.odfi G) item) ≡ e ∷ []

  module _ (P : List Event) (G : List Pair) (h : IsLone identity c ks es cuts P G) where
    found_there : (reference : List ℕ) (index : ℕ) → list_any (is_entry c reference index) es ≡ true → IsThere identity.odfi c reference index (sent_entries identity.odfi G)
    found_there reference index among =
        let same = ap length h.entries in
        let long = length-map (sent_entries identity.odfi G) unnumbered in
        there law identity.odfi c reference index (sent_entries identity.odfi G) (in_order (sent_entries identity.odfi G) h.numbered) (omega arith)
        (subst (λ (l : List SentEntry). list_any (is_entry c reference index) l ≡ true) (sym h.entries) among)

    item_of : (e : Event) → IsTold c es P e → IsItemOf P G e
    item_of (Returned reference index code information) told =
        let at = found_there reference index told.sent in
        record {
          item = return_item identity.odfi code information at.entry;
          is = ap (option_map (return_item identity.odfi code information)) at.found;
          gives =
              ap (item_event c P) (resolves_return identity.odfi (sent_entries identity.odfi G) at.entry code information told.code_is at.traced)
              ∙ (λ i. if bytes_eq (at.company i) c && not (is_returned P (at.called i) (at.numbered i)) then Returned (at.called i) (at.numbered i) code information ∷ [] else [])
              ∙ (λ i. if same_text c i && not (told.first i) then Returned reference index code information ∷ [] else []);
        }
    item_of (Changed reference index code text) told =
        let at = found_there reference index told.sent in
        record {
          item = change_item identity.odfi code text at.entry;
          is = ap (option_map (change_item identity.odfi code text)) at.found;
          gives =
              ap (item_event c P) (resolves_change identity.odfi (sent_entries identity.odfi G) at.entry code text told.code_is at.traced)
              ∙ (λ i. if bytes_eq (at.company i) c && true then Changed (at.called i) (at.numbered i) code text ∷ [] else [])
              ∙ (λ i. if same_text c i && true then Changed reference index code text ∷ [] else []);
        }
    item_of e told = absurd told

    file_step : (d : ℕ) → part_of.day P ≡ Some d → (e : Event) → IsTold c es P e → count_by is_answer (e ∷ P) < 10 ^ 21
        → IsLone identity c ks es cuts (e ∷ P) (next_pair identity G (TakeFile (Ok (file_for identity c G e))) ∷ G)
    file_step d on e told low =
        let odfi = identity.odfi in
        let f = file_for identity c G e in
        let x = next_pair identity G (TakeFile (Ok f)) in
        let before = count_by is_answer P in
        let count = count-answers e P true (told_answer c es P e told) in
        let key_is : f.key ≡ digits 21 (before + 1) = ap (λ (Q : List Event). digits 21 (count_by is_answer Q + 1)) h.same_part in
        let unused : find (takes_key f.key) G ≡ None = ap (λ (k : List ℕ). find (takes_key k) G) key_is ∙ h.keys (before + 1) (omega arith) (omega (arith, count, low)) in
        let new : is_new_file G f.key ≡ true = ap is_none unused in
        let yes' : is_accepted (answer_to identity G (TakeFile (Ok f))) ≡ true =
        ap (λ (o : Option ℕ). is_accepted (intake_answer (intake_on_day odfi G o (Ok f)))) (lone_day h ∙ on)
        ∙ ap (λ (o : Option TakenFile). is_accepted (intake_answer (intake_unless_known odfi G d f o))) (not_taken odfi f.key G unused) in
        let one = item_of e told in
        record {
          history = (λ _. refl, h.history);
          accepted = (inl yes', h.accepted);
          same_part =
              (λ i. events_for odfi (sent_entries odfi G) (new i) c (yes' i) (TakeFile (Ok f)) (part odfi G c) ++ part odfi G c)
              ∙ ap (λ (o : Option ItemFacts). item_events odfi (sent_entries odfi G) c (option_to_list o) (part odfi G c) ++ part odfi G c) one.is
              ∙ ap (λ (Q : List Event). item_event c Q (resolve odfi (sent_entries odfi G) one.item) ++ Q) h.same_part
              ∙ ap (λ (l : List Event). l ++ P) one.gives;
          registered = ap (λ (b : Bool). companies_after b (TakeFile (Ok f)) (companies G)) yes' ∙ h.registered;
          entries = ap (λ (b : Bool). map unnumbered (sent_entries_after b (TakeFile (Ok f)) (sent_entries odfi G) (part odfi G) (companies G))) yes' ∙ h.entries;
          numbered = subst (λ (b : Bool). IsNumbered (map sent_sequence (sent_entries_after b (TakeFile (Ok f)) (sent_entries odfi G) (part odfi G) (companies G)))) (sym yes') h.numbered;
          made = λ d'. ap (λ (b : Bool). file_count d' (files_after b (TakeFile (Ok f)) (unwrap_or (day G) 0) (cut_batches odfi G) (files odfi G))) yes' ∙ h.made d';
          keys = λ n more top.
              let past : before + 1 < n = omega (arith, count, more) in
              let takes : takes_key (digits 21 n) x ≡ false =
              ap (λ (k : List ℕ). is_accepted x.answer && bytes_eq k (digits 21 n)) key_is
              ∙ ap (λ (b : Bool). is_accepted x.answer && b) (keys_differ law (before + 1) n past top)
              ∙ no_file (is_accepted x.answer) in
              ap (λ (b : Bool). cond b (Some x) (find (takes_key (digits 21 n)) G)) takes ∙ h.keys n (omega arith) top;
        }

  told_days : (events P : List Event) → AreTold c es events P → part_of.day (events ++ P) ≡ part_of.day P
  told_days [] P told = refl
  told_days (e ∷ events) P told = told_day c es (events ++ P) e told.0 ∙ told_days events P told.1

  -- The files give the company the events.
  pub files_step : (P : List Event) (G : List Pair) → IsLone identity c ks es cuts P G → (d : ℕ) → part_of.day P ≡ Some d
      → (events : List Event) → AreTold c es events P → count_by is_answer (events ++ P) < 10 ^ 21 → IsLone identity c ks es cuts (events ++ P) (with_files identity c events G)
  files_step P G h d on [] told low = h
  files_step P G h d on (e ∷ events) told low =
      let count = count-answers e (events ++ P) true (told_answer c es (events ++ P) e told.0) in
      let before = files_step P G h d on events told.1 (omega (arith, count, low)) in
      file_step (events ++ P) (with_files identity c events G) before d (told_days events P told.1 ∙ on) e told.0 low
