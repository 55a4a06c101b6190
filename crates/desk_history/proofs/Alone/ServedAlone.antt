-- A company's part of a history is what a desk that serves it alone has.
use Rattle.std.proofs.Common.{◌≡◌, ℕ, ◌<◌, ◌≤◌, ◌^◌, List, [], ◌∷◌, ◌++◌, length, map, Bool, true, false, cond, refl, ap, ◌∙◌, arith, length-append, count_by, Option, Some, None, Ok, reverse}
use Rattle.std.specs.List.{flat_map}
use Rattle.std.proofs.lemmas.List.{length-map}
use Rattle.std.proofs.lemmas.List.Elements.{All-from_recursion}
use Rattle.std.proofs.lemmas.List.Sums.{sum_by-append}
use Rattle.ach_fields.specs.Laws.{NumbersAndDigits}
use Rattle.ach_files.specs.Facts.{FileFacts}
use Rattle.desk_plan.specs.Laws.{AcceptedAlone, NeverTwice, SentByCut}
use Rattle.ach_fields.specs.Trace.{most_sequence}
use Rattle.desk_history.specs.declared.answer.Answer.{Answer}
use Rattle.desk_history.specs.declared.answer.Answer.TheVariants.{Done, Refused}
use Rattle.desk_history.specs.declared.identity.Identity.{Identity}
use Rattle.desk_history.specs.declared.sent_entry.SentEntry.{SentEntry}
use Rattle.desk_history.specs.Part.{Event}
use Rattle.desk_history.specs.Message.{Message, Of, SetDay, SetHolidays, PutCompany, PutLimits, Cut, TakeFile, Pair, is_accepted}
use Rattle.desk_history.specs.Sendings.{batch_entries, batches}
use Rattle.desk_history.specs.Reply.{reply}
use Rattle.desk_history.specs.History.{day, companies, is_new, is_new_file, events_for, part, sent_entries}
use Rattle.desk_history.specs.Resolve.{item_events}
use Rattle.desk_history.specs.Files.{cut_sendings}
use Rattle.desk_history.specs.Intake.{intake_on_day}
use Rattle.desk_history.specs.Operator.{answer_to, intake_answer, IsHistory}
use Rattle.desk_history.specs.Alone.{is_answer, with_message, with_files, alone, IsAcceptedOrOf, ServedAlone}
use Rattle.desk_history.proofs.Accounts.Companies.{accepted_is}
use Rattle.desk_history.proofs.Alone.CutAlone.{filter_shorter, cut_step}
use Rattle.desk_history.proofs.Alone.FilesAlone.{told_items, files_step}
use Rattle.desk_history.proofs.Alone.Lone.{own_companies, own_sent, own_cuts, IsLoneOf}
use Rattle.desk_history.proofs.Alone.LoneCuts.{unnumbered, is_entry_of}
use Rattle.desk_history.proofs.Alone.LoneMessages.{of_step, day_step, holidays_step, company_step, limits_step}
use Rattle.desk_history.proofs.Lines.PartLimits.{same_day}
use Rattle.desk_history.proofs.Traces.SentWith.{sent_after-keeps}

-- ---- both only grow

pub sent_grows : (odfi : List ℕ) (x : Pair) (H : List Pair) → length (sent_entries odfi H) ≤ length (sent_entries odfi (x ∷ H))
sent_grows odfi x H =
    sent_after-keeps (λ (l : List SentEntry). length (sent_entries odfi H) ≤ length l) (is_accepted x.answer) x.message (sent_entries odfi H) (part odfi H) (companies H) (omega arith)
    (λ _ _. let all = length-append (reverse (flat_map batch_entries (batches (sent_entries odfi H) (cut_sendings odfi H)))) (sent_entries odfi H) in omega arith)

pub answers_grow : (more P : List Event) → count_by is_answer P ≤ count_by is_answer (more ++ P)
answers_grow more P = let all = sum_by-append (λ (e : Event). cond (is_answer e) 1 0) more P in omega arith

-- ---- one message of the whole desk

some_day : (odfi : List ℕ) (H : List Pair) (f : FileFacts) (o : Option ℕ) → is_accepted (intake_answer (intake_on_day odfi H o (Ok f))) ≡ true → (d : ℕ) × (o ≡ Some d)
some_day odfi H f None h = cc
some_day odfi H f (Some d) h = (d, refl)

module _ (digits_law : NumbersAndDigits) (counts : SentByCut) (never : NeverTwice) (law : AcceptedAlone) (identity : Identity) (c : List ℕ) where
  file_step : (H : List Pair) (f : FileFacts) (G : List Pair) → IsLoneOf identity c H (part identity.odfi H c) G → length (sent_entries identity.odfi H) ≤ most_sequence
      → is_accepted (answer_to identity H (TakeFile (Ok f))) ≡ true → (new : Bool)
      → count_by is_answer (events_for identity.odfi (sent_entries identity.odfi H) new c true (TakeFile (Ok f)) (part identity.odfi H c) ++ part identity.odfi H c) < 10 ^ 21
      → IsLoneOf identity c H (events_for identity.odfi (sent_entries identity.odfi H) new c true (TakeFile (Ok f)) (part identity.odfi H c) ++ part identity.odfi H c)
      (with_message identity c (TakeFile (Ok f)) (events_for identity.odfi (sent_entries identity.odfi H) new c true (TakeFile (Ok f)) (part identity.odfi H c)) G)
  file_step H f G h few ok false low = h
  file_step H f G h few ok true low =
      let odfi = identity.odfi in
      let P = part odfi H c in
      let on = some_day odfi H f (day H) ok in
      let told = told_items odfi (sent_entries odfi H) c f.items P in
      let long = length-map (sent_entries odfi H) unnumbered in
      let own = filter_shorter (is_entry_of c) (map unnumbered (sent_entries odfi H)) in
      by (item_events odfi (sent_entries odfi H) c f.items P)
      (files_step digits_law identity c (own_companies c H) (own_sent odfi c H) (own_cuts odfi c H) (omega arith) P G h on.0 (same_day odfi H c ∙ on.1) (item_events odfi (sent_entries odfi H) c f.items P) told low)
    where
      by : (events : List Event) → IsLoneOf identity c H (events ++ part identity.odfi H c) (with_files identity c events G)
          → IsLoneOf identity c H (events ++ part identity.odfi H c) (with_message identity c (TakeFile (Ok f)) events G)
      by [] h = h
      by (e ∷ events) h = h

  no_file_step : (H : List Pair) (f : FileFacts) (G : List Pair) → IsLoneOf identity c H (part identity.odfi H c) G → (new : Bool)
      → IsLoneOf identity c H (events_for identity.odfi (sent_entries identity.odfi H) new c false (TakeFile (Ok f)) (part identity.odfi H c) ++ part identity.odfi H c)
      (with_message identity c (TakeFile (Ok f)) (events_for identity.odfi (sent_entries identity.odfi H) new c false (TakeFile (Ok f)) (part identity.odfi H c)) G)
  no_file_step H f G h true = h
  no_file_step H f G h false = h

  -- the lone desk after a message of the whole desk
  abbrev Follows : List Pair → Message → Answer → List Pair → Type 0
  Follows H m a G =
      IsLoneOf identity c (record { message = m; answer = a } ∷ H) (part identity.odfi (record { message = m; answer = a } ∷ H) c)
      (with_message identity c m (events_for identity.odfi (sent_entries identity.odfi H) (is_new H m) c (is_accepted a) m (part identity.odfi H c)) G)

  step : (H : List Pair) (m : Message) (a : Answer) (G : List Pair) → IsHistory identity (record { message = m; answer = a } ∷ H)
      → length (sent_entries identity.odfi H) ≤ most_sequence
      → length (sent_entries identity.odfi (record { message = m; answer = a } ∷ H)) ≤ most_sequence
      → count_by is_answer (part identity.odfi (record { message = m; answer = a } ∷ H) c) < 10 ^ 21
      → IsLoneOf identity c H (part identity.odfi H c) G → Follows H m a G
  step H (Of k r) (Done value) G is few most low h = of_step identity H c k r (part identity.odfi H c) G h
  step H (Of k r) (Refused why) G is few most low h = of_step identity H c k r (part identity.odfi H c) G h
  step H (SetDay text) (Done value) G is few most low h = day_step identity H c text G h (accepted_is identity (record { message = SetDay text; answer = Done value }) H is refl)
  step H (SetHolidays days) (Done value) G is few most low h = holidays_step identity H c days (part identity.odfi H c) G h
  step H (PutCompany d) (Done value) G is few most low h = company_step identity H c d (part identity.odfi H c) G h (accepted_is identity (record { message = PutCompany d; answer = Done value }) H is refl)
  step H (PutLimits d) (Done value) G is few most low h = limits_step identity H c d (part identity.odfi H c) G h (accepted_is identity (record { message = PutLimits d; answer = Done value }) H is refl)
  step H Cut (Done value) G is few most low h =
      cut_step counts never law identity H (record { message = Cut; answer = Done value }) c G (record { history = is; message = refl; accepted = refl }) most h
  step H (TakeFile (Ok f)) (Done value) G is few most low h = file_step H f G h few (accepted_is identity (record { message = TakeFile (Ok f); answer = Done value }) H is refl) (is_new_file H f.key) low
  step H (TakeFile (Ok f)) (Refused why) G is few most low h = no_file_step H f G h (is_new_file H f.key)
  step H m (Done value) G is few most low h = h
  step H m (Refused why) G is few most low h = h

  -- ---- the whole history

  beside : (H : List Pair) → IsHistory identity H → length (sent_entries identity.odfi H) ≤ most_sequence → count_by is_answer (part identity.odfi H c) < 10 ^ 21
      → IsLoneOf identity c H (part identity.odfi H c) (alone identity c H)
  beside [] is few low = record {
    history = tt;
    accepted = tt;
    same_part = refl;
    registered = refl;
    entries = refl;
    numbered = record { in_order = refl };
    made = λ d. refl;
    keys = λ n more top. refl;
  }
  beside (x ∷ H) is few low =
      let odfi = identity.odfi in
      let sent_more = sent_grows odfi x H in
      let more = answers_grow (events_for odfi (sent_entries odfi H) (is_new H x.message) c (is_accepted x.answer) x.message (part odfi H c)) (part odfi H c) in
      let before : length (sent_entries odfi H) ≤ most_sequence = omega arith in
      step H x.message x.answer (alone identity c H) is before few low (beside H is.1 before (omega arith))

pub served_alone : NumbersAndDigits → SentByCut → NeverTwice → AcceptedAlone → ServedAlone
served_alone digits_law counts never law identity H c is few low =
    let lone = beside digits_law counts never law identity c H is few low in
    record {
      history = lone.history;
      accepted = All-from_recursion (λ x. IsAcceptedOrOf c x) (alone identity c H) lone.accepted;
      same_part = lone.same_part;
      same_answers = λ r. ap (λ (P : List Event). reply P r) lone.same_part;
    }
