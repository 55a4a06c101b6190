-- Sent entries are entries of accepted submissions, and stay so.
use Rattle.std.proofs.Common.{◌≡◌, ℕ, ◌-◌, List, [], ◌∷◌, ◌++◌, map, Bool, true, refl, sym, ap, ◌∙◌, subst, All, Option, Some, None, is_some, unwrap_or, find, filter, zip, reverse, slice_get, slice_index_or}
use Rattle.std.specs.List.{flat_map, enumerate_from}
use Rattle.std.proofs.lemmas.Bool.{and_parts}
use Rattle.std.proofs.lemmas.List.Elements.{All-nil, All-append, All-push, All-weaker, All-map, All-filter, filter_passes}
use Rattle.std.proofs.lemmas.List.Folds.{find-append}
use Rattle.desk_plan.specs.Sequences.{ranges_of}
use Rattle.desk_rules.specs.declared.bodies.company.Company.{Company}
use Rattle.desk_rules.specs.declared.bodies.submission.Submission.{Submission}
use Rattle.desk_rules.specs.LimitChecks.{is_debit}
use Rattle.desk_history.specs.declared.sent_entry.SentEntry.{SentEntry}
use Rattle.desk_history.specs.Part.{Event, CutMade}
use Rattle.desk_history.specs.Accepted.{AcceptedSubmission, is_called, settlement_day, is_sent_next}
use Rattle.desk_history.specs.Acceptance.{submissions}
use Rattle.desk_history.specs.Reports.{submission_under}
use Rattle.desk_history.specs.AcceptedLaws.{IsLinked}
use Rattle.desk_history.specs.Message.{Message, Cut, Pair, is_accepted}
use Rattle.desk_history.specs.Sendings.{Sending, NumberedBatch, entries_in, plan_of, sent_entry, batch_entries, sent_sequence, batch_of, batches}
use Rattle.desk_history.specs.History.{companies, is_new, sendings_of, sendings, events_for, sent_entries_after, part, sent_entries}
use Rattle.desk_history.specs.SentLaws.{IsEntryOf, SentAreAccepted}
use Rattle.desk_history.proofs.Basics.Elements.{same_text, all_flat_map, all_reverse, all_zip, numbered}
use Rattle.desk_history.proofs.Acceptance.Growing.{found_holds, found_stays, accepted_stays, settled_stays}
use Rattle.desk_history.proofs.Acceptance.Ordered.{by_growing}
use Rattle.desk_history.proofs.Acceptance.Linked.{originals}

-- ---- each accepted submission is found under its reference

abbrev IsFoundIn : List AcceptedSubmission → AcceptedSubmission → Type 0
IsFoundIn A a = find (is_called a.content.reference) A ≡ Some a

each_found : (P : List Event) → All (IsFoundIn (submissions P)) (submissions P)
each_found = by_growing (λ P. All (IsFoundIn (submissions P)) (submissions P)) (All-nil (IsFoundIn []))
    (λ e P same before. subst (λ A. All (IsFoundIn A) A) (sym same) before)
    (λ P r more before. subst (λ A. All (IsFoundIn A) A) (sym more.is) (pushed (submissions P) more.added more.new before))
  where
    pushed : (A : List AcceptedSubmission) (a : AcceptedSubmission) → find (is_called a.content.reference) A ≡ None → All (IsFoundIn A) A → All (IsFoundIn (A ++ a ∷ [])) (A ++ a ∷ [])
    pushed A a new before =
        All-push (IsFoundIn (A ++ a ∷ [])) A a
        (All-weaker (IsFoundIn A) (IsFoundIn (A ++ a ∷ [])) (λ b h. found_stays (is_called b.content.reference) A a b h) A before)
        (find-append (is_called a.content.reference) A (a ∷ []) ∙ rw (new, same_text a.content.reference) refl)

-- ---- a sent entry under further events

pub entry_stays : (e : Event) (P : List Event) (s : SentEntry) → IsEntryOf P s → IsEntryOf (e ∷ P) s
entry_stays e P s h = record {
  accepted = h.accepted;
  called = accepted_stays e P s.reference h.accepted h.called;
  order = h.order;
  settles = settled_stays e P h.accepted s.settled (found_holds (IsLinked P) (is_called s.reference) (submissions P) h.accepted (originals P) h.called) h.settles;
  from = h.from;
  at = h.at;
  sec = h.sec;
  debit = h.debit;
}

pub entry_kept : (es P : List Event) (s : SentEntry) → IsEntryOf P s → IsEntryOf (es ++ P) s
entry_kept [] P s h = h
entry_kept (e ∷ es) P s h = entry_stays e (es ++ P) s (entry_kept es P s h)

-- ---- the entries of a cut

-- what a cut sends of a company with this part
record IsSent (P : List Event) (s : Sending) : Type 0 where
  pub accepted : AcceptedSubmission
  pub called : submission_under P s.content.reference ≡ Some accepted
  pub order : s.order ≡ accepted.order
  pub content : s.content ≡ accepted.content
  pub settles : settlement_day (CutMade ∷ P) accepted ≡ Some s.settled

some_of : (o : Option ℕ) → is_some o ≡ true → o ≡ Some (unwrap_or o 0)
some_of None h = cc
some_of (Some n) h = refl

sends_accepted : (parts : List ℕ → List Event) (k : Company) → All (λ s. IsSent (parts s.company.id) s) (sendings_of parts k)
sends_accepted parts k =
    let P = parts k.id in
    let chosen = filter (is_sent_next P) (submissions P) in
    All-map (λ s. IsSent (parts s.company.id) s) (λ a. record { company = k; order = a.order; content = a.content; settled = unwrap_or (settlement_day (CutMade ∷ P) a) 0 }) chosen
    (λ i d h. record {
      accepted = slice_index_or chosen i d;
      order = refl;
      content = refl;
      called = All-filter (is_sent_next P) (IsFoundIn (submissions P)) (submissions P) (each_found P) i d h;
      settles = some_of (settlement_day (CutMade ∷ P) (slice_index_or chosen i d))
          (and_parts _ (is_some (settlement_day (CutMade ∷ P) (slice_index_or chosen i d))) (filter_passes (is_sent_next P) (submissions P) i d h)).1;
    })

entries_of_a_batch : (parts : List ℕ → List Event) (b : NumberedBatch) → IsSent (parts b.sending.company.id) b.sending → All (λ e. IsEntryOf (CutMade ∷ parts e.company) e) (batch_entries b)
entries_of_a_batch parts b is =
    All-map (λ e. IsEntryOf (CutMade ∷ parts e.company) e) (λ x. sent_entry b x.0 x.1) (enumerate_from 1 (entries_in b.sending))
    (λ i d h.
    let stands = numbered 1 (entries_in b.sending) i d h in
    record {
      accepted = is.accepted;
      called = is.called;
      order = is.order;
      settles = is.settles;
      from = stands.0;
      at = ap (λ (s : Submission). slice_get s.entries ((slice_index_or (enumerate_from 1 (entries_in b.sending)) i d).0 - 1)) (sym is.content) ∙ stands.1;
      sec = ap (λ (s : Submission). s.sec) is.content;
      debit = ap (λ (s : Submission). is_debit s.direction) is.content;
    })

new_entries : (parts : List ℕ → List Event) (es : List SentEntry) (ks : List Company)
    → All (λ e. IsEntryOf (CutMade ∷ parts e.company) e) (reverse (flat_map batch_entries (batches es (sendings parts ks))))
new_entries parts es ks =
    let sendings = sendings parts ks in
    let all : All (λ s. IsSent (parts s.company.id) s) sendings =
    all_flat_map (λ s. IsSent (parts s.company.id) s) (sendings_of parts) ks (λ i d h. sends_accepted parts (slice_index_or ks i d)) in
    let paired = zip (ranges_of (map sent_sequence es) (map plan_of sendings)) sendings in
    let in_batches : All (λ b. IsSent (parts b.sending.company.id) b.sending) (batches es sendings) =
    All-map (λ b. IsSent (parts b.sending.company.id) b.sending) batch_of paired
    (all_zip (λ s. IsSent (parts s.company.id) s) (ranges_of (map sent_sequence es) (map plan_of sendings)) sendings all) in
    all_reverse (λ e. IsEntryOf (CutMade ∷ parts e.company) e) (flat_map batch_entries (batches es sendings))
    (all_flat_map (λ e. IsEntryOf (CutMade ∷ parts e.company) e) batch_entries (batches es sendings)
    (λ i d h. entries_of_a_batch parts (slice_index_or (batches es sendings) i d) (in_batches i d h)))

-- ---- all that was sent

entries_after : (odfi : List ℕ) (new ok : Bool) (m : Message) (es : List SentEntry) (parts : List ℕ → List Event) (ks : List Company) → All (λ e. IsEntryOf (parts e.company) e) es
    → All (λ e. IsEntryOf (events_for odfi es new e.company ok m (parts e.company) ++ parts e.company) e) (sent_entries_after ok m es parts ks)
entries_after odfi new true Cut es parts ks all =
    All-append (λ e. IsEntryOf (CutMade ∷ parts e.company) e) (reverse (flat_map batch_entries (batches es (sendings parts ks)))) es
    (new_entries parts es ks)
    (λ i d h. entry_stays CutMade (parts (slice_index_or es i d).company) (slice_index_or es i d) (all i d h))
entries_after odfi new ok m es parts ks all =
    λ i d h. entry_kept (events_for odfi es new (slice_index_or es i d).company ok m (parts (slice_index_or es i d).company)) (parts (slice_index_or es i d).company) (slice_index_or es i d) (all i d h)

pub entries_of : (odfi : List ℕ) (H : List Pair) → All (λ e. IsEntryOf (part odfi H e.company) e) (sent_entries odfi H)
entries_of odfi [] = All-nil _
entries_of odfi (x ∷ H) =
    entries_after odfi (is_new H x.message) (is_accepted x.answer) x.message (sent_entries odfi H) (λ c. part odfi H c) (companies H) (entries_of odfi H)

pub sent_are_accepted : SentAreAccepted
sent_are_accepted odfi H = entries_of odfi H
