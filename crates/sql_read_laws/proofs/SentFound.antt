-- A sent entry is found at its place.
use Rattle.std.proofs.Common.{◌≡◌, ℕ, ◌+◌, ◌-◌, true, ◌&&◌, ◌==◌, List, [], ◌∷◌, map, filter, find, reverse, slice_get, Option, Some, None, option_map, sym, subst, ap, ◌∙◌, arith, bytes_eq}
use Rattle.std.specs.Prelude.{option_and_then}
use Rattle.std.specs.List.{AllByRecursion, enumerate_from}
use Rattle.std.proofs.lemmas.Bool.{and_parts, and_from, eq-eqb, eqb-true}
use Rattle.std.proofs.lemmas.Bool.Decides.{same_from_decides}
use Rattle.std.proofs.lemmas.List.{reverse-reverse}
use Rattle.std.proofs.lemmas.List.Elements.{recursion_from_All}
use Rattle.std.proofs.lemmas.Slice.Eq.{bytes_eq-Decides}
use Rattle.sqlite_keyed.proofs.ListLemmas.{all_of, all-map, all-flat_map, all-slice_get}
use Rattle.desk_history.specs.declared.sent_entry.SentEntry.{SentEntry}
use Rattle.desk_history.specs.Sendings.{sent_sequence}
use Rattle.desk_plan.specs.Reuse.{youngest_settlement}
use Rattle.desk_rules.specs.LimitChecks.{is_debit}
use Rattle.desk_rules.specs.declared.bodies.submission.Entry.{Entry}
use Rattle.desk_store.specs.Rows.{CompanyRow, Rows}
use Rattle.sql_tables.specs.Beside.{Beside, IsSentFrom, AreApart}
use Rattle.sql_tables.specs.CutTables.{is_entry_row}
use Rattle.sql_tables.specs.Description.{key_cmp}
use Rattle.sql_tables.specs.DeskTables as the
use Rattle.sql_tables.specs.Encodes.{Encodes, submission_record, entry_record, entry_records, youngest_place}
use Rattle.sql_tables.specs.KeyOrders.{IsInOrder}
use Rattle.sql_tables.specs.Selected.{facts_of, placed_of}
use Rattle.sql_tables.specs.TableReads.{entry_at_place, facts_in, is_at_place, place_in}
use Rattle.sql_tables.specs.Tables.{Tables}
use Rattle.sql_tables.specs.declared.records.EntryRecord.{EntryRecord}
use Rattle.sql_tables.specs.declared.row.entries.PlacedEntry.{PlacedEntry}
use Rattle.sql_tables.specs.declared.row.submissions.SubmissionFacts.{SubmissionFacts}
use Rattle.sql_tables.specs.Composed.{sent_entry_of, sent_with, sent_at, sent_in, settled_at}
use Rattle.sql_tables.proofs.Lists.{find-map, find_agrees, of_contained, option_map-map, ascending_from_pairs}
use Rattle.sql_read_laws.proofs.OwnParts.{own_record, own_entry, numbered_found}
use Rattle.sql_read_laws.proofs.SentPlaces.{place_is, youngest, StandsAt, StandsOrNone, stands, stands_as}
use Rattle.sql_read_laws.proofs.WholeRows.{is_own, all_alone}

-- the same entry is asked for either way round
turn : (a b : List ℕ) (m n i j : ℕ) → (bytes_eq a b && m == n && i == j) ≡ true → (bytes_eq b a && n == m && j == i) ≡ true
turn a b m n i j is =
    let outer = and_parts _ _ is in
    let inner = and_parts _ _ outer.0 in
    and_from _ _ (and_from _ _ ((bytes_eq-Decides b a).1 (sym ((bytes_eq-Decides a b).0 inner.0))) (eq-eqb n m (sym (eqb-true m n inner.1)))) (eq-eqb j i (sym (eqb-true i j outer.1)))

turned : (a b : List ℕ) (m n i j : ℕ) → (bytes_eq a b && m == n && i == j) ≡ (bytes_eq b a && n == m && j == i)
turned a b m n i j =
    same_from_decides {P = (bytes_eq a b && m == n && i == j) ≡ true} (bytes_eq a b && m == n && i == j) (bytes_eq b a && n == m && j == i)
    ((λ is. is), (λ is. is)) (turn b a n m j i, turn a b m n i j)

module _ (t : Tables) (r : Rows) (e : Encodes t r) (rise : IsInOrder (key_cmp the.submissions) t.submissions) (beside : Beside t r) where
  abbrev placed : SentEntry → PlacedEntry
  placed s = record { company = s.company; order = s.order; index = s.index; entry = s.entry }

  record SaysOf (s : SentEntry) (facts : SubmissionFacts) : Type 0 where
    reference : facts.reference ≡ s.reference
    sec : facts.sec ≡ s.sec
    debit : is_debit facts.direction ≡ s.debit
    settled : facts.settled ≡ Some s.settled

  record IsFoundAt (place : ℕ) (s : SentEntry) : Type 0 where
    entry : entry_at_place place t ≡ Some (placed s)
    facts : SubmissionFacts
    stand : facts_in s.company s.order t ≡ Some facts
    say : SaysOf s facts

  by_key : (j : ℕ) (s : SentEntry) → slice_get r.sent j ≡ Some s → find (is_at_place (1 + j)) t.entries ≡ find (is_entry_row s.company s.order s.index) t.entries
  by_key j s at =
      find_agrees (is_at_place (1 + j)) (is_entry_row s.company s.order s.index) t.entries
      (subst (AllByRecursion Same) (sym e.entries)
      (all-flat_map Same (entry_records r.sent) r.submissions
      (all_of (λ x. AllByRecursion Same (entry_records r.sent x)) (λ x. all-map Same (entry_record r.sent x.company x.row.order) (each x) (enumerate_from 1 x.row.content.entries)) r.submissions)))
    where
      Same : EntryRecord → Type 0
      Same z = is_at_place (1 + j) z ≡ is_entry_row s.company s.order s.index z

      each : (x : CompanyRow) (p : ℕ × Entry) → is_at_place (1 + j) (entry_record r.sent x.company x.row.order p) ≡ is_entry_row s.company s.order s.index (entry_record r.sent x.company x.row.order p)
      each x p = place_is x.company x.row.order p.0 1 j r.sent s (ascending_from_pairs AreApart r.sent beside.apart) at ∙ turned s.company x.company s.order x.row.order s.index p.0

  found_at : (j : ℕ) (s : SentEntry) → slice_get r.sent j ≡ Some s → IsFoundAt (1 + j) s
  found_at j s at =
      let is : IsSentFrom r.submissions s = all-slice_get (IsSentFrom r.submissions) r.sent j s at (recursion_from_All (IsSentFrom r.submissions) r.sent beside.sent) in
      let x : CompanyRow = is.from in
      let alone = of_contained (λ y. filter (is_own t r e y) r.submissions ≡ y ∷ []) r.submissions x (all_alone t r e rise) is.stands in
      record {
        entry =
            ap (option_map placed_of) (by_key j s at
            ∙ (λ i. find (is_entry_row (sym is.company i) (sym is.content.0 i) s.index) t.entries)
            ∙ own_entry t r e x alone s.index
            ∙ ap (option_map (entry_record r.sent x.company x.row.order)) (numbered_found 1 x.row.content.entries (s.index, s.entry) is.entry))
            ∙ (λ i. Some (record { company = is.company i; order = is.content.0 i; index = s.index; entry = s.entry }));
        facts = facts_of (submission_record r.printed x);
        stand = (λ i. facts_in (sym is.company i) (sym is.content.0 i) t) ∙ own_record t r e x alone facts_of;
        say = record { reference = is.content.1; sec = is.content.2; debit = is.content.3; settled = is.settles };
      }

  with_facts : (sequence : ℕ) (s : SentEntry) (facts : SubmissionFacts) → s.sequence ≡ sequence → SaysOf s facts → sent_with sequence (placed s) (Some facts) ≡ Some s
  with_facts sequence s facts same say =
      ap (option_map (sent_entry_of sequence (placed s) facts)) say.settled
      ∙ (λ i. Some (record {
        sequence = sym same i;
        company = s.company;
        reference = say.reference i;
        order = s.order;
        index = s.index;
        settled = s.settled;
        sec = say.sec i;
        debit = say.debit i;
        entry = s.entry;
      }))

  -- at the place of a sequence stands the youngest entry that has it
  module _ (s : ℕ) where
    abbrev newest : List SentEntry
    newest = reverse r.sent

    its_place : place_in s t ≡ youngest_place (reverse newest) s
    its_place = e.numbers s ∙ ap (λ l. youngest_place l s) (sym (reverse-reverse r.sent))

    it_found : (place : ℕ) (it : StandsAt newest s place) → IsFoundAt place it.entry
    it_found place it =
        let index : 1 + (place - 1) ≡ place = omega (arith, it.within.0) in
        subst (λ n. IsFoundAt n it.entry) index (found_at (place - 1) it.entry (ap (λ l. slice_get l (place - 1)) (sym (reverse-reverse r.sent)) ∙ it.at))

    sent_by : (o : Option ℕ) → StandsOrNone newest s o → option_and_then (λ place. sent_at s place t) o ≡ youngest newest s
    sent_by None none = sym none
    sent_by (Some place) it =
        let found = it_found place it in
        ap (option_and_then (λ (p : PlacedEntry). sent_with s p (facts_in p.company p.order t))) found.entry
        ∙ ap (sent_with s (placed it.entry)) found.stand
        ∙ with_facts s it.entry found.facts (stands_as newest s place it) found.say
        ∙ sym it.found

    settled_by : (o : Option ℕ) → StandsOrNone newest s o → option_and_then (λ place. settled_at place t) o ≡ option_map (λ (x : SentEntry). x.settled) (youngest newest s)
    settled_by None none = ap (option_map (λ (x : SentEntry). x.settled)) (sym none)
    settled_by (Some place) it =
        let found = it_found place it in
        ap (option_and_then (λ (p : PlacedEntry). option_and_then (λ (f : SubmissionFacts). f.settled) (facts_in p.company p.order t))) found.entry
        ∙ ap (option_and_then (λ (f : SubmissionFacts). f.settled)) found.stand
        ∙ found.say.settled
        ∙ ap (option_map (λ (x : SentEntry). x.settled)) (sym it.found)

    pub sent_found : sent_in s t ≡ youngest newest s
    sent_found = ap (option_and_then (λ place. sent_at s place t)) its_place ∙ sent_by (youngest_place (reverse newest) s) (stands newest s)

    pub settled_found : option_and_then (λ place. settled_at place t) (place_in s t) ≡ youngest_settlement (map sent_sequence newest) s
    settled_found =
        ap (option_and_then (λ place. settled_at place t)) its_place
        ∙ settled_by (youngest_place (reverse newest) s) (stands newest s)
        ∙ sym (ap (option_map (λ x. x.settled)) (find-map (λ x. x.sequence == s) sent_sequence newest) ∙ option_map-map (λ x. x.settled) sent_sequence (youngest newest s))
