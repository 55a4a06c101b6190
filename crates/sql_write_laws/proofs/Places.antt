-- An entry gets the place after the last: it was not sent before.
use Rattle.std.proofs.Common.{◌≡◌, ℕ, ◌+◌, Bool, true, false, cond, List, [], ◌∷◌, ◌++◌, find, length, All, Some, None, option_map, refl, sym, subst, ◌∙◌, arith, append-nil, append_assoc, length-append}
use Rattle.std.specs.Int.{IsInRange}
use Rattle.std.specs.List.{AllByRecursion, enumerate_from}
use Rattle.std.proofs.lemmas.List.Elements.{All-from_recursion, All-append}
use Rattle.std.proofs.lemmas.List.Quantifiers.{all_pairs_push}
use Rattle.sqlite_keyed.proofs.ListLemmas.{all-flat_map, all_of, all-map, all_weaker}
use Rattle.sql_statements.specs.Edits.{each_edit_from}
use Rattle.ach_fields.specs.Trace.{most_sequence}
use Rattle.desk_history.specs.declared.sent_entry.SentEntry.{SentEntry}
use Rattle.desk_rules.specs.declared.bodies.submission.Entry.{Entry}
use Rattle.desk_store.specs.Rows.{CompanyRow, Rows}
use Rattle.sql_tables.specs.Beside.{AreApart, IsSentFrom}
use Rattle.sql_tables.specs.CutTables.{is_entry_row, mark_entry}
use Rattle.sql_tables.specs.Encodes.{entry_record, entry_records, is_entry, place_of_entry}
use Rattle.sql_tables.specs.TableEdits.{IsUnsent, place_edit}
use Rattle.sql_tables.specs.Tables.{Tables}
use Rattle.sql_tables.specs.declared.records.EntryRecord.{EntryRecord}
use Rattle.sql_write_laws.proofs.Each.{AreOf}
use Rattle.sql_write_laws.proofs.Found.{found_passes, found_holds, none_passes}
use Rattle.sql_write_laws.proofs.PlacedNumbers.{youngest_placed}
use Rattle.sql_write_laws.proofs.SentRecords.{three_same, three_not, one_marked}

abbrev pub with_placed : SentEntry → Rows → Rows
with_placed e r = record r { sent = r.sent ++ e ∷ [] }

unplaced : (c : List ℕ) (o i n : ℕ) (sent : List SentEntry) → option_map (λ (p : ℕ × SentEntry). p.0) (find (λ p. is_entry c o i p.1) (enumerate_from n sent)) ≡ None → find (is_entry c o i) sent ≡ None
unplaced c o i n [] none = refl
unplaced c o i n (e ∷ sent) none = go (is_entry c o i e) none (unplaced c o i (n + 1) sent)
  where
    go : (b : Bool) → option_map (λ (p : ℕ × SentEntry). p.0) (cond b (Some (n, e)) (find (λ p. is_entry c o i p.1) (enumerate_from (n + 1) sent))) ≡ None
        → (option_map (λ (p : ℕ × SentEntry). p.0) (find (λ p. is_entry c o i p.1) (enumerate_from (n + 1) sent)) ≡ None → find (is_entry c o i) sent ≡ None) → cond b (Some e) (find (is_entry c o i) sent) ≡ None
    go true h more = cc
    go false h more = more h

module _ (e : SentEntry) (t : Tables) (r : Rows) (are : AreOf t r) (u : IsUnsent e t) where
  -- the record of an entry has the place that the entry has among the sent ones
  abbrev HasPlace : EntryRecord → Type 0
  HasPlace x = is_entry_row e.company e.order e.index x ≡ true → x.place ≡ place_of_entry r.sent e.company e.order e.index

  record_has_place : (x : CompanyRow) (p : ℕ × Entry) → HasPlace (entry_record r.sent x.company x.row.order p)
  record_has_place x p is = let same = three_same x.company e.company x.row.order e.order p.0 e.index is in λ i. place_of_entry r.sent (same.0 i) (same.1 i) (same.2 i)

  all_have_places : AllByRecursion HasPlace t.entries
  all_have_places = subst (AllByRecursion HasPlace) (sym are.0.entries)
      (all-flat_map HasPlace (entry_records r.sent) r.submissions (all_of (λ x. AllByRecursion HasPlace (entry_records r.sent x)) (λ x. all-map HasPlace (entry_record r.sent x.company x.row.order) (record_has_place x) (enumerate_from 1 x.row.content.entries)) r.submissions))

  pub fresh : find (is_entry e.company e.order e.index) r.sent ≡ None
  fresh =
      unplaced e.company e.order e.index 1 r.sent
      (sym (found_holds (is_entry_row e.company e.order e.index) HasPlace t.entries u.record_of all_have_places u.found (found_passes (is_entry_row e.company e.order e.index) t.entries u.record_of u.found)) ∙ u.unplaced)

  alone_among : All (λ f. AreApart f e) r.sent
  alone_among =
      All-from_recursion (λ f. AreApart f e) r.sent
      (all_weaker (λ f. is_entry e.company e.order e.index f ≡ false) (λ f. AreApart f e) (λ f out. three_not f.company e.company f.order e.order f.index e.index out) r.sent (none_passes (is_entry e.company e.order e.index) r.sent fresh))

  pub placed_tables : (n : ℕ) → n ≡ length r.sent + 1 → IsSentFrom r.submissions e → IsInRange 1 most_sequence e.sequence → AreOf ((place_edit n e).after t) (with_placed e r)
  placed_tables n at from range = (
    record {
      desk = are.0.desk;
      holidays = are.0.holidays;
      companies = are.0.companies;
      submissions = are.0.submissions;
      entries = (λ i. mark_entry (at i) e (are.0.entries i)) ∙ sym (one_marked r.sent e fresh r.submissions);
      returns = are.0.returns;
      changes = are.0.changes;
      postings = are.0.postings;
      suspense = are.0.suspense;
      files = are.0.files;
      taken = are.0.taken;
      numbers = youngest_placed n e t.numbers r.sent are.0.numbers at;
      authorizations = are.0.authorizations;
      states = are.0.states;
      retries = are.0.retries;
    },
    record {
      orders = are.1.orders;
      references = are.1.references;
      printed = are.1.printed;
      lapsed = are.1.lapsed;
      back = are.1.back;
      sent = All-append (IsSentFrom r.submissions) r.sent (e ∷ []) are.1.sent (All-from_recursion (IsSentFrom r.submissions) (e ∷ []) (from, tt));
      apart = all_pairs_push AreApart r.sent e are.1.apart alone_among;
      sequences = All-append (λ x. IsInRange 1 most_sequence x.sequence) r.sent (e ∷ []) are.1.sequences (All-from_recursion (λ x. IsInRange 1 most_sequence x.sequence) (e ∷ []) (range, tt));
      sums = are.1.sums;
    },
  )

-- entries of what was sent get places from the one after the last on
pub places_made : (es : List SentEntry) (n : ℕ) (t : Tables) (r : Rows) → n ≡ length r.sent + 1 → AllByRecursion (IsSentFrom r.submissions) es → AreOf t r → (each_edit_from place_edit n es).Tells t
    → AreOf ((each_edit_from place_edit n es).after t) (record r { sent = r.sent ++ es })
places_made [] n t r at from are told = subst (λ (xs : List SentEntry). AreOf t (record r { sent = xs })) (sym (append-nil r.sent)) are
places_made (e ∷ es) n t r at from are told =
    let next : n + 1 ≡ length (r.sent ++ e ∷ []) + 1 = omega (arith, at, length-append r.sent (e ∷ [])) in
    subst (λ (xs : List SentEntry). AreOf ((each_edit_from place_edit n (e ∷ es)).after t) (record r { sent = xs })) (append_assoc r.sent (e ∷ []) es)
    (places_made es (n + 1) ((place_edit n e).after t) (with_placed e r) next from.1 (placed_tables e t r are told.0.0 n at from.0 told.0.1) told.1)
