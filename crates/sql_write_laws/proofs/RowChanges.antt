-- What a change of each submission leaves of what the flat rows obey, where it leaves their keys.
use Rattle.std.proofs.Common.{◌≡◌, ℕ, ◌≤◌, ◌&&◌, ◌==◌, Bool, List, [], ◌∷◌, map, filter, find, length, IsSome, Option, Some, None, option_map, refl, sym, subst, ap, ◌∙◌}
use Rattle.std.specs.Prelude.{Contains, bytes_eq, filter_map, flat_map, is_some, option_and_then}
use Rattle.std.specs.List.{AllByRecursion, cons_option, enumerate_from, range_with_len}
use Rattle.std.proofs.lemmas.List.{length-map}
use Rattle.std.proofs.lemmas.List.Elements.{All-from_recursion, All-contains}
use Rattle.sqlite_keyed.proofs.ListLemmas.{map-map, map_same, filter-map, filter_same, flat_map-map, flat_map_same_on}
use Rattle.desk_history.specs.declared.sent_entry.SentEntry.{SentEntry}
use Rattle.desk_rules.specs.declared.bodies.submission.Submission.{Submission}
use Rattle.desk_rules.specs.LimitChecks.{is_debit}
use Rattle.desk_book.specs.declared.flat_rows.ReturnedRow.{ReturnedRow}
use Rattle.desk_book.specs.declared.flat_rows.SentRow.{SentRow}
use Rattle.desk_store.specs.Rows.{CompanyRow}
use Rattle.sql_tables.specs.Beside.{AreNumbered, AreUnderReferences, ArePrinted, ReturnsSettled, IsSentFrom, is_of_company, is_submission, orders_of}
use Rattle.sql_tables.specs.Encodes.{entry_record, entry_records, is_submission_under}
use Rattle.sql_tables.proofs.KeptRows.{KeepsContent}
use Rattle.sql_write_laws.proofs.Found.{find-map, contains-map, found_holds, filter-both, once_numbered}

-- a company has each order number once
pub one_of_order : (rows : List CompanyRow) → AreNumbered rows → (c : List ℕ) (o : ℕ) → length (filter (is_submission c o) rows) ≤ 1
one_of_order rows are c o =
    subst (λ (l : List CompanyRow). length l ≤ 1) (sym (filter-both (is_of_company c) (λ x. x.row.order == o) rows))
    (once_numbered (λ (x : CompanyRow). x.row.order) o 1 (length (orders_of rows c)) (filter (is_of_company c) rows) (are c))

module _ (f : CompanyRow → CompanyRow) (k : KeepsContent f) where
  pub same_submission : (c : List ℕ) (o : ℕ) (x : CompanyRow) → is_submission c o (f x) ≡ is_submission c o x
  same_submission c o x = λ i. bytes_eq (k.company x i) c && k.order x i == o

  pub same_under : (c reference : List ℕ) (x : CompanyRow) → is_submission_under c reference (f x) ≡ is_submission_under c reference x
  same_under c reference x = λ i. bytes_eq (k.company x i) c && bytes_eq (k.content x i).reference reference

  pub find_kept : (p : CompanyRow → Bool) → ((x : CompanyRow) → p (f x) ≡ p x) → (rows : List CompanyRow) → find p (map f rows) ≡ option_map f (find p rows)
  find_kept p same rows = find-map p f rows ∙ (λ i. option_map f (find (λ x. same x i) rows))

  pub filter_kept : (p : CompanyRow → Bool) → ((x : CompanyRow) → p (f x) ≡ p x) → (rows : List CompanyRow) → filter p (map f rows) ≡ map f (filter p rows)
  filter_kept p same rows = filter-map p f rows ∙ ap (map f) (filter_same (λ x. p (f x)) p same rows)

  pub orders_kept : (rows : List CompanyRow) → AreNumbered rows → AreNumbered (map f rows)
  orders_kept rows are c =
      let same : orders_of (map f rows) c ≡ orders_of rows c =
      ap (map (λ (x : CompanyRow). x.row.order)) (filter_kept (is_of_company c) (λ x i. bytes_eq (k.company x i) c) rows)
      ∙ map-map (λ (x : CompanyRow). x.row.order) f (filter (is_of_company c) rows)
      ∙ map_same (λ (x : CompanyRow). (f x).row.order) (λ x. x.row.order) k.order (filter (is_of_company c) rows) in
      subst (λ (os : List ℕ). os ≡ range_with_len 1 (length os)) (sym same) (are c)

  pub references_kept : (rows : List CompanyRow) → AreUnderReferences rows → AreUnderReferences (map f rows)
  references_kept rows are c reference =
      subst (λ n. n ≤ 1) (sym (ap length (filter_kept (is_submission_under c reference) (same_under c reference) rows) ∙ length-map (filter (is_submission_under c reference) rows) f)) (are c reference)

  pub entries_kept : (sent : List SentEntry) (rows : List CompanyRow) → flat_map (entry_records sent) (map f rows) ≡ flat_map (entry_records sent) rows
  entries_kept sent rows =
      flat_map-map (entry_records sent) f rows
      ∙ flat_map_same_on (λ x. entry_records sent (f x)) (entry_records sent) (λ x i. map (entry_record sent (k.company x i) (k.order x i)) (enumerate_from 1 (k.content x i).entries)) rows

  -- a settlement stays
  abbrev pub Stays : CompanyRow → Type 0
  Stays x = (day : ℕ) → x.row.settled ≡ Some day → (f x).row.settled ≡ Some day

  pub sent_kept : (rows : List CompanyRow) → AllByRecursion Stays rows → (e : SentEntry) → IsSentFrom rows e → IsSentFrom (map f rows) e
  sent_kept rows stay e h =
      let x = h.from in
      record {
        from = f x;
        stands = contains-map f rows x h.stands;
        company = k.company x ∙ h.company;
        content = (k.order x ∙ h.content.0, ap (λ (s : Submission). s.reference) (k.content x) ∙ h.content.1, ap (λ (s : Submission). s.sec) (k.content x) ∙ h.content.2, ap (λ (s : Submission). is_debit s.direction) (k.content x) ∙ h.content.3);
        settles = All-contains Stays rows x (All-from_recursion Stays rows stay) h.stands e.settled h.settles;
        entry = subst (λ (s : Submission). Contains (enumerate_from 1 s.entries) (e.index, e.entry)) (sym (k.content x)) h.entry;
      }

  pub back_kept : (rows : List CompanyRow) → AllByRecursion Stays rows → (r : ReturnedRow) → ReturnsSettled rows r → ReturnsSettled (map f rows) r
  back_kept rows stay r h =
      let p = is_submission_under r.company r.row.reference in
      subst (λ o. IsSome (option_and_then (λ (x : CompanyRow). x.row.settled) o)) (sym (find_kept p (same_under r.company r.row.reference) rows)) (go (find p rows) refl h)
    where
      settles : (x : CompanyRow) (o : Option ℕ) → x.row.settled ≡ o → Stays x → IsSome o → IsSome (f x).row.settled
      settles x None is stays some = cc
      settles x (Some day) is stays some = ap (λ o. is_some o) (stays day is)

      go : (o : Option CompanyRow) → find (is_submission_under r.company r.row.reference) rows ≡ o → IsSome (option_and_then (λ (x : CompanyRow). x.row.settled) o) → IsSome (option_and_then (λ (x : CompanyRow). x.row.settled) (option_map f o))
      go None is some = some
      go (Some x) is some = settles x x.row.settled refl (found_holds (is_submission_under r.company r.row.reference) Stays rows x stay is) some

  -- what is printed stays so, where no settlement changes
  pub printed_kept : ((x : CompanyRow) → (f x).row.settled ≡ x.row.settled) → (printed : List SentRow) (rows : List CompanyRow) → ArePrinted printed rows → ArePrinted printed (map f rows)
  printed_kept same printed rows are c o =
      are c o ∙ sym (ap (filter_map (λ (x : CompanyRow). x.row.settled)) (filter_kept (is_submission c o) (same_submission c o) rows) ∙ each (filter (is_submission c o) rows))
    where
      each : (xs : List CompanyRow) → filter_map (λ (x : CompanyRow). x.row.settled) (map f xs) ≡ filter_map (λ x. x.row.settled) xs
      each [] = refl
      each (x ∷ xs) = λ i. cons_option (same x i) (each xs i)
