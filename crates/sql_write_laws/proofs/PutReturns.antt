-- A return goes on behind the others, and its entry is returned.
use Rattle.std.proofs.Common.{◌≡◌, ℕ, ◌+◌, ◌&&◌, ◌==◌, Bool, true, false, List, [], ◌∷◌, ◌++◌, map, find, length, Option, Some, None, option_map, refl, sym, subst, ap, ◌∙◌, inl, inr, true≢false, append-nil, append_assoc, length-append}
use Rattle.std.specs.Prelude.{fold, reverse, if◌then◌else◌, bytes_eq, is_some, option_and_then}
use Rattle.std.specs.List.{AllByRecursion, enumerate_from, range_with_len}
use Rattle.std.proofs.lemmas.Bool.{cases_Bool, and_parts, false_from_ne_true}
use Rattle.std.proofs.lemmas.List.{map-append}
use Rattle.std.proofs.lemmas.List.Elements.{All-from_recursion, recursion_from_All, All-weaker, All-append}
use Rattle.std.proofs.lemmas.Slice.Eq.{bytes_eq-Decides}
use Rattle.sqlite_keyed.proofs.ListLemmas.{all_both, all_of, all_map, map-map, map_same, all_weaker}
use Rattle.sql_statements.specs.Edits.{Edit}
use Rattle.desk_book.specs.declared.flat_rows.ReturnedRow.{ReturnedRow}
use Rattle.desk_book.specs.declared.flat_rows.SentRow.{SentRow}
use Rattle.desk_book.specs.Standing.{is_row_under}
use Rattle.desk_book.specs.Steps.{WasSent}
use Rattle.desk_store.specs.Changes.{return_in, in_turn}
use Rattle.desk_store.specs.Rows.{CompanyRow, Rows}
use Rattle.sql_tables.specs.Beside.{LapsesUnsettled, ReturnsSettled, IsSentFrom, is_submission}
use Rattle.sql_tables.specs.Encodes.{HasStates, RetryFits, is_return_of, is_submission_under, order_under, printed_at, retried_entry, return_record, submission_record, return_under}
use Rattle.sql_tables.specs.TableEdits.{each_edit_on, next_number, put_return_edit}
use Rattle.sql_tables.specs.Tables.{Tables}
use Rattle.sql_tables.specs.declared.records.ReturnRecord.{ReturnRecord}
use Rattle.sql_tables.proofs.CutRecords.{pair_same, pair_from}
use Rattle.sql_tables.proofs.KeptRows.{restated, return_keeps, order_kept, authorizations_kept, retries_kept, returns_kept, changes_kept, numbered_more}
use Rattle.sql_write_laws.proofs.Each.{AreOf, each_fitting}
use Rattle.sql_write_laws.proofs.Found.{found_passes, found_holds, alone}
use Rattle.sql_write_laws.proofs.Numbered.{next_is, insert_last, numbers_are, some_same}
use Rattle.sql_write_laws.proofs.ReturnedStates.{return_both, return_settles, return_lapses, other_states, own_states}
use Rattle.sql_write_laws.proofs.SentSubmissions.{settles_of}
use Rattle.sql_write_laws.proofs.RowChanges.{one_of_order, orders_kept, references_kept, entries_kept, sent_kept, back_kept, printed_kept, Stays}

abbrev with_returned : ReturnedRow → Rows → Rows
with_returned x r = record r { submissions = map (return_in x) r.submissions; returned = r.returned ++ x ∷ [] }

return_numbers : (t : Tables) (r : Rows) → AreOf t r → map (λ (y : ReturnRecord). y.number) t.returns ≡ range_with_len 1 (length r.returned)
return_numbers t r are = numbers_are (λ (y : ReturnRecord). y.number) (return_record r.submissions) has 1 r.returned t.returns are.0.returns
  where
    go : (p : ℕ × ReturnedRow) (y : ReturnRecord) (o : Option ℕ) → option_map (λ order. return_under p.0 (record p.1 { order = order })) o ≡ Some y → y.number ≡ p.0
    go p y None h = cc
    go p y (Some o) h = sym (ap (λ (z : ReturnRecord). z.number) (some_same h))

    has : (p : ℕ × ReturnedRow) (y : ReturnRecord) → return_record r.submissions p ≡ Some y → y.number ≡ p.0
    has p y h = go p y (order_under r.submissions p.1.company p.1.row.reference) h

-- the row of a submission says the same before and after a return
same_record : (x : ReturnedRow) (printed : List SentRow) (y : CompanyRow) → submission_record printed (return_in x y) ≡ submission_record printed y
same_record x printed y = let k = return_keeps x in λ i. record {
  head = record {
    company = k.company y i;
    order = k.order y i;
    reference = (k.content y i).reference;
    sec = (k.content y i).sec;
    direction = (k.content y i).direction;
    description = (k.content y i).description;
    asked = (k.content y i).day;
    retried = option_map retried_entry (k.retry y i);
    lapsed = return_lapses x y i;
    settled = return_settles x y i;
  };
  printed = printed_at printed (k.company y i) (k.order y i);
}

-- ---- one return, of an entry of this submission

module _ (n : ℕ) (x : ReturnedRow) (t : Tables) (r : Rows) (are : AreOf t r) (z : CompanyRow) (found : find (is_submission_under x.company x.row.reference) r.submissions ≡ Some z) (numbered : z.row.order ≡ x.order) where
  abbrev rows : List CompanyRow
  rows = r.submissions

  abbrev f : CompanyRow → CompanyRow
  f = return_in x

  abbrev new : ReturnRecord
  new = return_under n x

  under : (z.company ≡ x.company) × (is_row_under x.row.reference z.row ≡ true)
  under = let both = and_parts _ _ (found_passes (is_submission_under x.company x.row.reference) rows z found) in ((bytes_eq-Decides z.company x.company).0 both.0, both.1)

  -- it alone is under the reference, and alone has its number
  abbrev IsUnder : CompanyRow → Type 0
  IsUnder y = is_submission_under x.company x.row.reference y ≡ true → y ≡ z

  abbrev HasNumber : CompanyRow → Type 0
  HasNumber y = is_submission x.company z.row.order y ≡ true → y ≡ z

  are_under : AllByRecursion IsUnder rows
  are_under = all_weaker _ IsUnder (λ y h is. some_same (sym (h is) ∙ found)) rows (alone (is_submission_under x.company x.row.reference) rows (are.1.references x.company x.row.reference))

  have_number : AllByRecursion HasNumber rows
  have_number =
      let single = alone (is_submission x.company z.row.order) rows (one_of_order rows are.1.orders x.company z.row.order) in
      let own : find (is_submission x.company z.row.order) rows ≡ Some z =
      found_holds (is_submission_under x.company x.row.reference) (λ y. is_submission x.company z.row.order y ≡ true → find (is_submission x.company z.row.order) rows ≡ Some y) rows z single found (pair_from z.company x.company z.row.order z.row.order under.0 refl) in
      all_weaker _ HasNumber (λ y h is. some_same (sym (h is) ∙ own)) rows single

  module _ (on : ℕ) (settles : z.row.settled ≡ Some on) (first : find (is_return_of x.company (x.order) x.row.index) t.returns ≡ None) where
    lasts : LapsesUnsettled z → z.row.lapsed ≡ false
    lasts h = go z.row.lapsed refl
      where
        go : (b : Bool) → z.row.lapsed ≡ b → b ≡ false
        go false is = refl
        go true is = absurd (let e : None ≡ Some on = sym (h is) ∙ settles in cc)

    states_after : (y : CompanyRow) → IsUnder y × HasNumber y → HasStates t.returns y × LapsesUnsettled y → HasStates (t.returns ++ new ∷ []) (f y)
    states_after y are_z has = elim (cases_Bool (is_submission_under x.company x.row.reference y)) [
      | inl is ↦
          (let same : y ≡ z = are_z.0 is in
          let settled : y.row.settled ≡ Some on = ap (λ (v : CompanyRow). v.row.settled) same ∙ settles in
          let lapsed : y.row.lapsed ≡ false = ap (λ (v : CompanyRow). v.row.lapsed) same ∙ lasts (subst LapsesUnsettled same has.1) in
          let company : y.company ≡ x.company = ap (λ (v : CompanyRow). v.company) same ∙ under.0 in
          let order : x.order ≡ y.row.order = sym numbered ∙ sym (ap (λ (v : CompanyRow). v.row.order) same) in
          subst (HasStates (t.returns ++ new ∷ [])) (sym (return_both x y ∙ ap (λ b. if b then record y { row = restated x y.row } else y) is))
          (own_states t.returns new x y on settled lapsed (pair_from x.company y.company (x.order) y.row.order (sym company) order) (refl, refl, refl, refl)
          ((λ i. find (is_return_of (company i) (sym order i) x.row.index) t.returns) ∙ first) has.0))
      | inr out ↦
          (let differs : (bytes_eq x.company y.company && x.order == y.row.order) ≡ false =
          false_from_ne_true _ (λ is.
          let keys = pair_same x.company y.company (x.order) y.row.order is in
          let same : y ≡ z = are_z.1 (pair_from y.company x.company y.row.order z.row.order (sym keys.0) (sym keys.1 ∙ sym numbered)) in
          true≢false (sym (subst (λ v. is_submission_under x.company x.row.reference v ≡ true) (sym same) (found_passes (is_submission_under x.company x.row.reference) rows z found)) ∙ out)) in
          subst (HasStates (t.returns ++ new ∷ [])) (sym (return_both x y ∙ ap (λ b. if b then record y { row = restated x y.row } else y) out))
          (other_states t.returns new y differs has.0))
    ]

    all_states : AllByRecursion (HasStates (t.returns ++ new ∷ [])) (map f rows)
    all_states =
        all_map (HasStates (t.returns ++ new ∷ [])) f rows
        (all_both (λ y. IsUnder y × HasNumber y) (λ y. HasStates t.returns y × LapsesUnsettled y) (λ y. HasStates (t.returns ++ new ∷ []) (f y)) states_after rows
        (all_both IsUnder HasNumber (λ y. IsUnder y × HasNumber y) (λ y a b. (a, b)) rows are_under have_number)
        (all_both (HasStates t.returns) LapsesUnsettled (λ y. HasStates t.returns y × LapsesUnsettled y) (λ y a b. (a, b)) rows (recursion_from_All (HasStates t.returns) rows are.0.states) (recursion_from_All LapsesUnsettled rows are.1.lapsed)))

    settlements_stay : AllByRecursion (Stays f (return_keeps x)) rows
    settlements_stay = all_of (Stays f (return_keeps x)) (λ y day is. return_settles x y ∙ is) rows

    returned_orders : (c reference : List ℕ) → order_under (map f rows) c reference ≡ order_under rows c reference
    returned_orders c reference = order_kept return_in return_keeps (x ∷ []) c reference rows

    module _ (at : n ≡ length r.returned + 1) where
      behind : (put_return_edit n x).after t ≡ record t { returns = t.returns ++ new ∷ [] }
      behind = λ i. record t { returns = insert_last (λ (y : ReturnRecord). y.number) t.returns new 1 (length r.returned) (return_numbers t r are) at i }

      made : return_record (map f rows) (length r.returned + 1, x) ≡ Some new
      made =
          (λ i. option_map (λ (order : ℕ). return_under (sym at i) (record x { order = order })) (order_under (map f rows) x.company x.row.reference))
          ∙ ap (option_map (λ (order : ℕ). return_under n (record x { order = order }))) (returned_orders x.company x.row.reference ∙ ap (option_map (λ (v : CompanyRow). v.row.order)) found ∙ ap Some (numbered))

      returns_after : map Some (t.returns ++ new ∷ []) ≡ map (return_record (map f rows)) (enumerate_from 1 (r.returned ++ x ∷ []))
      returns_after =
          map-append Some t.returns (new ∷ [])
          ∙ (λ i. (are.0.returns ∙ sym (returns_kept rows (map f rows) returned_orders 1 r.returned)) i ++ sym made i ∷ [])
          ∙ sym (numbered_more (return_record (map f rows)) r.returned (x ∷ []))

      pub returned_tables : AreOf ((put_return_edit n x).after t) (with_returned x r)
      returned_tables = subst (λ u. AreOf u (with_returned x r)) (sym behind) (
        record {
          desk = are.0.desk;
          holidays = are.0.holidays;
          companies = are.0.companies;
          submissions = are.0.submissions ∙ sym (map-map (submission_record r.printed) f rows ∙ map_same (λ y. submission_record r.printed (f y)) (submission_record r.printed) (same_record x r.printed) rows);
          entries = are.0.entries ∙ sym (entries_kept f (return_keeps x) r.sent rows);
          returns = returns_after;
          changes = are.0.changes ∙ sym (changes_kept rows (map f rows) returned_orders 1 r.changed);
          postings = are.0.postings;
          suspense = are.0.suspense;
          files = are.0.files;
          taken = are.0.taken;
          numbers = are.0.numbers;
          authorizations = are.0.authorizations ∙ sym (authorizations_kept return_in return_keeps (x ∷ []) rows);
          states = All-from_recursion (HasStates (t.returns ++ new ∷ [])) (map f rows) all_states;
          retries = All-from_recursion RetryFits (map f rows) (retries_kept return_in return_keeps (x ∷ []) rows (recursion_from_All RetryFits rows are.0.retries));
        },
        record {
          orders = orders_kept f (return_keeps x) rows are.1.orders;
          references = references_kept f (return_keeps x) rows are.1.references;
          printed = printed_kept f (return_keeps x) (return_settles x) r.printed rows are.1.printed;
          lapsed = All-from_recursion LapsesUnsettled (map f rows) (all_map LapsesUnsettled f rows (all_weaker LapsesUnsettled (λ y. LapsesUnsettled (f y)) (λ y h is. return_settles x y ∙ h (sym (return_lapses x y) ∙ is)) rows (recursion_from_All LapsesUnsettled rows are.1.lapsed)));
          back = All-append (ReturnsSettled (map f rows)) r.returned (x ∷ [])
              (All-weaker (ReturnsSettled rows) (ReturnsSettled (map f rows)) (back_kept f (return_keeps x) rows settlements_stay) r.returned are.1.back)
              (All-from_recursion (ReturnsSettled (map f rows)) (x ∷ []) (back_kept f (return_keeps x) rows settlements_stay x (ap (λ o. is_some (option_and_then (λ (v : CompanyRow). v.row.settled) o)) found ∙ ap is_some settles), tt));
          sent = All-weaker (IsSentFrom rows) (IsSentFrom (map f rows)) (sent_kept f (return_keeps x) rows settlements_stay) r.sent are.1.sent;
          apart = are.1.apart;
          sequences = are.1.sequences;
          sums = are.1.sums;
        },
      )

-- it is of an entry that was sent
abbrev pub Fits : Rows → ReturnedRow → Type 0
Fits r x = WasSent (reverse r.sent) x.company x.order x.row.reference

return_put : (n : ℕ) (x : ReturnedRow) (t : Tables) (r : Rows) → n ≡ length r.returned + 1 → Fits r x → AreOf t r → (put_return_edit n x).Tells t → AreOf ((put_return_edit n x).after t) (with_returned x r)
return_put n x t r at fits are told =
    let its = settles_of t r are x.company x.order x.row.reference fits in
    returned_tables n x t r are its.row its.found its.numbered its.on its.settles told at

-- ---- all returns

returned_in_turn : (xs : List ReturnedRow) (r : Rows) → fold (λ q x. with_returned x q) r xs ≡ record r { submissions = in_turn return_in xs r.submissions; returned = r.returned ++ xs }
returned_in_turn [] r = λ i. record r { returned = sym (append-nil r.returned) i }
returned_in_turn (x ∷ xs) r = returned_in_turn xs (with_returned x r) ∙ (λ i. record r { submissions = in_turn return_in (x ∷ xs) r.submissions; returned = append_assoc r.returned (x ∷ []) xs i })

abbrev pub put_returns : List ReturnedRow → Edit Tables
put_returns = each_edit_on (λ t. next_number (λ y. y.number) t.returns) put_return_edit

pub returns_put : (xs : List ReturnedRow) (t : Tables) (r : Rows) → AllByRecursion (Fits r) xs → AreOf t r → (put_returns xs).Tells t → AreOf ((put_returns xs).after t) (record r { submissions = in_turn return_in xs r.submissions; returned = r.returned ++ xs })
returns_put xs t r fit are told =
    subst (AreOf ((put_returns xs).after t)) (returned_in_turn xs r)
    (each_fitting put_return_edit with_returned (λ s. length s.returned) (λ x s. length-append s.returned (x ∷ [])) Fits (λ x y s fits. fits) return_put xs _ t r (next_is (λ (y : ReturnRecord). y.number) t.returns (length r.returned) (return_numbers t r are)) fit are told)
