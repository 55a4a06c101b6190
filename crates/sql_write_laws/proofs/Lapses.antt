-- A retry that lapses: it waited, so it does not settle.
use Rattle.std.proofs.Common.{◌≡◌, ℕ, Bool, true, false, List, [], ◌∷◌, map, refl, sym, ap, ◌∙◌, inl, inr}
use Rattle.std.specs.Prelude.{if◌then◌else◌}
use Rattle.std.specs.List.{AllByRecursion}
use Rattle.std.proofs.lemmas.Bool.{cases_Bool}
use Rattle.std.proofs.lemmas.List.Elements.{All-from_recursion, recursion_from_All, All-weaker}
use Rattle.sqlite_keyed.proofs.ListLemmas.{all_both, all_weaker, all_map, all_of}
use Rattle.desk_history.specs.declared.sent_entry.SentEntry.{SentEntry}
use Rattle.desk_book.specs.declared.flat_rows.LapsedRow.{LapsedRow}
use Rattle.desk_book.specs.Standing.{lapsed_row}
use Rattle.desk_store.specs.Changes.{lapse_in}
use Rattle.desk_store.specs.Rows.{CompanyRow, Rows}
use Rattle.sql_tables.specs.Beside.{LapsesUnsettled, ReturnsSettled, IsSentFrom, is_submission}
use Rattle.sql_tables.specs.CutTables.{mark_lapsed}
use Rattle.sql_tables.specs.Encodes.{HasStates, RetryFits, order_under, submission_record}
use Rattle.sql_tables.specs.TableEdits.{lapse_edit}
use Rattle.sql_tables.specs.Tables.{Tables}
use Rattle.sql_tables.proofs.KeptRows.{lapse_keeps, order_kept, authorizations_kept, retries_kept, returns_kept, changes_kept}
use Rattle.sql_write_laws.proofs.Each.{AreOf}
use Rattle.sql_write_laws.proofs.RowChanges.{orders_kept, references_kept, entries_kept, sent_kept, back_kept, printed_kept, Stays}
use Rattle.sql_write_laws.proofs.SentRecords.{each, in_both, one_lapsed}
use Rattle.sql_write_laws.proofs.SentStates.{lapsed_states}
use Rattle.sql_write_laws.proofs.Waiting.{Waiting, IsIt, waiting_row, the_waiting}

abbrev pub with_lapsed : LapsedRow → Rows → Rows
with_lapsed l r = record r { submissions = map (lapse_in l) r.submissions }

lapse_settles : (l : LapsedRow) (x : CompanyRow) → (lapse_in l x).row.settled ≡ x.row.settled
lapse_settles l x =
    ap (λ (y : CompanyRow). y.row.settled) (in_both l.company l.order lapsed_row x)
    ∙ elim (is_submission l.company l.order x) as (λ b. (if b then record x { row = lapsed_row x.row } else x).row.settled ≡ x.row.settled) [ true ↦ refl | false ↦ refl ]

settlements_stay : (l : LapsedRow) (rows : List CompanyRow) → AllByRecursion (Stays (lapse_in l) (lapse_keeps l)) rows
settlements_stay l rows = all_of (Stays (lapse_in l) (lapse_keeps l)) (λ x day on. lapse_settles l x ∙ on) rows

-- what was sent stays so
pub lapse_keeps_sent : (l : LapsedRow) (rows : List CompanyRow) (e : SentEntry) → IsSentFrom rows e → IsSentFrom (map (lapse_in l) rows) e
lapse_keeps_sent l rows = sent_kept (lapse_in l) (lapse_keeps l) rows (settlements_stay l rows)

module _ (l : LapsedRow) (t : Tables) (r : Rows) (are : AreOf t r) (w : Waiting l.company l.order r.submissions) where
  abbrev rows : List CompanyRow
  rows = r.submissions

  abbrev f : CompanyRow → CompanyRow
  f = lapse_in l

  abbrev Is : CompanyRow → Type 0
  Is = IsIt l.company l.order rows are.1.orders w

  mine : AllByRecursion Is rows
  mine = the_waiting l.company l.order rows are.1.orders w

  abbrev changed : Bool → CompanyRow → CompanyRow
  changed b x = if b then record x { row = lapsed_row x.row } else x

  moved : (b : Bool) (x : CompanyRow) → is_submission l.company l.order x ≡ b → f x ≡ changed b x
  moved b x is = in_both l.company l.order lapsed_row x ∙ ap (λ t. changed t x) is

  unsettled : (x : CompanyRow) → Is x → LapsesUnsettled x → LapsesUnsettled (f x)
  unsettled x it h lapsed = elim (cases_Bool (is_submission l.company l.order x)) [
    | inl is ↦ lapse_settles l x ∙ ap (λ (y : CompanyRow). y.row.settled) (it is) ∙ w.unsettled
    | inr out ↦ lapse_settles l x ∙ h (sym (ap (λ (y : CompanyRow). y.row.lapsed) (moved false x out)) ∙ lapsed)
  ]

  lapsed_orders : (c reference : List ℕ) → order_under (map f rows) c reference ≡ order_under rows c reference
  lapsed_orders c reference = order_kept lapse_in lapse_keeps (l ∷ []) c reference rows

  same_printed : map (submission_record r.printed) (map f rows) ≡ mark_lapsed l (map (submission_record r.printed) rows)
  same_printed = each (submission_record r.printed) (submission_record r.printed) f _ (one_lapsed r.printed l) rows

  lapsed_tables : AreOf (record t { submissions = mark_lapsed l t.submissions }) (with_lapsed l r)
  lapsed_tables = (
    record {
      desk = are.0.desk;
      holidays = are.0.holidays;
      companies = are.0.companies;
      submissions = ap (mark_lapsed l) are.0.submissions ∙ sym same_printed;
      entries = are.0.entries ∙ sym (entries_kept f (lapse_keeps l) r.sent rows);
      returns = are.0.returns ∙ sym (returns_kept rows (map f rows) lapsed_orders 1 r.returned);
      changes = are.0.changes ∙ sym (changes_kept rows (map f rows) lapsed_orders 1 r.changed);
      postings = are.0.postings;
      suspense = are.0.suspense;
      files = are.0.files;
      taken = are.0.taken;
      numbers = are.0.numbers;
      authorizations = are.0.authorizations ∙ sym (authorizations_kept lapse_in lapse_keeps (l ∷ []) rows);
      states = All-from_recursion (HasStates t.returns) (map f rows) (all_map (HasStates t.returns) f rows (all_weaker (HasStates t.returns) (λ x. HasStates t.returns (f x)) (lapsed_states t.returns l) rows (recursion_from_All (HasStates t.returns) rows are.0.states)));
      retries = All-from_recursion RetryFits (map f rows) (retries_kept lapse_in lapse_keeps (l ∷ []) rows (recursion_from_All RetryFits rows are.0.retries));
    },
    record {
      orders = orders_kept f (lapse_keeps l) rows are.1.orders;
      references = references_kept f (lapse_keeps l) rows are.1.references;
      printed = printed_kept f (lapse_keeps l) (lapse_settles l) r.printed rows are.1.printed;
      lapsed = All-from_recursion LapsesUnsettled (map f rows) (all_map LapsesUnsettled f rows (all_both Is LapsesUnsettled (λ x. LapsesUnsettled (f x)) unsettled rows mine (recursion_from_All LapsesUnsettled rows are.1.lapsed)));
      back = All-weaker (ReturnsSettled rows) (ReturnsSettled (map f rows)) (back_kept f (lapse_keeps l) rows (settlements_stay l rows)) r.returned are.1.back;
      sent = All-weaker (IsSentFrom rows) (IsSentFrom (map f rows)) (lapse_keeps_sent l rows) r.sent are.1.sent;
      apart = are.1.apart;
      sequences = are.1.sequences;
      sums = are.1.sums;
    },
  )

pub lapse_made : (l : LapsedRow) (t : Tables) (r : Rows) → AreOf t r → (lapse_edit l).Tells t → AreOf ((lapse_edit l).after t) (with_lapsed l r)
lapse_made l t r are told = lapsed_tables l t r are (waiting_row l.company l.order t r are told)
