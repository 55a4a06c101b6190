-- A submission that is sent: it waited, so it was not printed before and nothing of it came back.
use Rattle.std.proofs.Common.{◌≡◌, ℕ, Bool, true, false, cond, List, [], ◌∷◌, ◌++◌, map, filter, Some, None, refl, sym, subst, ap, ◌∙◌, inl, inr, true≢false}
use Rattle.std.specs.Prelude.{if◌then◌else◌, filter_map}
use Rattle.std.specs.List.{AllByRecursion, cons_option}
use Rattle.std.proofs.lemmas.Bool.{cases_Bool}
use Rattle.std.proofs.lemmas.List.{append-nil}
use Rattle.std.proofs.lemmas.List.Elements.{All-from_recursion, recursion_from_All, All-weaker, filter-append}
use Rattle.sqlite_keyed.proofs.ListLemmas.{all_both, all_weaker, all_map}
use Rattle.desk_history.specs.declared.sent_entry.SentEntry.{SentEntry}
use Rattle.desk_book.specs.declared.flat_rows.SentRow.{SentRow}
use Rattle.desk_book.specs.Standing.{sent_row}
use Rattle.desk_store.specs.Changes.{send_in}
use Rattle.desk_store.specs.Rows.{CompanyRow, Rows, is_printed_of}
use Rattle.sql_tables.specs.Beside.{ArePrinted, LapsesUnsettled, ReturnsSettled, IsSentFrom, is_submission}
use Rattle.sql_tables.specs.Encodes.{HasStates, RetryFits, order_under, submission_record}
use Rattle.sql_tables.specs.CutTables.{mark_sent}
use Rattle.sql_tables.specs.TableEdits.{send_edit}
use Rattle.sql_tables.specs.Tables.{Tables}
use Rattle.sql_tables.proofs.CutRecords.{pair_same, pair_from}
use Rattle.sql_tables.proofs.KeptRows.{send_keeps, order_kept, authorizations_kept, retries_kept, returns_kept, changes_kept}
use Rattle.sql_write_laws.proofs.Each.{AreOf}
use Rattle.sql_write_laws.proofs.Found.{found_passes, filter_found}
use Rattle.sql_write_laws.proofs.RowChanges.{one_of_order, orders_kept, references_kept, entries_kept, sent_kept, back_kept, filter_kept, same_submission, Stays}
use Rattle.sql_write_laws.proofs.SentRecords.{each, in_both, one_sent}
use Rattle.sql_write_laws.proofs.SentStates.{sent_states}
use Rattle.sql_write_laws.proofs.Waiting.{Waiting, IsIt, waiting_row, the_waiting, not_printed, not_found_printed, no_returns}

abbrev pub with_sent : SentRow → Rows → Rows
with_sent s r = record r { submissions = map (send_in s) r.submissions; printed = r.printed ++ s ∷ [] }

module _ (s : SentRow) (t : Tables) (r : Rows) (are : AreOf t r) (w : Waiting s.company s.order r.submissions) where
  abbrev rows : List CompanyRow
  rows = r.submissions

  abbrev f : CompanyRow → CompanyRow
  f = send_in s

  abbrev Is : CompanyRow → Type 0
  Is = IsIt s.company s.order rows are.1.orders w

  mine : AllByRecursion Is rows
  mine = the_waiting s.company s.order rows are.1.orders w

  abbrev changed : Bool → CompanyRow → CompanyRow
  changed b x = if b then record x { row = sent_row s.settled x.row } else x

  moved : (b : Bool) (x : CompanyRow) → is_submission s.company s.order x ≡ b → f x ≡ changed b x
  moved b x is = in_both s.company s.order (sent_row s.settled) x ∙ ap (λ t. changed t x) is

  settles_once : (x : CompanyRow) → Is x → Stays f (send_keeps s) x
  settles_once x it day on = elim (cases_Bool (is_submission s.company s.order x)) [
    | inl is ↦ absurd (let e : None ≡ Some day = sym (ap (λ (y : CompanyRow). y.row.settled) (it is) ∙ w.unsettled) ∙ on in cc)
    | inr out ↦ ap (λ (y : CompanyRow). y.row.settled) (moved false x out) ∙ on
  ]

  pub settlements_stay : AllByRecursion (Stays f (send_keeps s)) rows
  settlements_stay = all_weaker Is (Stays f (send_keeps s)) settles_once rows mine

  lasts : (x : CompanyRow) → Is x → LapsesUnsettled x → LapsesUnsettled (f x)
  lasts x it h lapsed = elim (cases_Bool (is_submission s.company s.order x)) [
    | inl is ↦ absurd (true≢false (sym lapsed ∙ ap (λ (y : CompanyRow). y.row.lapsed) (moved true x is) ∙ ap (λ (y : CompanyRow). y.row.lapsed) (it is) ∙ w.lasts))
    | inr out ↦ ap (λ (y : CompanyRow). y.row.settled) (moved false x out) ∙ h (sym (ap (λ (y : CompanyRow). y.row.lapsed) (moved false x out)) ∙ lapsed)
  ]

  has_states : (x : CompanyRow) → Is x → HasStates t.returns x → HasStates t.returns (f x)
  has_states x it h =
      sent_states t.returns s x h (record { unreturned = λ is index. no_returns s.company s.order t r are w index; live = λ is. ap (λ (y : CompanyRow). y.row.lapsed) (it is) ∙ w.lasts })

  -- ---- what is printed

  abbrev settlements : List CompanyRow → List ℕ
  settlements = filter_map (λ x. x.row.settled)

  unmoved : (q : CompanyRow → Bool) → ((x : CompanyRow) → q (f x) ≡ q x) → ((x : CompanyRow) → q x ≡ true → (f x).row.settled ≡ x.row.settled) → (xs : List CompanyRow) → settlements (filter q (map f xs)) ≡ settlements (filter q xs)
  unmoved q same still [] = refl
  unmoved q same still (x ∷ xs) =
      ap (λ b. settlements (cond b (f x ∷ filter q (map f xs)) (filter q (map f xs)))) (same x)
      ∙ elim (cases_Bool (q x)) [
        | inl is ↦ ap (λ b. settlements (cond b (f x ∷ filter q (map f xs)) (filter q (map f xs)))) is ∙ (λ i. cons_option (still x is i) (unmoved q same still xs i)) ∙ ap (λ b. settlements (cond b (x ∷ filter q xs) (filter q xs))) (sym is)
        | inr out ↦ ap (λ b. settlements (cond b (f x ∷ filter q (map f xs)) (filter q (map f xs)))) out ∙ unmoved q same still xs ∙ ap (λ b. settlements (cond b (x ∷ filter q xs) (filter q xs))) (sym out)
      ]

  abbrev Prints : List ℕ → ℕ → Type 0
  Prints c o = map (λ (p : SentRow). p.settled) (filter (is_printed_of c o) (r.printed ++ s ∷ [])) ≡ settlements (filter (is_submission c o) (map f rows))

  printed_own : is_printed_of s.company s.order s ≡ true → Prints s.company s.order
  printed_own is =
      let own : is_submission s.company s.order w.row ≡ true = found_passes (is_submission s.company s.order) rows w.row w.found in
      ap (map (λ (p : SentRow). p.settled)) (filter-append (is_printed_of s.company s.order) r.printed (s ∷ []) ∙ (λ i. not_printed s.company s.order rows are.1.orders w r.printed are.1.printed i ++ cond (is i) (s ∷ []) []))
      ∙ sym (ap settlements (filter_kept f (send_keeps s) (is_submission s.company s.order) (same_submission f (send_keeps s) s.company s.order) rows ∙ ap (map f) (filter_found (is_submission s.company s.order) rows w.row (one_of_order rows are.1.orders s.company s.order) w.found))
      ∙ ap (λ (y : CompanyRow). settlements (y ∷ [])) (moved true w.row own))

  printed_other : (c : List ℕ) (o : ℕ) → is_printed_of c o s ≡ false → Prints c o
  printed_other c o out =
      ap (map (λ (p : SentRow). p.settled)) (filter-append (is_printed_of c o) r.printed (s ∷ []) ∙ ap (λ b. filter (is_printed_of c o) r.printed ++ cond b (s ∷ []) []) out ∙ append-nil (filter (is_printed_of c o) r.printed))
      ∙ are.1.printed c o
      ∙ sym (unmoved (is_submission c o) (same_submission f (send_keeps s) c o) still rows)
    where
      away : (x : CompanyRow) → is_submission c o x ≡ true → (b : Bool) → is_submission s.company s.order x ≡ b → (f x).row.settled ≡ x.row.settled
      away x is true own =
          let a = pair_same x.company c x.row.order o is in
          let b = pair_same x.company s.company x.row.order s.order own in
          absurd (true≢false (sym (pair_from s.company c s.order o (sym b.0 ∙ a.0) (sym b.1 ∙ a.1)) ∙ out))
      away x is false other = ap (λ (y : CompanyRow). y.row.settled) (moved false x other)

      still : (x : CompanyRow) → is_submission c o x ≡ true → (f x).row.settled ≡ x.row.settled
      still x is = away x is (is_submission s.company s.order x) refl

  printed_more : ArePrinted (r.printed ++ s ∷ []) (map f rows)
  printed_more c o = go (is_printed_of c o s) refl
    where
      go : (b : Bool) → is_printed_of c o s ≡ b → Prints c o
      go false out = printed_other c o out
      go true is =
          let same = pair_same s.company c s.order o is in
          subst (λ d. Prints d o) same.0 (subst (λ n. Prints s.company n) same.1 (printed_own (pair_from s.company s.company s.order s.order refl refl)))

  -- ---- all

  sent_orders : (c reference : List ℕ) → order_under (map f rows) c reference ≡ order_under rows c reference
  sent_orders c reference = order_kept send_in send_keeps (s ∷ []) c reference rows

  sent_tables : AreOf (record t { submissions = mark_sent s t.submissions }) (with_sent s r)
  sent_tables = (
    record {
      desk = are.0.desk;
      holidays = are.0.holidays;
      companies = are.0.companies;
      submissions = ap (mark_sent s) are.0.submissions ∙ sym (each (submission_record (r.printed ++ s ∷ [])) (submission_record r.printed) f _ (λ x. one_sent r.printed s x (not_found_printed s.company s.order rows are.1.orders w r.printed are.1.printed)) rows);
      entries = are.0.entries ∙ sym (entries_kept f (send_keeps s) r.sent rows);
      returns = are.0.returns ∙ sym (returns_kept rows (map f rows) sent_orders 1 r.returned);
      changes = are.0.changes ∙ sym (changes_kept rows (map f rows) sent_orders 1 r.changed);
      postings = are.0.postings;
      suspense = are.0.suspense;
      files = are.0.files;
      taken = are.0.taken;
      numbers = are.0.numbers;
      authorizations = are.0.authorizations ∙ sym (authorizations_kept send_in send_keeps (s ∷ []) rows);
      states = All-from_recursion (HasStates t.returns) (map f rows) (all_map (HasStates t.returns) f rows (all_both Is (HasStates t.returns) (λ x. HasStates t.returns (f x)) has_states rows mine (recursion_from_All (HasStates t.returns) rows are.0.states)));
      retries = All-from_recursion RetryFits (map f rows) (retries_kept send_in send_keeps (s ∷ []) rows (recursion_from_All RetryFits rows are.0.retries));
    },
    record {
      orders = orders_kept f (send_keeps s) rows are.1.orders;
      references = references_kept f (send_keeps s) rows are.1.references;
      printed = printed_more;
      lapsed = All-from_recursion LapsesUnsettled (map f rows) (all_map LapsesUnsettled f rows (all_both Is LapsesUnsettled (λ x. LapsesUnsettled (f x)) lasts rows mine (recursion_from_All LapsesUnsettled rows are.1.lapsed)));
      back = All-weaker (ReturnsSettled rows) (ReturnsSettled (map f rows)) (back_kept f (send_keeps s) rows settlements_stay) r.returned are.1.back;
      sent = All-weaker (IsSentFrom rows) (IsSentFrom (map f rows)) (sent_kept f (send_keeps s) rows settlements_stay) r.sent are.1.sent;
      apart = are.1.apart;
      sequences = are.1.sequences;
      sums = are.1.sums;
    },
  )

pub send_made : (s : SentRow) (t : Tables) (r : Rows) → AreOf t r → (send_edit s).Tells t → AreOf ((send_edit s).after t) (with_sent s r)
send_made s t r are told = sent_tables s t r are (waiting_row s.company s.order t r are told)

-- what was sent stays so
pub send_keeps_sent : (s : SentRow) (t : Tables) (r : Rows) → AreOf t r → (send_edit s).Tells t → (e : SentEntry) → IsSentFrom r.submissions e → IsSentFrom (map (send_in s) r.submissions) e
send_keeps_sent s t r are told = sent_kept (send_in s) (send_keeps s) r.submissions (settlements_stay s t r are (waiting_row s.company s.order t r are told))
