-- The entries of a cut are those of submissions that it sends.
use Rattle.std.proofs.Common.{◌≡◌, ℕ, ◌⊎◌, true, cond, List, [], ◌∷◌, map, filter, All, Some, refl, sym, subst, ap, ◌∙◌, inl, inr, arith}
use Rattle.std.specs.Prelude.{Contains, bytes_eq, if◌then◌else◌}
use Rattle.std.specs.List.{AllByRecursion, enumerate_from}
use Rattle.std.proofs.lemmas.Bool.{cases_Bool}
use Rattle.std.proofs.lemmas.List.Elements.{All-from_recursion, recursion_from_All, All-contains, All-contains_itself}
use Rattle.std.proofs.lemmas.Slice.Eq.{bytes_eq-Decides}
use Rattle.sqlite_keyed.proofs.ListLemmas.{all_weaker}
use Rattle.sql_statements.specs.Edits.{each_edit}
use Rattle.desk_history.specs.declared.sent_entry.SentEntry.{SentEntry}
use Rattle.desk_rules.specs.declared.bodies.submission.Submission.{Submission}
use Rattle.desk_rules.specs.LimitChecks.{is_debit}
use Rattle.desk_book.specs.declared.flat_rows.LapsedRow.{LapsedRow}
use Rattle.desk_book.specs.declared.flat_rows.SentRow.{SentRow}
use Rattle.desk_book.specs.declared.row.Row.{Row}
use Rattle.desk_book.specs.Standing.{sent_row}
use Rattle.desk_book.specs.Steps.{IsEntryOf}
use Rattle.desk_store.specs.Changes.{send_in, lapse_in, in_turn}
use Rattle.desk_store.specs.Rows.{CompanyRow, Rows, flat_book}
use Rattle.sql_tables.specs.Beside.{IsSentFrom, is_submission}
use Rattle.sql_tables.specs.TableEdits.{send_edit}
use Rattle.sql_tables.specs.Tables.{Tables}
use Rattle.sql_tables.proofs.CutRecords.{pair_from}
use Rattle.sql_tables.proofs.KeptRows.{send_keeps}
use Rattle.sql_write_laws.proofs.Each.{AreOf}
use Rattle.sql_write_laws.proofs.Found.{contains-map}
use Rattle.sql_write_laws.proofs.Lapses.{lapse_keeps_sent}
use Rattle.sql_write_laws.proofs.SentRecords.{in_both}
use Rattle.sql_write_laws.proofs.Sends.{send_made, send_keeps_sent, with_sent}

-- the entry stands in a submission of the rows
pub record StandsIn (rows : List CompanyRow) (e : SentEntry) : Type 0 where
  pub from : CompanyRow
  pub stands : Contains rows from
  pub company : from.company ≡ e.company
  pub content : (from.row.order ≡ e.order) × (from.row.content.reference ≡ e.reference) × (from.row.content.sec ≡ e.sec) × (is_debit from.row.content.direction ≡ e.debit)
  pub entry : Contains (enumerate_from 1 from.row.content.entries) (e.index, e.entry)

-- ---- out of a book's rows

record IsRowOf (rows : List CompanyRow) (c : List ℕ) (row : Row) : Type 0 where
  from : CompanyRow
  stands : Contains rows from
  company : from.company ≡ c
  is : from.row ≡ row

rows_from : (all : List CompanyRow) (c : List ℕ) (rows : List CompanyRow) → AllByRecursion (Contains all) rows → AllByRecursion (IsRowOf all c) (map (λ (x : CompanyRow). x.row) (filter (λ x. bytes_eq x.company c) rows))
rows_from all c [] has = tt
rows_from all c (x ∷ rows) has = elim (cases_Bool (bytes_eq x.company c)) [
  | inl is ↦
      subst (λ b. AllByRecursion (IsRowOf all c) (map (λ (y : CompanyRow). y.row) (cond b (x ∷ filter (λ y. bytes_eq y.company c) rows) (filter (λ y. bytes_eq y.company c) rows)))) (sym is)
      (record { from = x; stands = has.0; company = (bytes_eq-Decides x.company c).0 is; is = refl }, rows_from all c rows has.1)
  | inr out ↦
      subst (λ b. AllByRecursion (IsRowOf all c) (map (λ (y : CompanyRow). y.row) (cond b (x ∷ filter (λ y. bytes_eq y.company c) rows) (filter (λ y. bytes_eq y.company c) rows)))) (sym out) (rows_from all c rows has.1)
]

pub entry_stands : (r : Rows) (sent : List SentRow) (e : SentEntry) → IsEntryOf (flat_book r) sent e → StandsIn r.submissions e
entry_stands r sent e h =
    let all = r.submissions in
    let own = map (λ (x : CompanyRow). x.row) (filter (λ x. bytes_eq x.company e.company) all) in
    let it : IsRowOf all e.company h.row =
    All-contains (IsRowOf all e.company) own h.row (All-from_recursion (IsRowOf all e.company) own (rows_from all e.company all (recursion_from_All (Contains all) all (All-contains_itself all)))) h.stands in
    record {
      from = it.from;
      stands = it.stands;
      company = it.company;
      content = subst (λ (row : Row). (row.order ≡ e.order) × (row.content.reference ≡ e.reference) × (row.content.sec ≡ e.sec) × (is_debit row.content.direction ≡ e.debit)) (sym it.is) h.content;
      entry = subst (λ (row : Row). Contains (enumerate_from 1 row.content.entries) (e.index, e.entry)) (sym it.is) h.entry;
    }

-- ---- through the sends

stands_on : (s : SentRow) (rows : List CompanyRow) (e : SentEntry) → StandsIn rows e → StandsIn (map (send_in s) rows) e
stands_on s rows e h =
    let x = h.from in
    let k = send_keeps s in
    record {
      from = send_in s x;
      stands = contains-map (send_in s) rows x h.stands;
      company = k.company x ∙ h.company;
      content = (k.order x ∙ h.content.0, ap (λ (c : Submission). c.reference) (k.content x) ∙ h.content.1, ap (λ (c : Submission). c.sec) (k.content x) ∙ h.content.2, ap (λ (c : Submission). is_debit c.direction) (k.content x) ∙ h.content.3);
      entry = subst (λ (c : Submission). Contains (enumerate_from 1 c.entries) (e.index, e.entry)) (sym (k.content x)) h.entry;
    }

-- the one that sends it
settles_on : (s : SentRow) (rows : List CompanyRow) (e : SentEntry) → (s.company ≡ e.company) × (s.order ≡ e.order) × (s.settled ≡ e.settled) → StandsIn rows e → IsSentFrom (map (send_in s) rows) e
unfolding stands_on
settles_on s rows e same h =
    let x = h.from in
    let after = stands_on s rows e h in
    let own : is_submission s.company s.order x ≡ true = pair_from x.company s.company x.row.order s.order (h.company ∙ sym same.0) (h.content.0 ∙ sym same.1) in
    record {
      from = after.from;
      stands = after.stands;
      company = after.company;
      content = after.content;
      settles =
          ap (λ (y : CompanyRow). y.row.settled) (in_both s.company s.order (sent_row s.settled) x ∙ ap (λ b. if b then record x { row = sent_row s.settled x.row } else x) own)
          ∙ ap Some same.2;
      entry = after.entry;
    }

first_or_later : {X : Type 0} (x : X) (xs : List X) (y : X) → Contains (x ∷ xs) y → (x ≡ y) ⊎ Contains xs y
first_or_later {X} x xs y h =
    All-contains (λ (z : X). (x ≡ z) ⊎ Contains xs z) (x ∷ xs) y
    (All-from_recursion (λ (z : X). (x ≡ z) ⊎ Contains xs z) (x ∷ xs) (inl refl, all_weaker (Contains xs) (λ (z : X). (x ≡ z) ⊎ Contains xs z) (λ z has. inr has) xs (recursion_from_All (Contains xs) xs (All-contains_itself xs)))) h

sends_keep : (ss : List SentRow) (t : Tables) (r : Rows) → AreOf t r → (each_edit send_edit ss).Tells t → (e : SentEntry) → IsSentFrom r.submissions e → IsSentFrom (in_turn send_in ss r.submissions) e
sends_keep [] t r are told e h = h
sends_keep (s ∷ ss) t r are told e h = sends_keep ss ((send_edit s).after t) (with_sent s r) (send_made s t r are told.0) told.1 e (send_keeps_sent s t r are told.0 e h)

no_sending : {X : Type 0} (y : X) → Contains [] y → ⊥
no_sending y h = omega (arith, h.1)

sends_settle : (ss : List SentRow) (t : Tables) (r : Rows) → AreOf t r → (each_edit send_edit ss).Tells t → (e : SentEntry) → StandsIn r.submissions e → (sending : SentRow) → Contains ss sending
    → (sending.company ≡ e.company) × (sending.order ≡ e.order) × (sending.settled ≡ e.settled) → IsSentFrom (in_turn send_in ss r.submissions) e
sends_settle [] t r are told e h sending has same = absurd (no_sending sending has)
sends_settle (s ∷ ss) t r are told e h sending has same = elim (first_or_later s ss sending has) [
  | inl it ↦
      sends_keep ss ((send_edit s).after t) (with_sent s r) (send_made s t r are told.0) told.1 e
      (settles_on s r.submissions e (subst (λ (x : SentRow). (x.company ≡ e.company) × (x.order ≡ e.order) × (x.settled ≡ e.settled)) (sym it) same) h)
  | inr later ↦ sends_settle ss ((send_edit s).after t) (with_sent s r) (send_made s t r are told.0) told.1 e (stands_on s r.submissions e h) sending later same
]

lapses_keep : (ls : List LapsedRow) (rows : List CompanyRow) (e : SentEntry) → IsSentFrom rows e → IsSentFrom (in_turn lapse_in ls rows) e
lapses_keep [] rows e h = h
lapses_keep (l ∷ ls) rows e h = lapses_keep ls (map (lapse_in l) rows) e (lapse_keeps_sent l rows e h)

-- after a cut's sends and lapses its entries are of what is sent
pub entries_sent : (sent : List SentRow) (lapsed : List LapsedRow) (t : Tables) (r : Rows) → AreOf t r → (each_edit send_edit sent).Tells t → (es : List SentEntry) → All (IsEntryOf (flat_book r) sent) es
    → AllByRecursion (IsSentFrom (in_turn lapse_in lapsed (in_turn send_in sent r.submissions))) es
entries_sent sent lapsed t r are told es admits =
    all_weaker (IsEntryOf (flat_book r) sent) (IsSentFrom (in_turn lapse_in lapsed (in_turn send_in sent r.submissions)))
    (λ e h. lapses_keep lapsed (in_turn send_in sent r.submissions) e (sends_settle sent t r are told e (entry_stands r sent e h) h.sending h.sends h.settles)) es
    (recursion_from_All (IsEntryOf (flat_book r) sent) es admits)
