-- The entries of a new submission stand between those of the submissions below its key and those above.
use Rattle.std.proofs.Common.{◌≡◌, ℕ, ◌+◌, ◌<◌, true, false, List, [], ◌∷◌, ◌++◌, map, Option, Some, None, option_map, refl, sym, ap, ◌∙◌, is_gt, arith, append-nil, append_assoc}
use Rattle.std.specs.Prelude.{filter_map, flat_map, option_and_then}
use Rattle.std.specs.List.{AllByRecursion, cons_option, enumerate_from}
use Rattle.std.specs.Cmp.{nat_cmp_is, Equal-is}
use Rattle.std.specs.Ordering.{nat_cmp, ordering_then}
use Rattle.std.specs.declared.cmp.Ordering.{Ordering}
use Rattle.std.specs.declared.cmp.Ordering.TheVariants.{Less, Equal, Greater}
use Rattle.std.proofs.lemmas.List.{map-append}
use Rattle.std.proofs.lemmas.Map.Text.{is_eq-slice_cmp}
use Rattle.std.proofs.lemmas.Slice.Eq.{bytes_eq-Decides}
use Rattle.sqlite_keyed.specs.Lists.{insert_sorted}
use Rattle.sqlite_keyed.proofs.ListLemmas.{all-append, all_map, all_weaker, all-map, all-flat_map}
use Rattle.sql_statements.specs.Edits.{each_edit_from}
use Rattle.desk_history.specs.declared.sent_entry.SentEntry.{SentEntry}
use Rattle.desk_rules.specs.declared.bodies.submission.Entry.{Entry}
use Rattle.desk_rules.specs.declared.bodies.submission.Retry.{Retry}
use Rattle.desk_store.specs.Rows.{CompanyRow}
use Rattle.sql_tables.specs.Description.{key_cmp}
use Rattle.sql_tables.specs.DeskTables as the
use Rattle.sql_tables.specs.Encodes.{authorization_record, entry_record, entry_records}
use Rattle.sql_tables.specs.KeyOrders.{by_text_and_number, text_cmp}
use Rattle.sql_tables.specs.TableEdits.{put_authorization_edit, put_entry_edit}
use Rattle.sql_tables.specs.Tables.{Tables}
use Rattle.sql_tables.specs.declared.records.AuthorizationRecord.{AuthorizationRecord}
use Rattle.sql_tables.specs.declared.records.EntryRecord.{EntryRecord}
use Rattle.sql_write_laws.proofs.Between.{insert_between}
use Rattle.sql_write_laws.proofs.Numbered.{some_same}

-- submissions in the order of their key
abbrev pub row_cmp : CompanyRow → CompanyRow → Ordering
row_cmp = by_text_and_number (λ x. x.company) (λ x. x.row.order)

pub text_ties : (a : List ℕ) → text_cmp a a ≡ Equal
text_ties a = (Equal-is (text_cmp a a)).0 (is_eq-slice_cmp a a ∙ (bytes_eq-Decides a a).1 refl)

number_ties : (n : ℕ) → nat_cmp n n ≡ Equal
number_ties n = sym (nat_cmp_is n n Equal refl)

-- ---- entries

module _ (c : List ℕ) (order : ℕ) where
  abbrev pub new_entry : ℕ × Entry → EntryRecord
  new_entry p = record { company = c; order = order; index = p.0; entry = p.1; place = None }

  -- an entry of a higher index is above
  entry_above : (i j : ℕ) (e f : Entry) → j < i → is_gt (key_cmp the.entries (new_entry (i, e)) (new_entry (j, f))) ≡ true
  entry_above i j e f up = (λ k. is_gt (ordering_then (ordering_then (text_ties c k) (number_ties order k)) (sym (nat_cmp_is i j Greater up) k)))

  module _ (before after : List EntryRecord) (above : (i : ℕ) (e : Entry) → AllByRecursion (λ y. is_gt (key_cmp the.entries (new_entry (i, e)) y) ≡ true) before) (below : (i : ℕ) (e : Entry) → AllByRecursion (λ y. is_gt (key_cmp the.entries (new_entry (i, e)) y) ≡ false) after) where
    abbrev around : List (ℕ × Entry) → List EntryRecord
    around ps = (before ++ map new_entry ps) ++ after

    entry_put : (n : ℕ) (e : Entry) (ps : List (ℕ × Entry)) → AllByRecursion (λ p. p.0 < n) ps → insert_sorted (key_cmp the.entries) (new_entry (n, e)) (around ps) ≡ around (ps ++ (n, e) ∷ [])
    entry_put n e ps low =
        insert_between (key_cmp the.entries) (new_entry (n, e)) (before ++ map new_entry ps) after
        (all-append (λ y. is_gt (key_cmp the.entries (new_entry (n, e)) y) ≡ true) before (map new_entry ps) (above n e)
        (all_map (λ y. is_gt (key_cmp the.entries (new_entry (n, e)) y) ≡ true) new_entry ps (all_weaker (λ p. p.0 < n) (λ p. is_gt (key_cmp the.entries (new_entry (n, e)) (new_entry p)) ≡ true) (λ p up. entry_above n p.0 e p.1 up) ps low))) (below n e)
        ∙ sym (append_assoc (before ++ map new_entry ps) (new_entry (n, e) ∷ []) after)
        ∙ ap (λ l. l ++ after) (append_assoc before (map new_entry ps) (new_entry (n, e) ∷ []) ∙ ap (λ l. before ++ l) (sym (map-append new_entry ps ((n, e) ∷ []))))

    pub entries_put : (es : List Entry) (n : ℕ) (ps : List (ℕ × Entry)) (t : Tables) → AllByRecursion (λ p. p.0 < n) ps → t.entries ≡ around ps
        → (each_edit_from (put_entry_edit c order) n es).after t ≡ record t { entries = around (ps ++ enumerate_from n es) }
    entries_put [] n ps t low is = λ i. record t { entries = (is ∙ ap around (sym (append-nil ps))) i }
    entries_put (e ∷ es) n ps t low is =
        entries_put es (n + 1) (ps ++ (n, e) ∷ []) ((put_entry_edit c order n e).after t)
        (all-append (λ p. p.0 < n + 1) ps ((n, e) ∷ []) (all_weaker (λ p. p.0 < n) (λ p. p.0 < n + 1) (λ p up. omega (arith, up)) ps low) (omega arith, tt))
        (ap (insert_sorted (key_cmp the.entries) (new_entry (n, e))) is ∙ entry_put n e ps low)
        ∙ (λ i. record t { entries = around (append_assoc ps ((n, e) ∷ []) (enumerate_from (n + 1) es) i) })

-- ---- authorizations

all-filter_map : {X Y : Type 0} (P : Y → Type 0) (h : X → Option Y) (xs : List X) → AllByRecursion (λ x. (y : Y) → h x ≡ Some y → P y) xs → AllByRecursion P (filter_map h xs)
all-filter_map P h [] all = tt
all-filter_map {X} {Y} P h (x ∷ xs) all = go (h x) refl (all-filter_map P h xs all.1)
  where
    go : (o : Option Y) → h x ≡ o → AllByRecursion P (filter_map h xs) → AllByRecursion P (cons_option o (filter_map h xs))
    go None e more = more
    go (Some y) e more = (all.0 y e, more)

authorized_key : (x : CompanyRow) (y : AuthorizationRecord) → authorization_record x ≡ Some y → (x.company ≡ y.company) × (x.row.order ≡ y.order)
authorized_key x y is = go (option_and_then (λ (retry : Retry). retry.authorized) x.row.retry) is
  where
    go : (o : Option ℕ) → option_map (λ day. record { company = x.company; order = x.row.order; day = day }) o ≡ Some y → (x.company ≡ y.company) × (x.row.order ≡ y.order)
    go None h = cc
    go (Some day) h = let same = some_same h in (ap (λ (a : AuthorizationRecord). a.company) same, ap (λ (a : AuthorizationRecord). a.order) same)

-- ---- beside submissions below and above the new one

module _ (x : CompanyRow) (before after : List CompanyRow) (above : AllByRecursion (λ y. row_cmp x y ≡ Greater) before) (below : AllByRecursion (λ y. row_cmp x y ≡ Less) after) where
  pub entries_above : (sent : List SentEntry) (i : ℕ) (e : Entry) → AllByRecursion (λ y. is_gt (key_cmp the.entries (new_entry x.company x.row.order (i, e)) y) ≡ true) (flat_map (entry_records sent) before)
  entries_above sent i e =
      let P : EntryRecord → Type 0 = λ y. is_gt (key_cmp the.entries (new_entry x.company x.row.order (i, e)) y) ≡ true in
      all-flat_map P (entry_records sent) before
      (all_weaker (λ y. row_cmp x y ≡ Greater) (λ y. AllByRecursion P (entry_records sent y)) (λ y up. all-map P (entry_record sent y.company y.row.order) (λ q. ap (λ o. is_gt (ordering_then o (nat_cmp i q.0))) up) (enumerate_from 1 y.row.content.entries)) before above)

  pub entries_below : (sent : List SentEntry) (i : ℕ) (e : Entry) → AllByRecursion (λ y. is_gt (key_cmp the.entries (new_entry x.company x.row.order (i, e)) y) ≡ false) (flat_map (entry_records sent) after)
  entries_below sent i e =
      let P : EntryRecord → Type 0 = λ y. is_gt (key_cmp the.entries (new_entry x.company x.row.order (i, e)) y) ≡ false in
      all-flat_map P (entry_records sent) after
      (all_weaker (λ y. row_cmp x y ≡ Less) (λ y. AllByRecursion P (entry_records sent y)) (λ y up. all-map P (entry_record sent y.company y.row.order) (λ q. ap (λ o. is_gt (ordering_then o (nat_cmp i q.0))) up) (enumerate_from 1 y.row.content.entries)) after below)

  pub authorization_put : (o : Option ℕ) (t : Tables) → t.authorizations ≡ filter_map authorization_record before ++ filter_map authorization_record after
      → (put_authorization_edit x.company x.row.order o).after t ≡ record t { authorizations = filter_map authorization_record before ++ cons_option (option_map (λ day. record { company = x.company; order = x.row.order; day = day }) o) (filter_map authorization_record after) }
  authorization_put None t is = λ i. record t { authorizations = is i }
  authorization_put (Some day) t is =
      let new : AuthorizationRecord = record { company = x.company; order = x.row.order; day = day } in
      let put : insert_sorted (key_cmp the.authorizations) new (filter_map authorization_record before ++ filter_map authorization_record after) ≡ filter_map authorization_record before ++ new ∷ filter_map authorization_record after =
      insert_between (key_cmp the.authorizations) new (filter_map authorization_record before) (filter_map authorization_record after)
      (all-filter_map (λ y. is_gt (key_cmp the.authorizations new y) ≡ true) authorization_record before
      (all_weaker (λ y. row_cmp x y ≡ Greater) (λ y. (a : AuthorizationRecord) → authorization_record y ≡ Some a → is_gt (key_cmp the.authorizations new a) ≡ true)
      (λ y up a made. let key = authorized_key y a made in (λ i. is_gt (ordering_then (text_cmp x.company (sym key.0 i)) (nat_cmp x.row.order (sym key.1 i)))) ∙ ap is_gt up) before above))
      (all-filter_map (λ y. is_gt (key_cmp the.authorizations new y) ≡ false) authorization_record after
      (all_weaker (λ y. row_cmp x y ≡ Less) (λ y. (a : AuthorizationRecord) → authorization_record y ≡ Some a → is_gt (key_cmp the.authorizations new a) ≡ false)
      (λ y up a made. let key = authorized_key y a made in (λ i. is_gt (ordering_then (text_cmp x.company (sym key.0 i)) (nat_cmp x.row.order (sym key.1 i)))) ∙ ap is_gt up) after below)) in
      λ i. record t { authorizations = (ap (insert_sorted (key_cmp the.authorizations) new) is ∙ put) i }
