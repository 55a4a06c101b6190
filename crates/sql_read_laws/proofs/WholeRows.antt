-- The row that is assembled of what four tables say of a submission is its row.
use Rattle.std.proofs.Common.{◌≡◌, ℕ, ◌+◌, Bool, true, false, ◌&&◌, ◌==◌, cond, List, [], ◌∷◌, map, filter, find, slice_get, Option, Some, None, option_map, refl, sym, subst, ap, ◌∙◌}
use Rattle.std.specs.Prelude.{flat_map, filter_map, bytes_eq, option_and_then}
use Rattle.std.specs.List.{AllByRecursion, cons_option, enumerate_from}
use Rattle.std.specs.Cmp.{nat_cmp_is, Equal-is}
use Rattle.std.specs.Ordering.{nat_cmp, ordering_then}
use Rattle.std.specs.declared.cmp.Ordering.TheVariants.{Less, Equal}
use Rattle.std.proofs.lemmas.Bool.{and_from, eq-eqb, false_from_ne_true}
use Rattle.std.proofs.lemmas.List.{append-nil}
use Rattle.std.proofs.lemmas.List.Elements.{recursion_from_All}
use Rattle.std.proofs.lemmas.Map.Text.{is_eq-slice_cmp}
use Rattle.std.proofs.lemmas.Slice.Eq.{bytes_eq-Decides}
use Rattle.sqlite_keyed.proofs.ListLemmas.{map-map, map_same, all-map, all_both, slice_get-filter, ascending_from_map}
use Rattle.desk_rules.specs.declared.bodies.submission.Entry.{Entry}
use Rattle.desk_rules.specs.declared.bodies.submission.Retry.{Retry}
use Rattle.desk_store.specs.Rows.{CompanyRow, Rows}
use Rattle.sql_tables.specs.Beside.{is_submission}
use Rattle.sql_tables.specs.Description.{key_cmp}
use Rattle.sql_tables.specs.DeskTables as the
use Rattle.sql_tables.specs.Encodes.{Encodes, HasStates, RetryFits, AsksAs, submission_record, entry_record, entry_records, authorization_record, retried_entry, entry_state, settled_state, unless_lapsed, is_return_of}
use Rattle.sql_tables.specs.KeyOrders.{IsInOrder, text_cmp}
use Rattle.sql_tables.specs.RowParts.{retry_with, state_with, state_among}
use Rattle.sql_tables.specs.Selected.{head_of, numbered_of, return_of}
use Rattle.sql_tables.specs.TableReads.{whole_row, is_entry_of, is_return_in, is_authorization_of, authorized_in, entries_in, returns_in}
use Rattle.sql_tables.specs.Tables.{Tables}
use Rattle.sql_tables.specs.declared.records.AuthorizationRecord.{AuthorizationRecord}
use Rattle.sql_tables.specs.declared.records.ReturnRecord.{ReturnRecord}
use Rattle.sql_tables.specs.declared.row.entries.NumberedEntry.{NumberedEntry}
use Rattle.sql_tables.specs.declared.row.submissions.SubmissionHead.{SubmissionHead}
use Rattle.sql_tables.proofs.CutRecords.{pair_same}
use Rattle.sql_read_laws.proofs.Singles.{each_alone, filter-parts, filter-part}

-- ---- keys

pub text_ties : (a : List ℕ) → text_cmp a a ≡ Equal
text_ties a = (Equal-is (text_cmp a a)).0 (is_eq-slice_cmp a a ∙ (bytes_eq-Decides a a).1 refl)

pub number_ties : (n : ℕ) → nat_cmp n n ≡ Equal
number_ties n = sym (nat_cmp_is n n Equal refl)

-- what is below in the order of a text and a number has another key
pub pair_apart : (a b : List ℕ) (m n : ℕ) → ordering_then (text_cmp a b) (nat_cmp m n) ≡ Less → (a ≡ b) × (m ≡ n) → ⊥
pair_apart a b m n less same =
    let ties : ordering_then (text_cmp a b) (nat_cmp m n) ≡ Equal = (λ i. ordering_then (text_cmp (same.0 i) b) (nat_cmp (same.1 i) n)) ∙ (λ i. ordering_then (text_ties b i) (number_ties n i)) in
    let e : Less ≡ Equal = sym less ∙ ties in cc

-- ---- states

-- the return of an entry is found among those of its submission
pub found_return : (c : List ℕ) (o index : ℕ) (rs : List ReturnRecord) → find (λ r. r.index == index) (map return_of (filter (is_return_in c o) rs)) ≡ option_map return_of (find (is_return_of c o index) rs)
found_return c o index [] = refl
found_return c o index (r ∷ rs) = go (bytes_eq r.company c && r.order == o) (r.index == index) refl (found_return c o index rs)
  where
    go : (a b : Bool) → (r.index == index) ≡ b → find (λ r. r.index == index) (map return_of (filter (is_return_in c o) rs)) ≡ option_map return_of (find (is_return_of c o index) rs)
        → find (λ r. r.index == index) (map return_of (cond a (r ∷ filter (is_return_in c o) rs) (filter (is_return_in c o) rs))) ≡ option_map return_of (cond (a && b) (Some r) (find (is_return_of c o index) rs))
    go true true at more = ap (λ t. cond t (Some (return_of r)) (find (λ r. r.index == index) (map return_of (filter (is_return_in c o) rs)))) at
    go true false at more = ap (λ t. cond t (Some (return_of r)) (find (λ r. r.index == index) (map return_of (filter (is_return_in c o) rs)))) at ∙ more
    go false b at more = more

pub same_state : (lapsed : Bool) (settled : Option ℕ) (back : Option ReturnRecord) → unless_lapsed lapsed (state_with settled (option_map return_of back)) ≡ unless_lapsed lapsed (settled_state settled back)
same_state true settled back = refl
same_state false None back = refl
same_state false (Some on) None = refl
same_state false (Some on) (Some r) = refl

-- ---- one row

entries_numbered : (n : ℕ) (entries : List Entry) → map (λ (p : ℕ × Entry). p.1) (enumerate_from n entries) ≡ entries
entries_numbered n [] = refl
entries_numbered n (x ∷ entries) = ap (λ l. x ∷ l) (entries_numbered (n + 1) entries)

module _ (t : Tables) (r : Rows) (e : Encodes t r) where
  abbrev pub is_own : CompanyRow → CompanyRow → Bool
  is_own x = is_submission x.company x.row.order

  module _ (x : CompanyRow) (alone : filter (is_own x) r.submissions ≡ x ∷ []) where
    pub own_entries : filter (is_entry_of x.company x.row.order) t.entries ≡ entry_records r.sent x
    own_entries =
        ap (filter (is_entry_of x.company x.row.order)) e.entries
        ∙ filter-parts (is_entry_of x.company x.row.order) (is_own x) (entry_records r.sent) (λ y. all-map (λ z. is_entry_of x.company x.row.order z ≡ is_own x y) (entry_record r.sent y.company y.row.order) (λ p. refl) (enumerate_from 1 y.row.content.entries)) r.submissions
        ∙ ap (flat_map (entry_records r.sent)) alone
        ∙ append-nil (entry_records r.sent x)

    authorization_own : (y : CompanyRow) (a : AuthorizationRecord) → authorization_record y ≡ Some a → is_authorization_of x.company x.row.order a ≡ is_own x y
    authorization_own y a is = go (option_and_then (λ (retry : Retry). retry.authorized) y.row.retry) is
      where
        go : (o : Option ℕ) → option_map (λ (day : ℕ). record { company = y.company; order = y.row.order; day = day }) o ≡ Some a → is_authorization_of x.company x.row.order a ≡ is_own x y
        go None none = absurd (let e = none in cc)
        go (Some day) some = let same : record { company = y.company; order = y.row.order; day = day } ≡ a = (let e = some in cc) in ap (is_authorization_of x.company x.row.order) (sym same)

    first_of_option : {Y : Type 0} (o : Option Y) → slice_get (cons_option o []) 0 ≡ o
    first_of_option None = refl
    first_of_option (Some y) = refl

    own_authorization : find (is_authorization_of x.company x.row.order) t.authorizations ≡ authorization_record x
    own_authorization =
        ap (find (is_authorization_of x.company x.row.order)) e.authorizations
        ∙ sym (slice_get-filter (is_authorization_of x.company x.row.order) (filter_map authorization_record r.submissions))
        ∙ ap (λ l. slice_get l 0) (filter-part (is_authorization_of x.company x.row.order) (is_own x) authorization_record authorization_own r.submissions ∙ ap (filter_map authorization_record) alone)
        ∙ first_of_option (authorization_record x)

    own_numbered : entries_in x.company x.row.order t ≡ map (λ (p : ℕ × Entry). record { index = p.0; entry = p.1 }) (enumerate_from 1 x.row.content.entries)
    own_numbered = ap (map numbered_of) own_entries ∙ map-map numbered_of (entry_record r.sent x.company x.row.order) (enumerate_from 1 x.row.content.entries)

    abbrev head : SubmissionHead
    head = head_of (submission_record r.printed x)

    abbrev numbered : ℕ × Entry → NumberedEntry
    numbered p = record { index = p.0; entry = p.1 }

    whole_entries : map (λ e. e.entry) (entries_in x.company x.row.order t) ≡ x.row.content.entries
    whole_entries =
        ap (map (λ e. e.entry)) own_numbered
        ∙ map-map (λ e. e.entry) numbered (enumerate_from 1 x.row.content.entries)
        ∙ entries_numbered 1 x.row.content.entries

    whole_states : HasStates t.returns x → map (λ e. state_among head (returns_in x.company x.row.order t) e.index) (entries_in x.company x.row.order t) ≡ x.row.states
    whole_states states =
        ap (map (λ e. state_among head (returns_in x.company x.row.order t) e.index)) own_numbered
        ∙ map-map (λ e. state_among head (returns_in x.company x.row.order t) e.index) numbered (enumerate_from 1 x.row.content.entries)
        ∙ map_same (λ p. state_among head (returns_in x.company x.row.order t) p.0) (λ p. entry_state t.returns x p.0) each (enumerate_from 1 x.row.content.entries)
        ∙ sym states
      where
        each : (p : ℕ × Entry) → state_among head (returns_in x.company x.row.order t) p.0 ≡ entry_state t.returns x p.0
        each p =
            ap (λ o. unless_lapsed x.row.lapsed (state_with x.row.settled o)) (found_return x.company x.row.order p.0 t.returns)
            ∙ same_state x.row.lapsed x.row.settled (find (is_return_of x.company x.row.order p.0) t.returns)

    day_of_authorization : (o : Option ℕ) → option_map (λ (a : AuthorizationRecord). a.day) (option_map (λ (day : ℕ). record { company = x.company; order = x.row.order; day = day }) o) ≡ o
    day_of_authorization None = refl
    day_of_authorization (Some day) = refl

    whole_authorization : authorized_in x.company x.row.order t ≡ option_and_then (λ (retry : Retry). retry.authorized) x.row.retry
    whole_authorization = ap (option_map (λ a. a.day)) own_authorization ∙ day_of_authorization (option_and_then (λ (retry : Retry). retry.authorized) x.row.retry)

    whole_retry : RetryFits x → option_map (retry_with head (authorized_in x.company x.row.order t)) (option_map retried_entry x.row.retry) ≡ x.row.retry
    whole_retry fits = ap (λ o. option_map (retry_with head o) (option_map retried_entry x.row.retry)) whole_authorization ∙ go x.row.retry fits
      where
        go : (retry : Option Retry) → AsksAs x.row.content.reference x.row.content.day retry → option_map (retry_with head (option_and_then (λ (q : Retry). q.authorized) retry)) (option_map retried_entry retry) ≡ retry
        go None fit = refl
        go (Some q) fit = λ i. Some (record { reference = sym fit.0 i; of = q.of; index = q.index; day = sym fit.1 i; authorized = q.authorized })

    row_whole : HasStates t.returns x → RetryFits x → whole_row t head ≡ x.row
    row_whole states fits = λ i. record {
      order = x.row.order;
      content = record {
        reference = x.row.content.reference;
        sec = x.row.content.sec;
        direction = x.row.content.direction;
        description = x.row.content.description;
        day = x.row.content.day;
        entries = whole_entries i;
      };
      retry = whole_retry fits i;
      settled = x.row.settled;
      lapsed = x.row.lapsed;
      states = whole_states states i;
    }

  module _ (rise : IsInOrder (key_cmp the.submissions) t.submissions) where
    abbrev is_below : CompanyRow → CompanyRow → Type 0
    is_below x y = key_cmp the.submissions (submission_record r.printed x) (submission_record r.printed y) ≡ Less

    own_same : (x : CompanyRow) → is_own x x ≡ true
    own_same x = and_from _ _ ((bytes_eq-Decides x.company x.company).1 refl) (eq-eqb x.row.order x.row.order refl)

    own_ahead : (x y : CompanyRow) → is_below x y → is_own x y ≡ false
    own_ahead x y less = false_from_ne_true _ (λ is. let same = pair_same y.company x.company y.row.order x.row.order is in pair_apart x.company y.company x.row.order y.row.order less (sym same.0, sym same.1))

    own_behind : (x y : CompanyRow) → is_below x y → is_own y x ≡ false
    own_behind x y less = false_from_ne_true _ (λ is. let same = pair_same x.company y.company x.row.order y.row.order is in pair_apart x.company y.company x.row.order y.row.order less (same.0, same.1))

    -- each submission is the one of its company and number
    pub all_alone : AllByRecursion (λ x. filter (is_own x) r.submissions ≡ x ∷ []) r.submissions
    all_alone =
        each_alone is_below is_own own_same own_ahead own_behind r.submissions
        (ascending_from_map (λ a b. key_cmp the.submissions a b ≡ Less) (submission_record r.printed) r.submissions (subst (IsInOrder (key_cmp the.submissions)) e.submissions rise))

    pub rows_whole : AllByRecursion (λ x. whole_row t (head_of (submission_record r.printed x)) ≡ x.row) r.submissions
    rows_whole =
        all_both (λ x. (HasStates t.returns x) × (RetryFits x)) (λ x. filter (is_own x) r.submissions ≡ x ∷ []) (λ x. whole_row t (head_of (submission_record r.printed x)) ≡ x.row)
        (λ x fits alone. row_whole x alone fits.0 fits.1) r.submissions
        (all_both (HasStates t.returns) RetryFits (λ x. (HasStates t.returns x) × (RetryFits x)) (λ x h k. (h, k)) r.submissions (recursion_from_All (HasStates t.returns) r.submissions e.states) (recursion_from_All RetryFits r.submissions e.retries))
        all_alone
