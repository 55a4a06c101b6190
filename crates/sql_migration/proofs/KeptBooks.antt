-- The tables that a migration makes are those of the same book.
use Rattle.std.proofs.Common.{◌≡◌, ℕ, Bool, true, false, List, [], ◌∷◌, ◌==◌, cond, map, reverse, Option, None, Some, refl, sym, ap, subst, ◌∙◌}
use Rattle.std.specs.Prelude.{All, bytes_eq, filter, filter_map, fold, option_map}
use Rattle.std.specs.List.{cons_option, enumerate_from}
use Rattle.std.proofs.lemmas.List.Elements.{All-head, All-tail, recursion_from_All}
use Rattle.std.proofs.lemmas.List.Sorted.{IsPermutation-reverse, list_any-IsPermutation}
use Rattle.std.proofs.lemmas.Slice.Eq.{bytes_eq-Decides}
use Rattle.sqlite_trees.proofs.ListLemmas.{all-permutation}
use Rattle.sqlite_trees.specs.Tree.{Trees}
use Rattle.desk_history.specs.Authorizations.{authorization_of, without_authorizations}
use Rattle.desk_history.specs.Message.{Pair}
use Rattle.desk_history.specs.declared.identity.Identity.{Identity}
use Rattle.desk_history.specs.declared.sent_entry.SentEntry.{SentEntry}
use Rattle.desk_book.specs.Book.{Book, book_of}
use Rattle.desk_book.specs.Unauthorized.{AuthorizesNothing, UnauthorizedBooks}
use Rattle.desk_book.specs.declared.row.Row.{Row}
use Rattle.desk_store.specs.Rows.{CompanyRow}
use Rattle.sql_tables.specs.Encodes.{AreYoungest, authorization_record}
use Rattle.sql_tables.specs.declared.records.AuthorizationRecord.{AuthorizationRecord}
use Rattle.sql_tables.specs.Layout.{IsBookIn}
use Rattle.sql_tables.specs.Tables.{Tables}
use Rattle.sql_migration.specs.FirstVersion.{AreFirstTablesOf, IsFirstBookIn, HasFirstTables, KeepsFirst}
use Rattle.sql_migration.specs.Migrated.{migrated, places_of, with_own_number}
use Rattle.sql_migration.proofs.OwnNumbers.{own_found, own_youngest}
use Rattle.sql_migration.proofs.SentPlaces.{places_are}

-- each sequence has the place of its one entry
youngest_are_own : (t : Tables) (b : Book) (h : AreFirstTablesOf t b) → AreYoungest (fold with_own_number [] (places_of t.entries)) h.rows.sent
youngest_are_own t b h s =
    let sent = enumerate_from 1 h.rows.sent in
    let IsOwn : ℕ × SentEntry → Type 0 = λ p. p.1.sequence ≡ p.0 in
    let all = all-permutation IsOwn sent (reverse sent) (IsPermutation-reverse sent) (recursion_from_All IsOwn sent h.unused) in
    own_found (places_of t.entries) [] s
    ∙ ap (λ any. cond any (Some s) None) (places_are h.rows h.beside.apart h.beside.sent t.entries h.encodes.entries s ∙ list_any-IsPermutation (λ p. p.0 == s) sent (reverse sent) (IsPermutation-reverse sent))
    ∙ sym (own_youngest s (reverse sent) all)

-- ---- nothing was authorized again

abbrev IsPlain : Row → Type 0
IsPlain r = authorization_of r.retry ≡ None

abbrev rows_in : List CompanyRow → List ℕ → List Row
rows_in xs c = map (λ x. x.row) (filter (λ x. bytes_eq x.company c) xs)

first_plain : (x : CompanyRow) (xs : List CompanyRow) → All IsPlain (rows_in (x ∷ xs) x.company) → IsPlain x.row
first_plain x xs all =
    let own = filter (λ y. bytes_eq y.company x.company) xs in
    let here = (bytes_eq-Decides x.company x.company).1 refl in
    All-head IsPlain x.row (map (λ x. x.row) own) (subst (λ (b : Bool). All IsPlain (map (λ x. x.row) (cond b (x ∷ own) own))) here all)

others_plain : (c : List ℕ) (x : CompanyRow) (xs : List CompanyRow) → All IsPlain (rows_in (x ∷ xs) c) → All IsPlain (rows_in xs c)
others_plain c x xs all = by (bytes_eq x.company c) all where
  by : (b : Bool) → All IsPlain (map (λ x. x.row) (cond b (x ∷ filter (λ y. bytes_eq y.company c) xs) (filter (λ y. bytes_eq y.company c) xs))) → All IsPlain (rows_in xs c)
  by true h = All-tail IsPlain x.row (rows_in xs c) h
  by false h = h

record_on : CompanyRow → Option ℕ → Option AuthorizationRecord
record_on x day = option_map (λ day. record { company = x.company; order = x.row.order; day = day }) day

none_authorized : (xs : List CompanyRow) → ((c : List ℕ) → All IsPlain (rows_in xs c)) → filter_map authorization_record xs ≡ []
unfolding record_on
none_authorized [] all = refl
none_authorized (x ∷ xs) all =
    ap (λ (day : Option ℕ). cons_option (record_on x day) (filter_map authorization_record xs)) (first_plain x xs (all x.company))
    ∙ none_authorized xs (λ c. others_plain c x xs (all c))

-- version 1's tables of a history's book without the key tell it whole
pub first_kept : UnauthorizedBooks → (trees : Trees) (identity : Identity) (key : List ℕ) (H : List Pair)
    → HasFirstTables trees (book_of identity key (without_authorizations H)) → KeepsFirst trees (book_of identity key (without_authorizations H))
first_kept law trees identity key H k = (k.0, k.1, record { tables = k.2; unauthorized = law identity key H })

pub book_kept : (t : Tables) (b : Book) → IsFirstBookIn t b → IsBookIn (migrated t) b
book_kept t b h = record {
  rows = h.tables.rows;
  encodes = record {
    desk = h.tables.encodes.desk;
    holidays = h.tables.encodes.holidays;
    companies = h.tables.encodes.companies;
    submissions = h.tables.encodes.submissions;
    entries = h.tables.encodes.entries;
    returns = h.tables.encodes.returns;
    changes = h.tables.encodes.changes;
    postings = h.tables.encodes.postings;
    suspense = h.tables.encodes.suspense;
    files = h.tables.encodes.files;
    taken = h.tables.encodes.taken;
    numbers = youngest_are_own t b h.tables;
    authorizations = sym (none_authorized h.tables.rows.submissions (subst AuthorizesNothing h.tables.book h.unauthorized));
    states = h.tables.encodes.states;
    retries = h.tables.encodes.retries;
  };
  beside = record {
    orders = h.tables.beside.orders;
    references = h.tables.beside.references;
    printed = h.tables.beside.printed;
    lapsed = h.tables.beside.lapsed;
    back = h.tables.beside.back;
    sent = h.tables.beside.sent;
    apart = h.tables.beside.apart;
    sequences = h.tables.beside.sequences;
    sums = h.tables.beside.sums;
  };
  book = h.tables.book;
}
