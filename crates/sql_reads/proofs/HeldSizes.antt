-- The size of a held submission is made of its head, and of the cents and the addenda of its entries.
use Rattle.std.proofs.Common.{◌≡◌, ◌∙◌, ap, sym, refl, ℕ, ◌+◌, List, [], ◌∷◌, length, map, Option, None, Some, option_map}
use Rattle.std.specs.Prelude.{filter, is_some, sum_by}
use Rattle.std.proofs.lemmas.List.{length-map}
use Rattle.std.proofs.lemmas.List.Sums.{sum_by-cons}
use Rattle.sqlite_keyed.proofs.ListLemmas.{map-map}
use Rattle.desk_rules.specs.declared.bodies.company.Company.{Company}
use Rattle.desk_rules.specs.declared.bodies.submission.Entry.{Entry}
use Rattle.desk_history.specs.Sendings.{records_of}
use Rattle.desk_book.specs.HeldSizes.{held_size}
use Rattle.desk_book.specs.declared.held_size.HeldSize.{HeldSize}
use Rattle.sql_query_laws.proofs.Selects.{each_itself}
use Rattle.desk_history.specs.declared.reports.RetriedEntry.{RetriedEntry}
use Rattle.sql_tables.specs.Composed.{held_in, original_in}
use Rattle.sql_tables.specs.RowParts.{retry_with}
use Rattle.sql_tables.specs.Selected.{numbered_of}
use Rattle.sql_tables.specs.TableReads.{authorized_in, cents_in, entries_in, heads_in, infos_in, is_entry_of, is_waiting_of, whole_row}
use Rattle.sql_tables.specs.Tables.{Tables}
use Rattle.sql_tables.specs.declared.records.EntryRecord.{EntryRecord}
use Rattle.sql_tables.specs.declared.row.entries.NumberedEntry.{NumberedEntry}
use Rattle.sql_tables.specs.declared.row.submissions.SubmissionHead.{SubmissionHead}
use Rattle.sql_reads.specs.HeldSizes.{held_sizes_in, original_of_entry, size_by, size_of_head}

sum-map : {X Y : Type 0} (n : Y → ℕ) (f : X → Y) (xs : List X) → sum_by n (map f xs) ≡ sum_by (λ x. n (f x)) xs
sum-map n f [] = refl
sum-map n f (x ∷ xs) = sum_by-cons n (f x) (map f xs) ∙ ap (λ (m : ℕ). n (f x) + m) (sum-map n f xs) ∙ sym (sum_by-cons (λ x. n (f x)) x xs)

same_retry : {X Y : Type 0} (f : X → Y) (o : Option X) → is_some o ≡ is_some (option_map f o)
same_retry f None = refl
same_retry f (Some x) = refl

same_original : (c : List ℕ) (head : SubmissionHead) (authorized : Option ℕ) (t : Tables) (o : Option RetriedEntry) → original_of_entry c o t ≡ original_in c (option_map (retry_with head authorized) o) t
same_original c head authorized t None = refl
same_original c head authorized t (Some retried) = refl

module _ (t : Tables) (head : SubmissionHead) where
  abbrev own : List EntryRecord
  own = filter (is_entry_of head.company head.order) t.entries

  abbrev entries : List Entry
  entries = map (λ e. e.entry) (entries_in head.company head.order t)

  entries_of_own : entries ≡ map (λ e. e.entry) own
  entries_of_own = map-map (λ (e : NumberedEntry). e.entry) numbered_of own

  same_cents : cents_in head.company head.order t ≡ sum_by (λ e. e.cents) entries
  same_cents = sym (ap (sum_by (λ (e : Entry). e.cents)) entries_of_own ∙ sum-map (λ (e : Entry). e.cents) (λ (e : EntryRecord). e.entry) own)

  same_count : length (infos_in head.company head.order t) ≡ length entries
  same_count = length-map own (λ (e : EntryRecord). e.entry.info) ∙ sym (ap length entries_of_own ∙ length-map own (λ (e : EntryRecord). e.entry))

  same_records : sum_by records_of (infos_in head.company head.order t) ≡ sum_by (λ e. records_of e.info) entries
  same_records =
      sum-map records_of (λ (e : EntryRecord). e.entry.info) own
      ∙ sym (ap (sum_by (λ (e : Entry). records_of e.info)) entries_of_own ∙ sum-map (λ (e : Entry). records_of e.info) (λ (e : EntryRecord). e.entry) own)

  pub size_is : (c : List ℕ) (original : Option ℕ) (cents : ℕ) (infos : List (Option (List ℕ))) → cents ≡ cents_in head.company head.order t → infos ≡ infos_in head.company head.order t
      → original ≡ original_of_entry c head.retried t → size_by head original cents infos ≡ size_of_head c head t
  size_is c original cents infos a b o = (λ i. size_by head (o i) (a i) (b i)) ∙ (λ i. record {
    order = head.order;
    direction = head.direction;
    asked = head.asked;
    is_retry = same_retry (retry_with head (authorized_in head.company head.order t)) head.retried i;
    original_settled = same_original c head (authorized_in head.company head.order t) t head.retried i;
    cents = same_cents i;
    entries = same_count i;
    records = same_records i;
  })

pub sizes_of_heads : (k : Company) (t : Tables) (found : List HeldSize) (heads : List SubmissionHead)
    → heads ≡ heads_in (is_waiting_of k.id) t → map (λ size. size) found ≡ map (λ head. held_size (held_in k t (whole_row t head))) heads
    → found ≡ held_sizes_in k t
sizes_of_heads k t found heads are these =
    sym (each_itself found) ∙ these
    ∙ sym (map-map held_size (λ head. held_in k t (whole_row t head)) heads)
    ∙ ap (map held_size) (sym (map-map (held_in k t) (whole_row t) heads) ∙ ap (λ hs. map (held_in k t) (map (whole_row t) hs)) are)
