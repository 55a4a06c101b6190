-- The queries of entries, and of the places of those that were sent.
use Rattle.std.proofs.Common.{◌≡◌, ℕ, pos, List, [], ◌∷◌, map, filter, slice_get, sum_by, Some, refl, ap, ◌∙◌, arith}
use Rattle.std.proofs.lemmas.Int.{ints}
use Rattle.std.proofs.lemmas.List.Sums.{sum_by-cons}
use Rattle.sqlite_sql.proofs.AggregateLemmas.{int_sum}
use Rattle.sqlite.specs.Values.{or_null}
use Rattle.sqlite_value.specs.Order.{Row}
use Rattle.sqlite_value.specs.declared.value.Value.TheVariants.{Int, Text}
use Rattle.sql_statements.proofs.Conditions.{text_is}
use Rattle.sql_statements.proofs.Sums.{summed}
use Rattle.sql_statements.specs.Statements.{column_is, at_least, at_most, columns}
use Rattle.sql_tables.specs.ByName as named
use Rattle.sql_tables.specs.Columns.{number}
use Rattle.sql_tables.specs.Description.{form, table}
use Rattle.sql_tables.specs.DeskTables as the
use Rattle.sql_tables.specs.Schema.{desk_schema}
use Rattle.sql_tables.specs.declared.records.EntryRecord.{EntryRecord}
use Rattle.sql_tables.specs.QueryRows.{entry_amount_row, numbered_entry_row, placed_entry_row, entry_place_row}
use Rattle.sql_tables.specs.Selected.{amount_of, numbered_of, placed_of, entry_place_of}
use Rattle.sql_tables.specs.TableReads.{is_entry_of, entries_in, amounts_in, infos_in, cents_in, is_at_place, entry_at_place, is_placed_between, entry_places_in, place_in, is_between, places_between}
use Rattle.std.specs.Prelude.{◌==◌, ◌&&◌, nat_le}
use Rattle.sql_query_laws.proofs.Conditions.{one, two, number_is, number_least, number_most, number_if_any_is, number_if_any_least, number_if_any_most}
use Rattle.sql_query_laws.proofs.Listings.{entries, numbers}
use Rattle.sql_query_laws.proofs.Selects.{all_selected, first_selected}
use Rattle.sql_query_laws.proofs.Texts.{places, entries_is, amounts_is, infos_is, cents_is, sent_entry_is, entry_places_is, places_is}
use Rattle.sql_query_laws.specs.Shows.{ShowsAll, ShowsFirst}
use Rattle.sql_query_laws.specs.Questions as questions

pub entries_shown : (c : List ℕ) (order : ℕ) → ShowsAll questions.entries.text (Text c ∷ number order ∷ []) numbered_entry_row (entries_in c order)
entries_shown c order =
    all_selected entries questions.entries.text (column_is 1 0 ∷ column_is 2 1 ∷ []) (places (3 ∷ 4 ∷ 5 ∷ 6 ∷ 7 ∷ 8 ∷ 9 ∷ 10 ∷ 11 ∷ [])) (Text c ∷ number order ∷ []) (is_entry_of c order) numbered_of numbered_entry_row
    entries_is.asks (λ i e. two (text_is e.company c) (number_is e.order order)) (λ i e. refl)

pub amounts_shown : (c : List ℕ) (order : ℕ) → ShowsAll questions.amounts.text (Text c ∷ number order ∷ []) entry_amount_row (amounts_in c order)
amounts_shown c order =
    all_selected entries questions.amounts.text (column_is 1 0 ∷ column_is 2 1 ∷ []) (places (3 ∷ 7 ∷ 8 ∷ [])) (Text c ∷ number order ∷ []) (is_entry_of c order) amount_of entry_amount_row
    amounts_is.asks (λ i e. two (text_is e.company c) (number_is e.order order)) (λ i e. refl)

pub infos_shown : (c : List ℕ) (order : ℕ) → ShowsAll questions.infos.text (Text c ∷ number order ∷ []) (λ o. or_null Text o ∷ []) (infos_in c order)
infos_shown c order =
    all_selected entries questions.infos.text (column_is 1 0 ∷ column_is 2 1 ∷ []) (places (11 ∷ [])) (Text c ∷ number order ∷ []) (is_entry_of c order) (λ e. e.entry.info) (λ o. or_null Text o ∷ [])
    infos_is.asks (λ i e. two (text_is e.company c) (number_is e.order order)) (λ i e. refl)

whole_sum : (es : List EntryRecord) → int_sum (map (λ e. pos e.entry.cents) es) ≡ pos (sum_by (λ e. e.entry.cents) es)
whole_sum [] = refl
whole_sum (e ∷ es) = let more = sum_by-cons (λ (e : EntryRecord). e.entry.cents) e es in let rest = whole_sum es in omega (arith, ints)

pub cents_shown : (c : List ℕ) (order : ℕ) → ShowsFirst questions.cents.text (Text c ∷ number order ∷ []) (λ n. number n ∷ []) (λ t. Some (cents_in c order t))
cents_shown c order = record {
  row = λ t old new h rows seen.
      ap (λ (l : List Row). slice_get l 0)
      (summed (form the.entries) (table the.entries).tree (column_is 1 0 ∷ column_is 2 1 ∷ []) 8 (Text c ∷ number order ∷ []) (is_entry_of c order) (λ e. pos e.entry.cents)
      (λ i e. two (text_is e.company c) (number_is e.order order)) (λ i e. refl) desk_schema questions.cents.text cents_is.asks old new h.0 t.entries (h.1.stands named.entries).stored rows seen)
      ∙ ap (λ z. Some (Int z ∷ [])) (whole_sum (filter (is_entry_of c order) t.entries));
}

pub sent_entry_shown : (place : ℕ) → ShowsFirst questions.sent_entry.text (number place ∷ []) placed_entry_row (entry_at_place place)
sent_entry_shown place =
    first_selected entries questions.sent_entry.text (column_is 12 0 ∷ []) (columns 11) (number place ∷ []) (is_at_place place) placed_of placed_entry_row sent_entry_is.asks (λ i e. one (number_if_any_is e.place place)) (λ i e. refl)

pub entry_places_shown : (from to : ℕ) → ShowsAll questions.entry_places.text (number from ∷ number to ∷ []) entry_place_row (entry_places_in from to)
entry_places_shown from to =
    all_selected entries questions.entry_places.text (at_least 12 0 ∷ at_most 12 1 ∷ []) (places (1 ∷ 2 ∷ 12 ∷ [])) (number from ∷ number to ∷ []) (is_placed_between from to) entry_place_of entry_place_row
    entry_places_is.asks (λ i e. two (number_if_any_least e.place from) (number_if_any_most e.place to)) (λ i e. refl)

-- one number is a range of its own
only : (a b : ℕ) → (nat_le b a && nat_le a b) ≡ (a == b)
only a b = grind (arith)

pub place_shown : (sequence : ℕ) → ShowsFirst questions.places.text (number sequence ∷ number sequence ∷ []) (λ n. number n ∷ []) (place_in sequence)
place_shown sequence =
    first_selected numbers questions.places.text (at_least 0 0 ∷ at_most 0 1 ∷ []) (places (2 ∷ [])) (number sequence ∷ number sequence ∷ []) (λ n. n.sequence == sequence) (λ n. n.place) (λ n. number n ∷ [])
    places_is.asks (λ i n. two (number_least n.sequence sequence) (number_most n.sequence sequence) ∙ only n.sequence sequence) (λ i n. refl)

pub places_shown : (from to : ℕ) → ShowsAll questions.places.text (number from ∷ number to ∷ []) (λ n. number n ∷ []) (places_between from to)
places_shown from to =
    all_selected numbers questions.places.text (at_least 0 0 ∷ at_most 0 1 ∷ []) (places (2 ∷ [])) (number from ∷ number to ∷ []) (is_between from to) (λ n. n.place) (λ n. number n ∷ [])
    places_is.asks (λ i n. two (number_least n.sequence from) (number_most n.sequence to)) (λ i n. refl)
