-- The statement that puts in a number, and the query of all places, against the records.
use Rattle.std.proofs.Common.{◌≡◌, ℕ, ◌+◌, true, List, [], ◌∷◌, map, filter, fold, Option, None, Some, Ok, unwrap_or, refl, ap, ◌∙◌, sym}
use Rattle.sqlite_tied.specs.Compute.{everything}
use Rattle.sqlite.specs.Listing.{understood}
use Rattle.std.proofs.Common.{subst}
use Rattle.std.specs.Prelude.{⊤}
use Rattle.sqlite.specs.Command.TheVariants.{Insert}
use Rattle.sqlite.specs.Does.{Does}
use Rattle.sqlite.specs.Source.TheVariants.{Values}
use Rattle.sqlite.specs.State.{State, Executes, Shown, mode_of}
use Rattle.sqlite.proofs.Callers.{runs_as, statement_of}
use Rattle.sqlite_schema.specs.declared.schema.Keys.TheVariants.{Enforced}
use Rattle.sqlite.specs.Values.{or_null}
use Rattle.sqlite_resolve.specs.Compile.{first}
use Rattle.sqlite_value.specs.Order.{Row}
use Rattle.sql_statements.specs.SelectTexts.{IsSelectText}
use Rattle.sql_statements.specs.Statements.{IsSelect, query_from, at_least, by, rows_shown}
use Rattle.sql_statements.specs.Edits.{each_edit_from}
use Rattle.sql_statements.specs.Layouts.{Holds}
use Rattle.sql_tables.specs.ByName as named
use Rattle.sql_tables.specs.Description.{table}
use Rattle.sql_tables.specs.Schema.{desk_schema}
use Rattle.sql_tables.specs.Columns.{number}
use Rattle.sql_tables.specs.Layout.{desk_layout}
use Rattle.sql_tables.specs.Tables.{Tables}
use Rattle.sql_tables.specs.declared.records.EntryRecord.{EntryRecord}
use Rattle.sql_tables.specs.declared.records.NumberRecord.{NumberRecord}
use Rattle.sql_query_laws.proofs.Conditions.{one, number_if_any_least}
use Rattle.sql_query_laws.proofs.Listings.{entries}
use Rattle.sql_query_laws.proofs.Selects.{all_selected}
use Rattle.sql_query_laws.proofs.Texts.{places}
use Rattle.sql_query_laws.specs.Shows.{ShowsAll}
use Rattle.sql_writes.proofs.Puts.{Inserts, holds_with, one_put, PutsOne}
use Rattle.sql_writes.proofs.NumberedRows.{numbered_in_order}
use Rattle.sql_migration.specs.Migrated.{has_place, with_own_number}
use Rattle.sql_migration.specs.Migration.{put_number_edit, number_entries_edit, number_in, seen_layout, if_seen}
use Rattle.sql_migration.proofs.KeptSchemas.{rows_schema}
use Rattle.sql_migration.specs.MigrationTexts.{insert_number, sent_places_text}
use Rattle.sql_tables.specs.DeskTables as the

insert_number_is : Inserts named.numbers insert_number 1
unfolding understood everything
insert_number_is = record { is = refl; plain = (refl, refl) }

puts_number : PutsOne named.numbers
puts_number = record { is = insert_number_is; full = refl }

number_put : (place : ℕ) (old new : State) (count : ℕ) → Executes insert_number (number place ∷ number place ∷ []) old new (Ok count) → (t : Tables) → Holds desk_layout old.now t → Holds desk_layout new.now ((put_number_edit place).after t)
number_put place old new count ran t h =
    let n : NumberRecord = record { sequence = place; place = place } in
    let made = one_put named.numbers puts_number n old new count ran t h in
    holds_with named.numbers _ h made.has (numbered_in_order (λ y. y.sequence) _ (table the.sequences) new.now.trees n t.numbers (h.1.stands named.numbers).rise made.has.stored)

-- the schema stays, whatever rows there are
number_schema : (place : ℕ) (old new : State) (count : ℕ) → Executes insert_number (number place ∷ number place ∷ []) old new (Ok count) → old.now.schema ≡ desk_schema → new.now.schema ≡ desk_schema
number_schema place old new count ran has =
    let params = number place ∷ number place ∷ [] in
    let command = Insert 12 (Values (rows_shown true 2 0 1) 3) in
    let w = runs_as insert_number params old new desk_schema has command insert_number_is.is insert_number_is.plain count ran in
    let all = subst (λ s. Does old.step_limit (mode_of old) params (record old.now { schema = s }) (statement_of insert_number (understood desk_schema insert_number)) None command (Ok (w.tally, new.now))) has w.changed in
    rows_schema (record { limit = old.step_limit; keys = Enforced; schema = desk_schema; table = table the.sequences; params = params }) old command old.now.trees w.tally new.now all

pub number_seen : (place : ℕ) (old new : State) (count : ℕ) → Executes insert_number (number place ∷ number place ∷ []) old new (Ok count) → (o : Option Tables) → Holds seen_layout old.now o
    → Holds seen_layout new.now ((if_seen (put_number_edit place)).after o)
number_seen place old new count ran None h = (number_schema place old new count ran h.0, tt)
number_seen place old new count ran (Some t) h = number_put place old new count ran t h

-- ---- the places

pub places_select : IsSelectText sent_places_text
unfolding first everything
places_select = refl

places_is : IsSelect desk_schema sent_places_text (query_from 9 (at_least 12 0 ∷ []) (places (12 ∷ [])) (by 1 ∷ by 2 ∷ by 3 ∷ []))
unfolding understood everything
places_is = record { selects = refl; body = refl; alone = refl; unlisted = refl; plain = (refl, refl) }

-- the row of a place
abbrev pub place_row : Option ℕ → Row
place_row place = or_null number place ∷ []

places_shown : ShowsAll sent_places_text (number 1 ∷ []) place_row (λ t. map (λ e. e.place) (filter has_place t.entries))
places_shown =
    all_selected entries sent_places_text (at_least 12 0 ∷ []) (places (12 ∷ [])) (number 1 ∷ []) has_place (λ e. e.place) place_row places_is (λ i e. one (number_if_any_least e.place 1)) (λ i e. refl)

-- ---- a number for each row of the query

its_number : (o : Option ℕ) → number_in (place_row o) ≡ unwrap_or o 0
its_number None = refl
its_number (Some n) = refl

each_number : (first : ℕ) (rows : List Row) (t : Tables) → (each_edit_from (λ _ row. put_number_edit (number_in row)) first rows).after t ≡ record t { numbers = fold with_own_number t.numbers (map number_in rows) }
each_number first [] t = refl
each_number first (row ∷ rows) t = each_number (first + 1) rows ((put_number_edit (number_in row)).after t)

numbers_in : (es : List EntryRecord) → map number_in (map place_row (map (λ e. e.place) es)) ≡ map (λ e. unwrap_or e.place 0) es
numbers_in [] = refl
numbers_in (e ∷ es) = λ i. its_number e.place i ∷ numbers_in es i

-- together they are those of all sent entries
entries_numbered : (rows : List Row) (t : Tables) → rows ≡ map place_row (map (λ e. e.place) (filter has_place t.entries)) → number_entries_edit.after t ≡ (each_edit_from (λ _ row. put_number_edit (number_in row)) 1 rows).after t
entries_numbered rows t are =
    ap (λ l. record t { numbers = fold with_own_number t.numbers l }) (sym (ap (map number_in) are ∙ numbers_in (filter has_place t.entries)))
    ∙ sym (each_number 1 rows t)

abbrev each_seen : (first : ℕ) → List Row → Option Tables → Option Tables
each_seen first rows = (each_edit_from (λ _ row. if_seen (put_number_edit (number_in row))) first rows).after

none_seen : (first : ℕ) (rows : List Row) → each_seen first rows None ≡ None
none_seen first [] = refl
none_seen first (row ∷ rows) = none_seen (first + 1) rows

some_seen : (first : ℕ) (rows : List Row) (t : Tables) → each_seen first rows (Some t) ≡ Some ((each_edit_from (λ _ row. put_number_edit (number_in row)) first rows).after t)
some_seen first [] t = refl
some_seen first (row ∷ rows) t = some_seen (first + 1) rows ((put_number_edit (number_in row)).after t)

-- the rows are those of the places, where the records are known
abbrev pub ArePlaces : List Row → Option Tables → Type 0
ArePlaces rows None = ⊤
ArePlaces rows (Some t) = rows ≡ map place_row (map (λ e. e.place) (filter has_place t.entries))

pub places_seen : (old new : State) (rows : List Row) → Shown sent_places_text (number 1 ∷ []) old new rows → (o : Option Tables) → Holds seen_layout old.now o → ArePlaces rows o
places_seen old new rows shown None h = tt
places_seen old new rows shown (Some t) h = places_shown.rows t old new h rows shown

pub all_seen : (rows : List Row) (o : Option Tables) → ArePlaces rows o → (if_seen number_entries_edit).after o ≡ each_seen 1 rows o
all_seen rows None are = sym (none_seen 1 rows)
all_seen rows (Some t) are = ap Some (entries_numbered rows t are) ∙ sym (some_seen 1 rows t)
