-- The held submissions of all companies.
use Rattle.std.proofs.Common.{◌≡◌, ℕ, List, map, filter, find, Option, Some, None, option_map, refl, sym, ap, ◌∙◌}
use Rattle.std.specs.Prelude.{option_and_then}
use Rattle.std.specs.List.{flat_map}
use Rattle.sqlite_keyed.proofs.ListLemmas.{map_same, flat_map_same_on}
use Rattle.desk_rules.specs.declared.bodies.company.Company.{Company}
use Rattle.desk_rules.specs.declared.bodies.submission.Retry.{Retry}
use Rattle.desk_book.specs.declared.row.Row.{Row}
use Rattle.desk_book.specs.Reads.{waiting_of, waiting, held_submission}
use Rattle.desk_book.specs.Standing.{is_held, row_under, original_of_row}
use Rattle.desk_store.specs.Rows.{CompanyRow, Rows, flat_book}
use Rattle.sql_tables.specs.Description.{key_cmp}
use Rattle.sql_tables.specs.DeskTables as the
use Rattle.sql_tables.specs.Encodes.{Encodes, submission_record, is_submission_under}
use Rattle.sql_tables.specs.KeyOrders.{IsInOrder}
use Rattle.sql_tables.specs.Selected.{order_of}
use Rattle.sql_tables.specs.TableReads.{order_in, is_under, is_waiting_of}
use Rattle.sql_tables.specs.Tables.{Tables}
use Rattle.sql_tables.specs.Composed.{original_in, held_in, waiting_of_in, waiting_in}
use Rattle.sql_read_laws.proofs.CompanyRows.{row_under_of, rows_of}
use Rattle.sql_read_laws.proofs.FoundRows.{rows_found, record_found}

then-map : {X Y Z : Type 0} (g : Y → Option Z) (f : X → Y) (o : Option X) → option_and_then g (option_map f o) ≡ option_and_then (λ x. g (f x)) o
then-map g f None = refl
then-map g f (Some x) = refl

module _ (t : Tables) (r : Rows) (e : Encodes t r) where
  settled_found : (c reference : List ℕ) → option_and_then (λ original. original.settled) (order_in c reference t) ≡ option_and_then (λ (row : Row). row.settled) (row_under ((flat_book r).rows c) reference)
  settled_found c reference =
      ap (option_and_then (λ original. original.settled)) (record_found t r e order_of (is_under c reference))
      ∙ then-map (λ original. original.settled) (λ x. order_of (submission_record r.printed x)) (find (is_submission_under c reference) r.submissions)
      ∙ sym (then-map (λ (row : Row). row.settled) (λ (x : CompanyRow). x.row) (find (is_submission_under c reference) r.submissions))
      ∙ ap (option_and_then (λ (row : Row). row.settled)) (row_under_of r.submissions c reference)

  original_found : (c : List ℕ) (retry : Option Retry) → original_in c retry t ≡ original_of_row ((flat_book r).rows c) retry
  original_found c None = refl
  original_found c (Some retry) = settled_found c retry.of

  pub waiting_of_found : IsInOrder (key_cmp the.submissions) t.submissions → (k : Company) → waiting_of_in k t ≡ waiting_of k (flat_book r)
  waiting_of_found rise k =
      ap (map (held_in k t)) (rows_found t r e rise (is_waiting_of k.id) ∙ rows_of r.submissions k.id is_held)
      ∙ map_same (held_in k t) (held_submission k ((flat_book r).rows k.id)) (λ row i. record { company = k; row = row; original_settled = original_found k.id row.retry i }) (filter is_held ((flat_book r).rows k.id))

  pub waiting_found : IsInOrder (key_cmp the.submissions) t.submissions → waiting_in t ≡ waiting (flat_book r)
  waiting_found rise =
      ap (flat_map (λ (k : Company). waiting_of_in k t)) e.companies
      ∙ flat_map_same_on (λ (k : Company). waiting_of_in k t) (λ k. waiting_of k (flat_book r)) (waiting_of_found rise) r.companies
