-- The statements of companies, against their records.
use Rattle.std.proofs.Common.{◌≡◌, ℕ, ℤ, cond, map, true, false, List, [], ◌∷◌, None, Ok, refl, ap, ◌∙◌, bytes_eq}
use Rattle.std.specs.Cmp.{IsTotalOrder}
use Rattle.std.proofs.lemmas.Cmp.{on_total, nat_list_cmp_total}
use Rattle.std.proofs.lemmas.Map.Text.{is_eq-slice_cmp}
use Rattle.sqlite_tied.specs.Compute.{everything}
use Rattle.sqlite.specs.Listing.{understood}
use Rattle.sqlite_value.specs.Keys.{first_key, plain}
use Rattle.sqlite_schema.specs.Rules.{agree}
use Rattle.sqlite.specs.State.{State, Executes}
use Rattle.sqlite_keyed.specs.Lists.{insert_sorted}
use Rattle.sqlite_value.specs.declared.value.Value.TheVariants.{Text}
use Rattle.sql_statements.specs.StoredRows.{row_of}
use Rattle.sql_statements.proofs.KeyOrder.{rises_updated}
use Rattle.sql_statements.proofs.Conditions.{text_is, and_true}
use Rattle.sql_statements.specs.Layouts.{Holds}
use Rattle.sql_tables.specs.ByName as named
use Rattle.sql_tables.specs.Description.{as_row, form, key_cmp, table}
use Rattle.sql_tables.specs.Schema.{desk_schema}
use Rattle.desk_history.specs.Operator.{has_id}
use Rattle.desk_history.specs.History.{with_limits}
use Rattle.desk_rules.specs.declared.bodies.company.Company.{Company}
use Rattle.desk_rules.specs.declared.bodies.company.Limits.{Limits}
use Rattle.sql_tables.specs.Columns.{number}
use Rattle.sql_tables.specs.KeyOrders.{text_cmp}
use Rattle.sql_tables.specs.Layout.{desk_layout}
use Rattle.sql_tables.specs.TableReads.{company_in}
use Rattle.sql_tables.specs.Tables.{Tables}
use Rattle.sql_writes.proofs.Puts.{Inserts, holds_with, one_put, IsUpdateOf, PutsOne, rows_updated}
use Rattle.sql_writes.specs.Texts.{insert_company, update_limits}
use Rattle.sql_writes.proofs.Conditions.{same_text, text_itself, taken_first}
use Rattle.sql_writes.proofs.Keys.{find_none, key_free, put_in_order}
use Rattle.sql_tables.specs.DeskTables as the

insert_company_is : Inserts named.companies insert_company 1
unfolding understood everything
insert_company_is = record { is = refl; plain = (refl, refl) }

puts_company : PutsOne named.companies
puts_company = record { is = insert_company_is; full = refl }

company_total : IsTotalOrder (key_cmp the.companies)
company_total = on_total (λ (k : Company). k.id) nat_list_cmp_total

same_id : (id : List ℕ) (a b : ℤ × Company) → has_id id a.1 ≡ true → has_id id b.1 ≡ true → agree plain (1 ∷ []) (row_of (form the.companies) b) (1 ∷ []) (row_of (form the.companies) a) ≡ true
unfolding first_key
same_id id a b here there = and_true _ ∙ text_is b.1.id a.1.id ∙ ap (bytes_eq b.1.id) (same_text a.1.id id here) ∙ there

pub company_put : (k : Company) (old new : State) (count : ℕ) → Executes insert_company (as_row the.companies k) old new (Ok count) → (t : Tables) → Holds desk_layout old.now t
    → Holds desk_layout new.now (record t { companies = insert_sorted (key_cmp the.companies) k t.companies }) × (company_in k.id t ≡ None)
company_put k old new count ran t h =
    let s = table the.companies in
    let made = one_put named.companies puts_company k old new count ran t h in
    let free = key_free (form the.companies) desk_schema s (1 ∷ []) (has_id k.id) (same_id k.id) (λ db row any. taken_first _ _ any) new.now.trees k t.companies (text_itself k.id) made.has.stored made.unique in (
      holds_with named.companies _ h made.has (put_in_order (form the.companies) (key_cmp the.companies) company_total (has_id k.id) new.now.trees s k t.companies (λ y. is_eq-slice_cmp y.id k.id) free (h.1.stands named.companies).rise made.has.stored),
      find_none (has_id k.id) t.companies free,
    )

update_limits_is : IsUpdateOf named.companies update_limits
unfolding understood everything
update_limits_is = record { is = record { updates = refl; body = refl; alone = refl; plain = (refl, refl) } }

pub limits_put : (id : List ℕ) (limits : Limits) (old new : State) (count : ℕ) → Executes update_limits.text (Text id ∷ number limits.entry ∷ number limits.credit ∷ number limits.debit ∷ []) old new (Ok count)
    → (t : Tables) → Holds desk_layout old.now t → Holds desk_layout new.now (record t { companies = map (with_limits id limits) t.companies })
limits_put id limits old new count ran t h =
    let set : Company → Company = λ k. record k { limits = limits } in
    let kept : (k : Company) → (cond (has_id id k) (set k) k).id ≡ k.id = λ k. elim (has_id id k) as (λ b. (cond b (set k) k).id ≡ k.id) [ true ↦ refl | false ↦ refl ] in
    let made = rows_updated named.companies update_limits (Text id ∷ number limits.entry ∷ number limits.credit ∷ number limits.debit ∷ []) (has_id id) (λ i k. and_true _ ∙ text_is k.id id) old new count ran t h update_limits_is refl set (λ i k _. refl) in
    holds_with named.companies _ h made.0 (record { stored = made.0.stored; rise = rises_updated (key_cmp the.companies) (has_id id) set (λ a b. λ i. text_cmp (kept a i) (kept b i)) t.companies (h.1.stands named.companies).rise })
