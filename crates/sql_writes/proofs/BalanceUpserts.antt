-- The statement that writes a balance, against the records of balances.
use Rattle.std.proofs.Common.{◌≡◌, ℕ, ℤ, Bool, true, false, ◌&&◌, ◌==◌, cond, List, [], ◌∷◌, Some, Ok, bytes_eq, refl, sym, ap, ap₂, ◌∙◌, Less, is_eq}
use Rattle.std.proofs.Math.Bool.{or-false}
use Rattle.std.specs.Cmp.{IsTotalOrder}
use Rattle.std.specs.List.{list_any}
use Rattle.std.specs.Ordering.{nat_cmp, ordering_then}
use Rattle.std.proofs.lemmas.Bool.{and_parts, true≢false}
use Rattle.std.proofs.lemmas.Cmp.{on_total, then_total, nat_list_cmp_total, nat_cmp_total}
use Rattle.std.proofs.lemmas.Map.Text.{is_eq-slice_cmp}
use Rattle.sqlite_tied.specs.Compute.{everything}
use Rattle.sqlite.specs.Listing.{understood}
use Rattle.sqlite.specs.State.{State, Executes}
use Rattle.sqlite_keyed.specs.Lists.{insert_sorted, update_where}
use Rattle.sqlite_rules.specs.Keys.{conflicts}
use Rattle.sqlite_value.specs.Keys.{first_key}
use Rattle.sql_statements.specs.Statements.{IsUpsert}
use Rattle.sql_statements.specs.StoredRows.{row_of, Stores}
use Rattle.sql_tables.proofs.StoredKinds.{given_stored, row_stored}
use Rattle.sql_statements.proofs.Conditions.{int_is, and_true, text_is}
use Rattle.sql_statements.proofs.KeyOrder.{rises_sorted, rises_updated}
use Rattle.sql_statements.proofs.Upserts.{upserted, put_or_update}
use Rattle.sql_statements.proofs.OneRow.{one_of}
use Rattle.sql_statements.specs.Layouts.{Holds}
use Rattle.sql_tables.specs.ByName as named
use Rattle.sql_tables.specs.Description.{as_row, form, key_cmp, table}
use Rattle.sql_tables.specs.DeskTables as the
use Rattle.sql_tables.proofs.ByName.{changed}
use Rattle.sql_tables.specs.Schema.{desk_schema}
use Rattle.desk_accounts.specs.Posting.{same_account}
use Rattle.sql_tables.specs.Beside.{is_balance_of}
use Rattle.sql_tables.specs.Columns.{account_text}
use Rattle.sql_tables.specs.KeyOrders.{IsInOrder, text_cmp}
use Rattle.sql_tables.specs.Layout.{desk_layout}
use Rattle.sql_tables.specs.TableEdits.{with_balance}
use Rattle.sql_tables.specs.Tables.{Tables, IsTableOf}
use Rattle.sql_tables.specs.declared.records.BalanceRecord.{BalanceRecord}
use Rattle.sql_query_laws.proofs.Conditions.{two}
use Rattle.sql_query_laws.proofs.LinesShown.{accounts_are}
use Rattle.sql_writes.proofs.Conditions.{number_is, same_text, same_number, equal_numbers, equal_both}
use Rattle.sql_writes.proofs.Keys.{put_in_order}
use Rattle.sql_writes.specs.LineTexts.{upsert_balance}

upsert_balance_is : IsUpsert desk_schema upsert_balance.text 11 20 (table the.balances) (1 ∷ 2 ∷ []) upsert_balance.sets
unfolding understood everything
upsert_balance_is = record { update = _; is = refl; body = refl; alone = refl; plain = (refl, refl) }

pub balance_total : IsTotalOrder (key_cmp the.balances)
balance_total = then_total (on_total (λ (b : BalanceRecord). account_text b.account) nat_list_cmp_total) (on_total (λ (b : BalanceRecord). b.value_day) nat_cmp_total)

pub equal_balances : (a b : BalanceRecord) → is_eq (key_cmp the.balances a b) ≡ is_balance_of b.account b.value_day a
equal_balances a b =
    equal_both _ _ ∙ ap₂ (λ p q. p && q) (is_eq-slice_cmp (account_text a.account) (account_text b.account) ∙ accounts_are a.account b.account) (equal_numbers a.value_day b.value_day)

module _ (n : BalanceRecord) where
  abbrev set : BalanceRecord → BalanceRecord
  set m = record m { cents = n.cents }

  abbrev is_it : BalanceRecord → Bool
  is_it = is_balance_of n.account n.value_day

  meets : (i j : ℤ) (y : BalanceRecord) → conflicts (Some (1 ∷ 2 ∷ [])) desk_schema.indexes (table the.balances) (row_of (form the.balances) (j, n)) (row_of (form the.balances) (i, y)) ≡ is_it y
  unfolding first_key
  meets i j y = or-false _ ∙ two (text_is (account_text y.account) (account_text n.account) ∙ accounts_are y.account n.account) (number_is y.value_day n.value_day)

  -- two that pass have one key
  same_key : (a b : BalanceRecord) → is_it a ≡ true → is_it b ≡ true → is_eq (key_cmp the.balances a b) ≡ true
  same_key a b here there =
      let x = and_parts (same_account a.account n.account) (a.value_day == n.value_day) here in
      let y = and_parts (same_account b.account n.account) (b.value_day == n.value_day) there in
      let text : account_text b.account ≡ account_text n.account = same_text _ _ (accounts_are b.account n.account ∙ y.0) in
      let day : b.value_day ≡ n.value_day = same_number b.value_day n.value_day y.1 in
      equal_both _ _
      ∙ ap₂ (λ p q. p && q) (is_eq-slice_cmp (account_text a.account) (account_text b.account) ∙ ap (bytes_eq (account_text a.account)) text ∙ accounts_are a.account n.account)
      (equal_numbers a.value_day b.value_day ∙ ap (λ d. a.value_day == d) day) ∙ here

  one_balance : (a b : BalanceRecord) → is_it a ≡ true → is_it b ≡ true → key_cmp the.balances a b ≡ Less → ⊥
  one_balance a b here there less = true≢false (sym (same_key a b here there) ∙ ap is_eq less)

  keeps_order : (a b : BalanceRecord) → key_cmp the.balances (cond (is_it a) (set a) a) (cond (is_it b) (set b) b) ≡ key_cmp the.balances a b
  keeps_order a b = λ i. ordering_then (text_cmp (account_text (account a i)) (account_text (account b i))) (nat_cmp (day a i) (day b i))
    where
      account : (d : BalanceRecord) → (cond (is_it d) (set d) d).account ≡ d.account
      account d = elim (is_it d) as (λ q. (cond q (set d) d).account ≡ d.account) [ true ↦ refl | false ↦ refl ]

      day : (d : BalanceRecord) → (cond (is_it d) (set d) d).value_day ≡ d.value_day
      day d = elim (is_it d) as (λ q. (cond q (set d) d).value_day ≡ d.value_day) [ true ↦ refl | false ↦ refl ]

  -- the row is in the order of its key, or stays there
  pub put_rises : (bs : List BalanceRecord) → IsInOrder (key_cmp the.balances) bs → IsInOrder (key_cmp the.balances) (with_balance n.account n.value_day n.cents bs)
  put_rises bs rise = go (list_any is_it bs) refl
    where
      go : (b : Bool) → list_any is_it bs ≡ b → IsInOrder (key_cmp the.balances) (cond b (update_where is_it set bs) (insert_sorted (key_cmp the.balances) n bs))
      go true e = rises_updated (key_cmp the.balances) is_it set keeps_order bs rise
      go false e = rises_sorted (key_cmp the.balances) balance_total n bs ((λ i. list_any (λ y. equal_balances y n i) bs) ∙ e) rise

  pub balance_put : (old new : State) (count : ℕ) → Executes upsert_balance.text (as_row the.balances n) old new (Ok count) → (t : Tables) → Holds desk_layout old.now t
      → Holds desk_layout new.now (record t { balances = with_balance n.account n.value_day n.cents t.balances })
  balance_put old new count ran t h =
      let s = table the.balances in
      let done = upserted (as_row the.balances) desk_schema 11 20 s.name s.columns s.primary s.uniques s.orders upsert_balance.text (1 ∷ 2 ∷ []) upsert_balance.sets upsert_balance_is refl (λ olds news. refl)
      n refl (given_stored the.balances n) (row_stored the.balances) is_it set meets (λ i j k y. and_true _ ∙ int_is i j) (λ i j k y. refl)
      old new count h.0 t.balances (h.1.stands named.balances).stored (one_of _ is_it one_balance t.balances (h.1.stands named.balances).rise) ran in
      (done.0.schema_is, changed named.balances old.now.trees new.now.trees t h.1 done.0.others _ (sorted (list_any is_it t.balances) refl done.1))
    where
      sorted : (b : Bool) → list_any is_it t.balances ≡ b → Stores (form the.balances) (new.now.trees 20) (put_or_update is_it set n t.balances) → IsTableOf new.now.trees (table the.balances) (form the.balances) (key_cmp the.balances) (with_balance n.account n.value_day n.cents t.balances)
      sorted true e stores = rw e (record { stored = rw e at stores; rise = rises_updated (key_cmp the.balances) is_it set keeps_order t.balances (h.1.stands named.balances).rise })
      sorted false e stores = rw e (put_in_order (form the.balances) (key_cmp the.balances) balance_total is_it new.now.trees (table the.balances) n t.balances (λ y. equal_balances y n) e (h.1.stands named.balances).rise (rw e at stores))
