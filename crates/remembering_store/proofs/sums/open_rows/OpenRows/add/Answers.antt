use Rattle.std.proofs.Common.{rules, arith, ◌≡◌, ◌∙◌, sym, ap, ℕ, Bool, false, Some}
use Rattle.std.specs.Prelude.{Result, Ok, Err, OnOk, is_err, if◌then◌else◌, bytes_eq}
use Rattle.std.proofs.lemmas.Grind.{common_steps}
use Rattle.std.specs.Ordering.{nat_cmp}
use Rattle.std.specs.BTreeMap.{BTreeMap, Updates}
use Rattle.std.specs.Cmp.Lexicographic.{texts_ties}
use Rattle.remembering_store.specs.KnownRow.{KnownRow}
use Rattle.remembering_store.specs.OpenRows.{order_in}
use Rattle.remembering_store.specs.ReferenceKeys.{reference_cmp}
use Rattle.remembering_store.specs.declared.sums.reference_key.ReferenceKey.{ReferenceKey}
use Rattle.remembering_store.proofs.sums.open_rows.OpenRows.add.Goals as goal

rows_updated : {T E : Type 0} (order : ℕ) (v : KnownRow) (m n : BTreeMap ℕ KnownRow) (result : Result T E) → is_err result ≡ false
    → OnOk result (Updates nat_cmp m n order (Some v)) → Updates nat_cmp m n order (Some v)
rows_updated order v m n (Ok old) ok updates = updates
rows_updated order v m n (Err back) ok updates = absurd cc

orders_updated : {T E : Type 0} (k : ReferenceKey) (v : ℕ) (m n : BTreeMap ReferenceKey ℕ) (result : Result T E) → is_err result ≡ false
    → OnOk result (Updates reference_cmp m n k (Some v)) → Updates reference_cmp m n k (Some v)
orders_updated k v m n (Ok old) ok updates = updates
orders_updated k v m n (Err back) ok updates = absurd cc

pub returns-clause-adds : goal.returns-clause-adds
returns-clause-adds c = λ done.
    let rows = rows_updated c.args.order c.args.row c.args.self.now.rows c.insert-2.new.self c.insert-2.result (sym c.is_err-2.ensures.value ∙ c.if-is_err-2.false) c.insert-2.ensures.updates in
    let orders = orders_updated (record { reference = c.row.inside.reference }) c.args.order c.args.self.now.orders c.insert.new.self c.insert.result (sym c.is_err.ensures.value ∙ c.if-is_err.false) c.insert.ensures.updates in
    record {
      absent = search rules;
      unnamed = search rules;
      puts = λ other. grind (arith, common_steps, rows.0 other);
      named = λ reference. orders.0 (record { reference = reference }) ∙ ap (λ (t : Bool). if t then Some c.args.order else order_in reference c.args.self.now) (sym (texts_ties c.row.inside.reference reference)) ∙ ap (λ (k : KnownRow). if bytes_eq k.reference reference then Some c.args.order else order_in reference c.args.self.now) c.row.view_is;
    }
