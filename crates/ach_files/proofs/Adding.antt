-- The running sums are the sums over the lists.
use Rattle.std.proofs.Common.{◌≡◌, ℕ, ◌+◌, Bool, true, false, cond, List, [], ◌∷◌, ◌++◌, arith, length-append}
use Rattle.std.proofs.lemmas.List.Sums.{sum_by_push}
use Rattle.ach_records.specs.Record.{entry_dfi}
use Rattle.ach_files.specs.Structure.{Item, Batch}
use Rattle.ach_files.specs.Totals.{sums_of_items, sums_of_batches, debit_of, credit_of, low_digits}
use Rattle.ach_files.specs.RecordFault.{pending_entry_of}
use Rattle.ach_files.specs.ReaderState.{joint_sums, with_low_hash, item_sums}
use Rattle.ach_files.specs.declared.sums.Sums.{Sums}

pub split_cents : (is_debit : Bool) (cents : ℕ) → cond is_debit cents 0 + cond is_debit 0 cents ≡ cents
split_cents true cents = omega arith
split_cents false cents = omega arith

pub same_sums : (a b c d a2 b2 c2 d2 : ℕ) → a ≡ a2 → b ≡ b2 → c ≡ c2 → d ≡ d2 →
    let s : Sums = record { count = a; hash = b; debits = c; credits = d } in s ≡ record { count = a2; hash = b2; debits = c2; credits = d2 }
same_sums a b c d a2 b2 c2 d2 e f g h = cc

pub items_push : (items : List Item) (i : Item) → sums_of_items (items ++ i ∷ []) ≡ joint_sums (sums_of_items items) (item_sums (pending_entry_of i.entry))
unfolding sums_of_items
items_push items i = same_sums _ _ _ _ _ _ _ _
    (omega (arith, length-append items (i ∷ [])))
    (sum_by_push (λ (j : Item). entry_dfi j.entry) items i)
    (sum_by_push debit_of items i)
    (sum_by_push credit_of items i)

pub batches_push : (batches : List Batch) (b : Batch) → sums_of_batches (batches ++ b ∷ []) ≡ joint_sums (sums_of_batches batches) (with_low_hash (sums_of_items b.items))
unfolding sums_of_batches
batches_push batches b = same_sums _ _ _ _ _ _ _ _
    (sum_by_push (λ (c : Batch). (sums_of_items c.items).count) batches b)
    (sum_by_push (λ (c : Batch). low_digits (sums_of_items c.items).hash) batches b)
    (sum_by_push (λ (c : Batch). (sums_of_items c.items).debits) batches b)
    (sum_by_push (λ (c : Batch). (sums_of_items c.items).credits) batches b)
