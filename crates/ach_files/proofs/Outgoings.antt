-- Sums of what is to be printed.
use Rattle.std.proofs.Common.{sym, ap, ◌∙◌, ◌≡◌, ℕ, ◌+◌, ◌%◌, ◌^◌, ◌<◌, List, length, take, get_or, refl, arith}
use Rattle.std.specs.Prelude.{min}
use Rattle.std.proofs.lemmas.List.Sums.{sum_by_more}
use Rattle.ach_files.specs.Totals.{low_digits}
use Rattle.ach_files.specs.ReaderState.{joint_sums, with_low_hash}
use Rattle.ach_files.specs.declared.sums.Sums.{Sums}
use Rattle.ach_files.specs.declared.outgoing.OutgoingEntry.{OutgoingEntry}
use Rattle.ach_files.specs.declared.outgoing.OutgoingBatch.{OutgoingBatch}
use Rattle.ach_files.specs.Outgoing.{entry_sums, batch_sums, file_sums, sums_in, capped_sums, sums_cap, entry_count, debit_cents, credit_cents}
use Rattle.ach_files.proofs.Adding.{same_sums}

min_add : (a b m : ℕ) → min (min a m + min b m) m ≡ min (a + b) m
min_add a b m = omega arith

low_add : (a b : ℕ) → (low_digits a % 10 ^ 10 + low_digits b % 10 ^ 10) % 10 ^ 10 ≡ low_digits (a + b)
low_add a b = omega arith

pub kept_added : (a b x y : Sums) → a ≡ capped_sums x → b ≡ capped_sums y →
    let s : Sums = record { count = min (a.count + b.count) sums_cap; hash = (a.hash % 10 ^ 10 + b.hash % 10 ^ 10) % 10 ^ 10; debits = min (a.debits + b.debits) sums_cap; credits = min (a.credits + b.credits) sums_cap } in
    s ≡ capped_sums (joint_sums x y)
unfolding capped_sums
kept_added a b x y e f = rw (e, f) (same_sums _ _ _ _ _ _ _ _ (min_add x.count y.count sums_cap) (low_add x.hash y.hash) (min_add x.debits y.debits sums_cap) (min_add x.credits y.credits sums_cap))

entries_at : (entries : List OutgoingEntry) (i : ℕ) (d : OutgoingEntry) → i < length entries → batch_sums (take (i + 1) entries) ≡ joint_sums (batch_sums (take i entries)) (entry_sums (get_or entries i d))
unfolding batch_sums entry_sums
entries_at entries i d lt = same_sums _ _ _ _ _ _ _ _
    (sum_by_more entry_count entries i d lt)
    (sum_by_more (λ (e : OutgoingEntry). e.dfi) entries i d lt)
    (sum_by_more debit_cents entries i d lt)
    (sum_by_more credit_cents entries i d lt)

batches_at : (batches : List OutgoingBatch) (i : ℕ) (d : OutgoingBatch) → i < length batches → file_sums (take (i + 1) batches) ≡ joint_sums (file_sums (take i batches)) (with_low_hash (sums_in (get_or batches i d)))
unfolding file_sums
batches_at batches i d lt = same_sums _ _ _ _ _ _ _ _
    (sum_by_more (λ (b : OutgoingBatch). (sums_in b).count) batches i d lt)
    (sum_by_more (λ (b : OutgoingBatch). low_digits (sums_in b).hash) batches i d lt)
    (sum_by_more (λ (b : OutgoingBatch). (sums_in b).debits) batches i d lt)
    (sum_by_more (λ (b : OutgoingBatch). (sums_in b).credits) batches i d lt)

pub kept_lowered : (s : Sums) → capped_sums s ≡ capped_sums (with_low_hash s)
unfolding capped_sums
kept_lowered s = same_sums _ _ _ _ _ _ _ _ refl (omega arith) refl refl

-- one entry more
pub entries_more : (entries : List OutgoingEntry) (i : ℕ) (e : OutgoingEntry) → i < length entries → e ≡ get_or entries i e → batch_sums (take (i + 1) entries) ≡ joint_sums (batch_sums (take i entries)) (entry_sums e)
entries_more entries i e lt is = entries_at entries i e lt ∙ ap (λ (x : OutgoingEntry). joint_sums (batch_sums (take i entries)) (entry_sums x)) (sym is)

-- one batch more
pub batches_more : (batches : List OutgoingBatch) (i : ℕ) (b : OutgoingBatch) → i < length batches → b ≡ get_or batches i b → file_sums (take (i + 1) batches) ≡ joint_sums (file_sums (take i batches)) (with_low_hash (sums_in b))
batches_more batches i b lt is = batches_at batches i b lt ∙ ap (λ (x : OutgoingBatch). joint_sums (file_sums (take i batches)) (with_low_hash (sums_in x))) (sym is)
