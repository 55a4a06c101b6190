-- If there is no fault, each row has a text, the controls too.
use Rattle.std.proofs.Common.{◌≡◌, ℕ, ◌+◌, ◌*◌, ◌^◌, ◌<◌, ◌≤◌, Bool, true, false, ◌&&◌, ◌||◌, List, [], ◌∷◌, length, refl, sym, ◌∙◌, arith, inl, inr, Some}
use Rattle.std.specs.Prelude.{nat_lt, nat_le, min}
use Rattle.std.specs.List.{list_all, list_any, flat_map}
use Rattle.std.proofs.lemmas.Bool.{and_parts, and_from, lt-ltb, ltb-false, cases_lt, le-ltb}
use Rattle.std.proofs.lemmas.List.Sums.{sum_by-cons}
use Rattle.ach_records.specs.Print.{row_fits, batch_header_row, batch_control_row, file_control_row, file_header_row}
use Rattle.ach_records.specs.declared.print.BatchHeaderText.{BatchHeaderText}
use Rattle.ach_records.specs.declared.print.FileControlText.{FileControlText}
use Rattle.ach_files.specs.Totals.{low_digits, blocks}
use Rattle.ach_files.specs.declared.outgoing.OutgoingEntry.{OutgoingEntry}
use Rattle.ach_files.specs.declared.outgoing.OutgoingBatch.{OutgoingBatch}
use Rattle.ach_files.specs.declared.outgoing.Outgoing.{Outgoing}
use Rattle.ach_files.specs.declared.outgoing.PrintFault.TheVariants as faults
use Rattle.ach_files.specs.declared.sums.Sums.{Sums}
use Rattle.ach_files.specs.Outgoing.{entry_rows, entry_fits, batch_fits, batch_rows, batch_control, file_control, outgoing_rows, fields_fit, is_large, is_long_batch, has_many, sums_in, sums_of, file_sums, main_count, print_fault, AllFit, capped_sums, sums_cap}
use Rattle.ach_records.proofs.Texts.{fit_in}
use Rattle.ach_files.proofs.Pages.{fit_both, around_fit}

pub either : (a b : Bool) → (a || b) ≡ false → (a ≡ false) × (b ≡ false)
either false b h = (refl, h)
either true b h = absurd cc

pub below : (n m : ℕ) → n < m → nat_lt n m ≡ true
below n m lt = lt-ltb n m lt

pub entries_fit : (entries : List OutgoingEntry) → list_all entry_fits entries ≡ true → AllFit (flat_map entry_rows entries)
unfolding entry_fits
entries_fit [] h = refl
entries_fit (e ∷ es) h = let p = and_parts _ _ h in fit_both (entry_rows e) (flat_map entry_rows es) p.0 (entries_fit es p.1)

record HeaderFits (h : BatchHeaderText) : Type 0 where
  pub service : nat_lt h.service_class (10 ^ 3) ≡ true
  pub company : (nat_le (length h.company.now) 10 && list_all Rattle.ach_fields.specs.Characters.is_printable h.company.now) ≡ true
  pub odfi : nat_lt h.odfi (10 ^ 8) ≡ true
  pub number : nat_lt h.number (10 ^ 7) ≡ true

header_fits : (h : BatchHeaderText) → row_fits (batch_header_row h) ≡ true → HeaderFits h
header_fits h fits =
    let row = batch_header_row h in
    record { service = fit_in row 1 fits; company = fit_in row 4 fits; odfi = fit_in row 11 fits; number = fit_in row 12 fits }

control_row_fits : (b : OutgoingBatch) → row_fits (batch_header_row b.header) ≡ true → (sums_in b).count ≤ 999999 → (sums_in b).debits ≤ 999999999999 → (sums_in b).credits ≤ 999999999999 → row_fits (batch_control_row (batch_control b)) ≡ true
unfolding row_fits
control_row_fits b fits count debits credits =
    let h = header_fits b.header fits in
    let c : nat_lt (sums_in b).count (10 ^ 6) ≡ true = below _ _ (omega arith) in
    let g : nat_lt (low_digits (sums_in b).hash) (10 ^ 10) ≡ true = below _ _ (omega arith) in
    let d : nat_lt (sums_in b).debits (10 ^ 12) ≡ true = below _ _ (omega arith) in
    let e : nat_lt (sums_in b).credits (10 ^ 12) ≡ true = below _ _ (omega arith) in
    and_from _ _ h.service (and_from _ _ c (and_from _ _ g (and_from _ _ d (and_from _ _ e (and_from _ _ h.company (and_from _ _ h.odfi (and_from _ _ h.number refl)))))))

pub file_row_fits : (c : FileControlText) → c.batches < 10 ^ 6 → c.blocks < 10 ^ 6 → c.count < 10 ^ 8 → c.hash < 10 ^ 10 → c.debits < 10 ^ 12 → c.credits < 10 ^ 12 → row_fits (file_control_row c) ≡ true
unfolding row_fits
file_row_fits c p q r s t u = and_from _ _ (below _ _ p) (and_from _ _ (below _ _ q) (and_from _ _ (below _ _ r) (and_from _ _ (below _ _ s) (and_from _ _ (below _ _ t) (and_from _ _ (below _ _ u) refl)))))

pub batch_rows_fit : (b : OutgoingBatch) → batch_fits b ≡ true → (sums_in b).count ≤ 999999 → (sums_in b).debits ≤ 999999999999 → (sums_in b).credits ≤ 999999999999 → AllFit (batch_rows b)
unfolding batch_fits batch_rows
batch_rows_fit b h count debits credits =
    let p = and_parts _ _ h in
    around_fit (batch_header_row b.header) (batch_control_row (batch_control b)) (flat_map entry_rows b.entries.now) p.0 (entries_fit b.entries.now p.1) (control_row_fits b p.0 count debits credits)

batches_fit : (bs : List OutgoingBatch) → list_all batch_fits bs ≡ true → list_any is_long_batch bs ≡ false → (file_sums bs).debits ≤ 999999999999 → (file_sums bs).credits ≤ 999999999999 → AllFit (flat_map batch_rows bs)
unfolding file_sums
batches_fit [] h few debits credits = refl
batches_fit (b ∷ bs) h few debits credits =
    let p = and_parts _ _ h in
    let q = either (is_long_batch b) (list_any is_long_batch bs) few in
    let d = sum_by-cons (λ (c : OutgoingBatch). (sums_in c).debits) b bs in
    let e = sum_by-cons (λ (c : OutgoingBatch). (sums_in c).credits) b bs in
    fit_both (batch_rows b) (flat_map batch_rows bs)
    (batch_rows_fit b p.0 (ltb-false _ _ q.0) (omega (arith, d, debits)) (omega (arith, e, credits)))
    (batches_fit bs p.1 q.1 (omega (arith, d, debits)) (omega (arith, e, credits)))

pub rows_fit : (o : Outgoing) → fields_fit o ≡ true → is_large (sums_of o) ≡ false → has_many o ≡ false → AllFit (outgoing_rows o)
unfolding fields_fit has_many outgoing_rows main_count
rows_fit o fields large many =
    let p = and_parts _ _ fields in
    let l = either _ _ large in
    let m = either _ _ many in
    let n = either _ _ m.1 in
    let debits : (sums_of o).debits ≤ 999999999999 = ltb-false _ _ l.0 in
    let credits : (sums_of o).credits ≤ 999999999999 = ltb-false _ _ l.1 in
    let batches : length o.batches.now ≤ 999999 = ltb-false _ _ n.0 in
    let long : blocks (2 + 2 * length o.batches.now + (sums_of o).count) ≤ 999999 = ltb-false _ _ n.1 in
    around_fit (file_header_row o.header) (file_control_row (file_control o)) (flat_map batch_rows o.batches.now) p.0
    (batches_fit o.batches.now p.1 m.0 debits credits)
    (file_row_fits (file_control o) (omega arith) (omega arith) (omega arith) (omega arith) (omega arith) (omega arith))

pub fault_field : (o : Outgoing) → fields_fit o ≡ false → print_fault o ≡ Some faults.BadField
unfolding print_fault
fault_field o p = rw p refl

pub fault_large : (o : Outgoing) → fields_fit o ≡ true → is_large (sums_of o) ≡ true → print_fault o ≡ Some faults.TotalTooLarge
unfolding print_fault
fault_large o p q = rw (p, q) refl

pub fault_many : (o : Outgoing) → fields_fit o ≡ true → is_large (sums_of o) ≡ false → has_many o ≡ true → print_fault o ≡ Some faults.TooManyRecords
unfolding print_fault
fault_many o p q r = rw (p, q, r) refl

capped_large : (n : ℕ) → nat_lt 999999999999 (min n sums_cap) ≡ nat_lt 999999999999 n
capped_large n =
    elim (cases_lt 999999999999 n) [
      | inl lt ↦ lt-ltb 999999999999 (min n sums_cap) (omega arith) ∙ sym (lt-ltb 999999999999 n lt)
      | inr le ↦ le-ltb 999999999999 (min n sums_cap) (omega arith) ∙ sym (le-ltb 999999999999 n le)
    ]

pub large_kept : (s x : Sums) → s ≡ capped_sums x → is_large s ≡ is_large x
unfolding capped_sums
large_kept s x e = rw (e, capped_large x.debits, capped_large x.credits) refl
