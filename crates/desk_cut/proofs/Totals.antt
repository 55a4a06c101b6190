-- The totals and counts of what a cut sends are such as a file has.
use Rattle.std.proofs.Common.{◌≡◌, ◌≤◌, ◌+◌, ◌∙◌, ℕ, Bool, true, false, List, [], ◌∷◌, map, length, Option, Some, None, suc, refl, ap, sym, arith, inl, inr}
use Rattle.std.specs.Prelude.{nat_le, sum_by, if◌then◌else◌, ◌%◌}
use Rattle.std.specs.List.{enumerate_from, list_any}
use Rattle.std.proofs.lemmas.Bool.{and_parts, leb-true, le-ltb}
use Rattle.std.proofs.lemmas.List.{length-map}
use Rattle.std.proofs.lemmas.List.FromFn.{length-enumerate_from}
use Rattle.std.proofs.lemmas.List.Sums.{sum_by-cons}
use Rattle.ach_fields.specs.Cents.{most_cents}
use Rattle.ach_files.specs.declared.outgoing.Outgoing.{Outgoing}
use Rattle.ach_files.specs.declared.outgoing.OutgoingBatch.{OutgoingBatch}
use Rattle.ach_files.specs.declared.outgoing.OutgoingEntry.{OutgoingEntry}
use Rattle.ach_files.specs.declared.outgoing.PrintFault.{PrintFault}
use Rattle.ach_files.specs.declared.outgoing.PrintFault.TheVariants as faults
use Rattle.ach_files.specs.declared.print.printer.Printer.{Printer}
use Rattle.ach_files.specs.declared.sums.Sums.{Sums}
use Rattle.ach_files.specs.Limits.{six_digits}
use Rattle.ach_files.specs.Outgoing.{addenda_rows, entry_rows, entry_count, debit_cents, credit_cents, batch_sums, file_sums, sums_in, sums_of, is_large, is_long_batch, has_many, main_count, batch_fits, batch_fault, print_fault, TellsPrint}
use Rattle.ach_files.specs.Printing.{HasPrinted}
use Rattle.ach_files.specs.Totals.{blocks}
use Rattle.ach_files.proofs.Printing.{fit_by, fault_of_totals}
use Rattle.desk_plan.specs.declared.batch.Batch as plan
use Rattle.desk_plan.specs.Files.{fits}
use Rattle.desk_rules.specs.declared.bodies.submission.Entry.{Entry}
use Rattle.desk_rules.specs.Size.{total_of}
use Rattle.desk_history.specs.declared.identity.Identity.{Identity}
use Rattle.desk_history.specs.Files.{File, outgoing, outgoing_batch, outgoing_entry, payment}
use Rattle.desk_history.specs.Resolve.{is_savings}
use Rattle.desk_history.specs.Sendings.{NumberedBatch, entries_in, is_debit_sending, plan_of, records_of, sent_entry}
use Rattle.desk_cut.specs.Plain.{plain_batch}
use Rattle.desk_cut.specs.Sendable.{IsSendable, AreSendable}
use Rattle.desk_cut.proofs.Plain.{sums_same}

-- ---- the sums of a batch

-- what entries add up to as they are printed, by what each adds
entries_summed : (f : OutgoingEntry → ℕ) (g : Entry → ℕ) (odfi : List ℕ) (b : NumberedBatch) → ((i : ℕ) (e : Entry) → f (outgoing_entry odfi (sent_entry b i e)) ≡ g e)
    → (n : ℕ) (es : List Entry) → sum_by f (map (outgoing_entry odfi) (map (λ x. sent_entry b x.0 x.1) (enumerate_from n es))) ≡ sum_by g es
entries_summed f g odfi b same n [] = refl
entries_summed f g odfi b same n (e ∷ es) =
    sum_by-cons f (outgoing_entry odfi (sent_entry b n e)) (map (outgoing_entry odfi) (map (λ x. sent_entry b x.0 x.1) (enumerate_from (n + 1) es)))
    ∙ (λ i. same n e i + entries_summed f g odfi b same (n + 1) es i)
    ∙ sym (sum_by-cons g e es)

-- the last digit of a transaction code gives its direction
told : (savings debit prenote : Bool) → nat_le 5 (((if savings then 32 else 22) + (if debit then 5 else 0) + (if prenote then 1 else 0)) % 10) ≡ debit
told true true true = refl
told true true false = refl
told true false true = refl
told true false false = refl
told false true true = refl
told false true false = refl
told false false true = refl
told false false false = refl

counted : (trace : List ℕ) (info : Option (List ℕ)) → suc (length (addenda_rows trace (payment info))) ≡ records_of info
counted trace None = refl
counted trace (Some info) = refl

entry_counted : (odfi : List ℕ) (b : NumberedBatch) (i : ℕ) (e : Entry) → entry_count (outgoing_entry odfi (sent_entry b i e)) ≡ records_of e.info
unfolding entry_rows
entry_counted odfi b i e = counted (outgoing_entry odfi (sent_entry b i e)).trace e.info

nothing : (es : List Entry) → sum_by (λ e. 0) es ≡ 0
nothing [] = refl
nothing (e ∷ es) = let rest = nothing es in let more = sum_by-cons (λ (e : Entry). 0) e es in omega (arith, rest, more)

debits_if : (debit : Bool) (es : List Entry) → sum_by (λ e. if debit then e.cents else 0) es ≡ (if debit then total_of es else 0)
debits_if true es = refl
debits_if false es = nothing es

credits_if : (debit : Bool) (es : List Entry) → sum_by (λ e. if debit then 0 else e.cents) es ≡ (if debit then 0 else total_of es)
credits_if true es = nothing es
credits_if false es = refl

-- a batch takes of its file what was planned
pub record Takes (s : Sums) (b : plan.Batch) : Type 0 where
  pub count : s.count ≡ b.records
  pub debits : s.debits ≡ b.debits
  pub credits : s.credits ≡ b.credits

pub taken : (odfi : List ℕ) (x : ℕ × NumberedBatch) → Takes (sums_in (outgoing_batch odfi x)) (plan_of x.1.sending)
unfolding batch_sums
taken odfi x =
    let b = x.1 in
    let es = entries_in b.sending in
    let debit = is_debit_sending b.sending in
    record {
      count = entries_summed entry_count (λ e. records_of e.info) odfi b (entry_counted odfi b) 1 es;
      debits =
          entries_summed debit_cents (λ e. if debit then e.cents else 0) odfi b (λ i e. ap (λ (d : Bool). if d then e.cents else 0) (told (is_savings e.kind) debit e.prenote)) 1 es
          ∙ debits_if debit es;
      credits =
          entries_summed credit_cents (λ e. if debit then 0 else e.cents) odfi b (λ i e. ap (λ (d : Bool). if d then 0 else e.cents) (told (is_savings e.kind) debit e.prenote)) 1 es
          ∙ credits_if debit es;
    }

-- ---- a batch

small : (s : Sums) → s.debits ≤ most_cents → s.credits ≤ most_cents → is_large s ≡ false
small s debits credits = rw (le-ltb most_cents s.debits debits, le-ltb most_cents s.credits credits) refl

no_fault : (b : OutgoingBatch) → batch_fits b ≡ true → is_large (sums_in b) ≡ false → is_long_batch b ≡ false → batch_fault b ≡ None
unfolding batch_fault
no_fault b fit large long = rw (fit, large, long) refl

-- a batch prints, by what its slices hold
pub batch_prints : (odfi : List ℕ) (x : ℕ × NumberedBatch) (b : OutgoingBatch) → plain_batch b ≡ outgoing_batch odfi x → IsSendable x.1 → batch_fits b ≡ true → batch_fault b ≡ None
batch_prints odfi x b is sendable fit =
    let sums : sums_in b ≡ sums_in (outgoing_batch odfi x) = sym (sums_same b) ∙ ap sums_in is in
    let takes = taken odfi x in
    let debits : (sums_in b).debits ≡ (plan_of x.1.sending).debits = ap (λ (s : Sums). s.debits) sums ∙ takes.debits in
    let credits : (sums_in b).credits ≡ (plan_of x.1.sending).credits = ap (λ (s : Sums). s.credits) sums ∙ takes.credits in
    let count : (sums_in b).count ≡ (plan_of x.1.sending).records = ap (λ (s : Sums). s.count) sums ∙ takes.count in
    let most_debits = sendable.taken.debits in
    let most_credits = sendable.taken.credits in
    let most_records = sendable.taken.records in
    no_fault b fit
    (small (sums_in b) (omega (arith, debits, most_debits)) (omega (arith, credits, most_credits)))
    (le-ltb six_digits (sums_in b).count (omega (arith, count, most_records)))

-- ---- a file

batches_summed : (f : Sums → ℕ) (g : plan.Batch → ℕ) (odfi : List ℕ) → ((s : Sums) (b : plan.Batch) → Takes s b → f s ≡ g b) → (n : ℕ) (bs : List NumberedBatch)
    → sum_by (λ b. f (sums_in b)) (map (outgoing_batch odfi) (enumerate_from n bs)) ≡ sum_by g (map (λ b. plan_of b.sending) bs)
batches_summed f g odfi same n [] = refl
batches_summed f g odfi same n (b ∷ bs) =
    sum_by-cons (λ b. f (sums_in b)) (outgoing_batch odfi (n, b)) (map (outgoing_batch odfi) (enumerate_from (n + 1) bs))
    ∙ (λ i. same (sums_in (outgoing_batch odfi (n, b))) (plan_of b.sending) (taken odfi (n, b)) i + batches_summed f g odfi same (n + 1) bs i)
    ∙ sym (sum_by-cons g (plan_of b.sending) (map (λ (b : NumberedBatch). plan_of b.sending) bs))

pub record Holds (bs : List NumberedBatch) : Type 0 where
  pub debits : sum_by (λ b. b.debits) (map (λ b. plan_of b.sending) bs) ≤ most_cents
  pub credits : sum_by (λ b. b.credits) (map (λ b. plan_of b.sending) bs) ≤ most_cents
  pub batches : length bs ≤ 1000
  pub records : sum_by (λ b. b.records) (map (λ b. plan_of b.sending) bs) ≤ 100000

pub holds : (bs : List NumberedBatch) → fits (map (λ b. plan_of b.sending) bs) ≡ true → Holds bs
holds bs fit =
    let run = map (λ (b : NumberedBatch). plan_of b.sending) bs in
    let p = and_parts _ _ fit in
    let q = and_parts _ _ p.0 in
    let r = and_parts _ _ q.0 in
    let few = leb-true (length run) 1000 q.1 in
    let same = length-map bs (λ (b : NumberedBatch). plan_of b.sending) in
    record {
      debits = leb-true (sum_by (λ (b : plan.Batch). b.debits) run) most_cents r.0;
      credits = leb-true (sum_by (λ (b : plan.Batch). b.credits) run) most_cents r.1;
      batches = omega (arith, few, same);
      records = leb-true (sum_by (λ (b : plan.Batch). b.records) run) 100000 p.1;
    }

not_many : (o : Outgoing) → list_any is_long_batch o.batches.now ≡ false → length o.batches.now ≤ six_digits → blocks (main_count o) ≤ six_digits → has_many o ≡ false
unfolding has_many
not_many o short few low = rw (short, le-ltb six_digits (length o.batches.now) few, le-ltb six_digits (blocks (main_count o)) low) refl

low_blocks : (o : Outgoing) → length o.batches.now ≤ 1000 → (sums_of o).count ≤ 100000 → blocks (main_count o) ≤ six_digits
unfolding main_count
low_blocks o few count = omega (arith, few, count)

-- once all its batches are printed, a file has no fault
pub file_prints : (identity : Identity) (f : File) (p : Printer) → AreSendable f.batches → HasPrinted p (outgoing identity f).header (outgoing identity f).batches.now → print_fault (outgoing identity f) ≡ None
unfolding file_sums
file_prints identity f p sendable printed =
    let o = outgoing identity f in
    let h = holds f.batches sendable.fit in
    let fit = fit_by o.header o.batches.now printed.fits in
    let debits : (sums_of o).debits ≡ sum_by (λ b. b.debits) (map (λ b. plan_of b.sending) f.batches) = batches_summed (λ (s : Sums). s.debits) (λ (b : plan.Batch). b.debits) identity.odfi (λ s b t. t.debits) 1 f.batches in
    let credits : (sums_of o).credits ≡ sum_by (λ b. b.credits) (map (λ b. plan_of b.sending) f.batches) = batches_summed (λ (s : Sums). s.credits) (λ (b : plan.Batch). b.credits) identity.odfi (λ s b t. t.credits) 1 f.batches in
    let count : (sums_of o).count ≡ sum_by (λ b. b.records) (map (λ b. plan_of b.sending) f.batches) = batches_summed (λ (s : Sums). s.count) (λ (b : plan.Batch). b.records) identity.odfi (λ s b t. t.count) 1 f.batches in
    let long : length o.batches.now ≡ length f.batches = length-map (enumerate_from 1 f.batches) (outgoing_batch identity.odfi) ∙ length-enumerate_from 1 f.batches in
    let most_debits = h.debits in
    let most_credits = h.credits in
    let few = h.batches in
    let records = h.records in
    let large : is_large (sums_of o) ≡ false = small (sums_of o) (omega (arith, debits, most_debits)) (omega (arith, credits, most_credits)) in
    let many : has_many o ≡ false = not_many o fit.short (omega (arith, long, few)) (low_blocks o (omega (arith, long, few)) (omega (arith, count, records))) in
    fault_of_totals o fit ∙ rw (large, many) refl

-- ---- faults

-- where nothing is wrong, only memory can run out
pub only_memory : (f : PrintFault) (fault : Option PrintFault) → fault ≡ None → TellsPrint f fault → f ≡ faults.NoMemory
only_memory f fault none (inl memory) = memory.0
only_memory f fault none (inr some) = absurd cc
