-- A control that has a text is the one that the code prints.
use Rattle.std.proofs.Common.{◌≡◌, ℕ, ◌^◌, ◌≤◌, ◌<◌, true, refl, sym, ◌∙◌, arith, inl, inr}
use Rattle.std.specs.Prelude.{min, nat_lt}
use Rattle.std.proofs.lemmas.Bool.{ltb-true, cases_lt, lt-ltb, le-ltb}
use Rattle.ach_records.specs.Print.{row_fits, batch_control_row}
use Rattle.ach_records.proofs.Texts.{fit_in}
use Rattle.ach_files.specs.declared.sums.Sums.{Sums}
use Rattle.ach_files.specs.declared.outgoing.OutgoingBatch.{OutgoingBatch}
use Rattle.ach_files.specs.Outgoing.{capped_sums, sums_cap, sums_in, batch_control}
use Rattle.ach_records.specs.declared.print.BatchControlText.{BatchControlText}

small6 : (n : ℕ) → nat_lt n (10 ^ 6) ≡ true → min n sums_cap ≡ n
small6 n e = let lt : n < 10 ^ 6 = ltb-true n (10 ^ 6) e in omega arith

small12 : (n : ℕ) → nat_lt n (10 ^ 12) ≡ true → min n sums_cap ≡ n
small12 n e = let lt : n < 10 ^ 12 = ltb-true n (10 ^ 12) e in omega arith

pub record ControlFits (c : BatchControlText) : Type 0 where
  pub count : nat_lt c.count (10 ^ 6) ≡ true
  pub debits : nat_lt c.debits (10 ^ 12) ≡ true
  pub credits : nat_lt c.credits (10 ^ 12) ≡ true

pub control_fits : (c : BatchControlText) → row_fits (batch_control_row c) ≡ true → ControlFits c
control_fits c fits = let row = batch_control_row c in record { count = fit_in row 2 fits; debits = fit_in row 4 fits; credits = fit_in row 5 fits }

pub batch_control_is : (b : OutgoingBatch) (s : Sums) (d c : ℕ) → s ≡ capped_sums (sums_in b) → d ≡ s.debits → c ≡ s.credits → row_fits (batch_control_row (batch_control b)) ≡ true →
    let t : BatchControlText = record { service_class = b.header.service_class; count = s.count; hash = s.hash; debits = d; credits = c; company = b.header.company; odfi = b.header.odfi; number = b.header.number } in
    t ≡ batch_control b
unfolding capped_sums
batch_control_is b s d c e ed ec fits =
    let t = control_fits (batch_control b) fits in
    rw (ed, ec, e, small6 (sums_in b).count t.count, small12 (sums_in b).debits t.debits, small12 (sums_in b).credits t.credits) refl

-- amounts that fit are small
pub kept_debits : (b : OutgoingBatch) (s : Sums) → s ≡ capped_sums (sums_in b) → row_fits (batch_control_row (batch_control b)) ≡ true → (s.debits ≤ 999999999999) × (s.credits ≤ 999999999999)
unfolding capped_sums
kept_debits b s e fits =
    let t = control_fits (batch_control b) fits in
    let d : (sums_in b).debits < 10 ^ 12 = ltb-true _ _ t.debits in
    let c : (sums_in b).credits < 10 ^ 12 = ltb-true _ _ t.credits in
    rw e (omega arith, omega arith)

pub long_kept : (s x : Sums) → s ≡ capped_sums x → nat_lt 999999 s.count ≡ nat_lt 999999 x.count
unfolding capped_sums
long_kept s x e =
    elim (cases_lt 999999 x.count) [
      | inl lt ↦ lt-ltb 999999 s.count (rw e (omega arith)) ∙ sym (lt-ltb 999999 x.count lt)
      | inr le ↦ le-ltb 999999 s.count (rw e (omega arith)) ∙ sym (le-ltb 999999 x.count le)
    ]
