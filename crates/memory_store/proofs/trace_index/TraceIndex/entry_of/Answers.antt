use Rattle.std.proofs.Common.{◌≡◌, ℕ, ◌≤◌, ◌∙◌, reverse, ap, sym, subst}
use Rattle.std.specs.Prelude.{find}
use Rattle.std.specs.BTreeMap.{get}
use Rattle.std.specs.Ordering.{nat_cmp}
use Rattle.ach_fields.specs.Routing.{dfi_of}
use Rattle.ach_fields.specs.Trace.{dfi_in, sequence_in}
use Rattle.memory_store.proofs.Indexed.{found_whole}
use Rattle.desk_store.proofs.Traced.{traced, other_bank, none_found}
use Rattle.memory_store.proofs.trace_index.TraceIndex.entry_of.Goals as goal

pub returns-then-dfi : goal.returns-then-dfi
returns-then-dfi c = λ sent held whole.
    let trace = c.args.trace in
    let few : dfi_of c.args.odfi ≤ 99_999_999 = subst (λ (n : ℕ). n ≤ 99_999_999) c.dfi.ensures.value c.dfi.ensures.within in
    let bank : dfi_of c.args.odfi ≡ dfi_in trace = sym c.dfi.ensures.value ∙ c.if-dfi.true ∙ c.dfi-2.ensures.value in
    c.copied.ensures
    ∙ c.get.ensures.value
    ∙ ap (λ (n : ℕ). get nat_cmp c.args.self.now.youngest n) c.sequence.ensures.value
    ∙ found_whole sent c.args.self.now held whole (sequence_in trace)
    ∙ (λ i. find (λ e. traced c.numbers_and_digits.ensures (dfi_of c.args.odfi) e.sequence trace few c.text-text.ensures.valid bank i) (reverse sent))

pub returns-else-dfi : goal.returns-else-dfi
returns-else-dfi c = λ sent held whole.
    let few : dfi_of c.args.odfi ≤ 99_999_999 = subst (λ (n : ℕ). n ≤ 99_999_999) c.dfi.ensures.value c.dfi.ensures.within in
    let apart : dfi_of c.args.odfi ≡ dfi_in c.args.trace → ⊥ = λ same. c.if-dfi.false (c.dfi.ensures.value ∙ same ∙ sym c.dfi-2.ensures.value) in
    sym (none_found (reverse sent))
    ∙ (λ i. find (λ e. sym (other_bank c.numbers_and_digits.ensures (dfi_of c.args.odfi) e.sequence c.args.trace few apart) i) (reverse sent))
