use Rattle.std.proofs.Common.{◌≡◌, ◌∙◌, ap, sym, ℕ, ◌+◌, ◌++◌, ◌∷◌, true, false, take, drop, refl}
use Rattle.desk_history.specs.Words.{is_before}
use Rattle.memory_store.proofs.Places.{same_before, here_placed, later_placed}
use Rattle.memory_store.proofs.writes.place_of.Goals as goal

pub loop-company-preserved : goal.loop-company-preserved
loop-company-preserved c = record {
  at = ap (λ (n : ℕ). n + 1) c.loop-company.invariant.at;
  place = λ k same.
      let x = c.company-item.result in
      let ahead : is_before k.id x.id ≡ false = same_before (λ _ _. refl) (same ∙ sym c.bytes.ensures.value) (sym c.bytes-in-loop-company.ensures.value) ∙ sym c.lt.ensures ∙ c.if-lt.false in
      later_placed k x c.args.companies.now c.loop-company.company-index c.loop-company-test.true c.company-item.is ahead
      ∙ c.loop-company.invariant.place k same;
}

pub returns-then-lt-clause-place : goal.returns-then-lt-clause-place
returns-then-lt-clause-place c = λ k same.
    let ks = c.args.companies.now in
    let x = c.company-item.result in
    let behind : is_before k.id x.id ≡ true = same_before (λ _ _. refl) (same ∙ sym c.bytes.ensures.value) (sym c.bytes-in-loop-company.ensures.value) ∙ sym c.lt.ensures ∙ c.if-lt.true in
    ap (λ (n : ℕ). take n ks ++ k ∷ drop n ks) c.loop-company.invariant.at
    ∙ here_placed k x ks c.loop-company.company-index c.loop-company-test.true c.company-item.is behind
    ∙ c.loop-company.invariant.place k same
