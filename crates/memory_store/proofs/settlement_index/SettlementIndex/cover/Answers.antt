use Rattle.std.proofs.Common.{◌≡◌, ℕ, ◌+◌, ◌<◌, ap, sym, get_or, length, subst, refl}
use Rattle.std.specs.Prelude.{Some}
use Rattle.std.specs.BTreeMap.{Updates}
use Rattle.std.specs.Ordering.{nat_cmp}
use Rattle.memory_store.proofs.Indexed.{settles_more}
use Rattle.memory_store.proofs.settlement_index.SettlementIndex.cover.Goals as goal

pub loop-at-preserved : goal.loop-at-preserved
loop-at-preserved c = record {
  covered = refl;
  right = λ held.
      let sent = c.args.sent.now in
      let entry = c.index-sent-at.result in
      let here = c.loop-at.invariant.covered in
      let some : c.loop-at.self.indexed < length sent = subst (λ (n : ℕ). n < length sent) (sym here) c.loop-at-test.true in
      let is : entry ≡ get_or sent c.loop-at.self.indexed entry = cc in
      let day = λ (d : ℕ). Updates nat_cmp c.loop-at.self.settled c.insert.new.self entry.sequence (Some d) in
      settles_more sent c.loop-at.self _ entry some is (subst day c.day.ensures.value c.in_ok-insert.ensures.updates) (ap (λ (n : ℕ). n + 1) (sym here)) (c.loop-at.invariant.right held);
}
