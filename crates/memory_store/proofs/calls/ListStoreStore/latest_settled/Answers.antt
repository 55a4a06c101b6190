use Rattle.std.proofs.Common.{◌≡◌, ◌∙◌, ap, sym, subst, length, List, refl}
use Rattle.desk_history.specs.declared.sent_entry.SentEntry.{SentEntry}
use Rattle.memory_store.specs.Indexed.{AreSettled}
use Rattle.desk_book.specs.Reads.{latest_settled}
use Rattle.memory_store.proofs.Indexed.{settled_as}
use Rattle.memory_store.proofs.calls.ListStoreStore.latest_settled.Goals as goal

pub returns : goal.returns
returns c = record {
  before = λ clean. clean;
  read = λ _ b held.
      let s = c.args.self.now in
      let sent = s.sent.items in
      let own : c.deref.result.now ≡ sent = c.deref.ensures.value in
      let before : AreSettled c.deref.result.now s.settlements = settled_as sent c.deref.result.now s.settlements s.settlements own refl held.settled in
      let right : AreSettled sent c.cover.new.self = subst (λ (es : List SentEntry). AreSettled es c.cover.new.self) own (c.in_ok-cover.ensures.right before) in
      let whole : c.cover.new.self.indexed ≡ length sent = c.in_ok-cover.ensures.whole before ∙ ap length own in
      (c.latest.ensures sent right whole ∙ ap (latest_settled c.args.from c.args.to) (sym held.book), record { book = held.book; indexed = held.indexed; settled = right; bounded = held.bounded; placed = held.placed });
  left = λ _ _ is. is;
}
