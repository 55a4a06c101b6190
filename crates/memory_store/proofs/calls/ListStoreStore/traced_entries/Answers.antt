use Rattle.std.proofs.Common.{◌≡◌, ◌∙◌, List, ap, length, map, refl, subst, sym}
use Rattle.desk_history.specs.declared.sent_entry.SentEntry.{SentEntry}
use Rattle.desk_book.specs.OnIntake.{traced_entries}
use Rattle.memory_store.specs.Indexed.{IsIndexed}
use Rattle.memory_store.specs.Kept.{row_in}
use Rattle.memory_store.specs.Placed.{ArePlaced, FindsAll}
use Rattle.memory_store.specs.Traced.{traced_among}
use Rattle.memory_store.specs.declared.list_store.KeptSubmission.{KeptSubmission}
use Rattle.memory_store.specs.declared.place_index.KeyKind.TheVariants as kinds
use Rattle.memory_store.proofs.Indexed.{indexed_as}
use Rattle.memory_store.proofs.Placed.{covered}
use Rattle.memory_store.proofs.calls.ListStoreStore.traced_entries.Goals as goal

pub returns : goal.returns
returns c = record {
  before = λ clean. clean;
  read = λ _ b held.
      let s = c.args.self.now in
      let traces = c.args.traces.now in
      let sent = s.sent.items in
      let all : c.deref.result.now ≡ sent = c.deref.ensures.value in
      let before : IsIndexed c.deref.result.now s.traces = indexed_as sent c.deref.result.now s.traces s.traces all refl held.indexed in
      let right : IsIndexed sent c.cover.new.self = subst (λ (es : List SentEntry). IsIndexed es c.cover.new.self) all (c.in_ok-cover.ensures.right before) in
      let whole : c.cover.new.self.indexed ≡ length sent = c.in_ok-cover.ensures.whole before ∙ ap length all in
      let kept = s.submissions.items in
      let own = c.as_slice-kept.ensures.value in
      let index = c.cover_references.new.self.references in
      let found = covered ArePlaced kinds.Reference c.as_slice-kept.result.now kept s.places c.cover_references.new.self index own held.placed c.in_ok-cover_references.ensures.right c.in_ok-cover_references.ensures.whole in
      let finds : FindsAll kinds.Reference (map row_in c.as_slice-kept.result.now) index = subst (λ (ks : List KeptSubmission). FindsAll kinds.Reference (map row_in ks) index) (sym own) found.1 in (
        c.in_ok-entries_of.ensures sent right whole finds
            ∙ ap (λ (ks : List KeptSubmission). map (traced_among s.identity.odfi sent ks) traces) own
            ∙ ap (traced_entries traces) (sym held.book),
        record {
          book = held.book;
          indexed = right;
          settled = held.settled;
          bounded = held.bounded;
          placed = found.0;
        },
      );
  left = λ _ _ is. is;
}
