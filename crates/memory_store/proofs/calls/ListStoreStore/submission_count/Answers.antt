use Rattle.std.proofs.Common.{◌∙◌, ℕ, List, ap, length, map, sym}
use Rattle.desk_book.specs.Reads.{submission_count}
use Rattle.memory_store.specs.Kept.{row_in}
use Rattle.memory_store.specs.Placed.{IsPlaced, whole}
use Rattle.memory_store.specs.declared.place_index.KeyKind.TheVariants as kinds
use Rattle.memory_store.proofs.Placed.{counted_all, covered, standing}
use Rattle.memory_store.proofs.calls.ListStoreStore.submission_count.Goals as goal

pub returns : goal.returns
returns c = record {
  before = λ clean. clean;
  read = λ _ b held.
      let s = c.args.self.now in
      let kept = s.submissions.items in
      let index = c.cover.new.self in
      let found = covered (IsPlaced kinds.Company) kinds.Company c.as_slice-kept.result.now kept s.places.companies index index c.as_slice-kept.ensures.value held.placed.companies c.in_ok-cover.ensures.right c.in_ok-cover.ensures.whole in
      let stand = standing kinds.Company c.whole.result (whole c.args.company) (map row_in kept) index c.of.result.now c.whole.ensures found.1 c.of.ensures in (
        ap (λ (places : List ℕ). length places) stand
            ∙ counted_all c.args.company kept
            ∙ ap (submission_count c.args.company) (sym held.book),
        record {
          book = held.book;
          indexed = held.indexed;
          settled = held.settled;
          bounded = held.bounded;
          placed = record { companies = found.0; references = held.placed.references; orders = held.placed.orders; originals = held.placed.originals; recent = held.placed.recent };
        },
      );
  left = λ _ _ is. is;
}
