use Rattle.std.proofs.Common.{List, map, subst, ◌∙◌, sym, ap}
use Rattle.std.specs.Prelude.{All}
use Rattle.memory_store.specs.Kept.{row_in, rows_in}
use Rattle.memory_store.specs.Open.{IsBounded}
use Rattle.memory_store.specs.Placed.{ArePlaced}
use Rattle.desk_store.specs.Rows.{CompanyRow, flat_book}
use Rattle.desk_book.specs.Steps.{commit_intake}
use Rattle.desk_store.specs.Written.{intake_rows}
use Rattle.desk_store.proofs.FlatIntakes.{flat_intake}
use Rattle.memory_store.specs.declared.place_index.KeyKind.TheVariants as kinds
use Rattle.memory_store.proofs.Bounded.{intake_keeps}
use Rattle.memory_store.proofs.Placed.{covered, placed_after_intake}
use Rattle.memory_store.proofs.Indexed.{indexed_as, settled_as}
use Rattle.memory_store.proofs.calls.ListStoreStore.commit_intake.Goals as goal

pub returns : goal.returns
returns c = record {
  before = λ clean. clean;
  write = λ _ b held _.
      let x = intake_rows c.args.intake.now in
      let old = c.args.self.now in
      let covers = covered ArePlaced kinds.Reference c.as_slice-kept.result.now old.submissions.items old.places c.cover_references.new.self c.cover_references.new.self.references c.as_slice-kept.ensures.value held.placed c.in_ok-cover_references.ensures.right c.in_ok-cover_references.ensures.whole in
      let written = c.in_ok-write_intake.ensures.ok covers.1 in
      record {
        book = ap (commit_intake x).after held.book ∙ sym (ap flat_book written ∙ flat_intake (rows_in old) x);
        indexed = indexed_as old.sent.items c.write_intake.new.store.sent.items old.traces c.write_intake.new.store.traces (ap (λ r. r.sent) written) c.in_ok-write_intake.ensures.traces held.indexed;
        settled = settled_as old.sent.items c.write_intake.new.store.sent.items old.settlements c.write_intake.new.store.settlements (ap (λ r. r.sent) written) c.in_ok-write_intake.ensures.settlements held.settled;
        bounded = subst (λ (rows : List CompanyRow). All IsBounded rows) (sym (ap (λ r. r.submissions) written)) (intake_keeps x (rows_in old) held.bounded);
        placed = placed_after_intake x (rows_in old) (map row_in c.write_intake.new.store.submissions.items) c.cover_references.new.self c.write_intake.new.store.places (ap (λ r. r.submissions) written) c.in_ok-write_intake.ensures.places covers.0;
      };
  left = λ _ b found held _ is.
      let x = intake_rows c.args.intake.now in
      let old = c.args.self.now in
      let covers = covered ArePlaced kinds.Reference c.as_slice-kept.result.now old.submissions.items old.places c.cover_references.new.self c.cover_references.new.self.references c.as_slice-kept.ensures.value held.placed c.in_ok-cover_references.ensures.right c.in_ok-cover_references.ensures.whole in
      is ∙ ap flat_book (c.in_ok-write_intake.ensures.ok covers.1) ∙ flat_intake (rows_in c.args.self.now) x ∙ sym (ap (commit_intake x).after held.book);
}
