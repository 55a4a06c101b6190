use Rattle.std.proofs.Common.{◌≡◌, ◌∙◌, ap, sym, ◌+◌, length, List, [], ◌∷◌, ◌++◌, map, refl, subst}
use Rattle.std.specs.Prelude.{All}
use Rattle.std.proofs.lemmas.List.{map-append}
use Rattle.desk_book.specs.Book.{Book}
use Rattle.desk_store.specs.Held.{held_row}
use Rattle.memory_store.specs.Kept.{row_in, rows_in, IsBookOf}
use Rattle.memory_store.specs.Open.{IsBounded}
use Rattle.memory_store.proofs.Bounded.{added_keeps}
use Rattle.memory_store.proofs.Placed.{placed_before}
use Rattle.desk_store.specs.Rows.{CompanyRow, flat_book}
use Rattle.desk_book.specs.Steps.{add_submission}
use Rattle.desk_store.proofs.Added.{flat-add}
use Rattle.memory_store.proofs.calls.ListStoreStore.add_submission.Goals as goal

-- the rows with one more
pushed : (c : goal.In_ok-push) → map row_in c.push.new.self.items ≡ map row_in c.args.self.now.submissions.items ++ held_row c.args.company c.args.order c.args.content.now c.args.retry ∷ []
pushed c =
    let old = c.args.self.now.submissions.items in
    ap (map row_in) c.in_ok-push.ensures.items
    ∙ map-append row_in old (c.in_ok-kept.kept ∷ [])
    ∙ ap (λ (x : CompanyRow). map row_in old ++ x ∷ []) c.in_ok-kept.ensures

-- the book of the lists with one more
added : (c : goal.In_ok-push) (b : Book) → IsBookOf c.args.self.now b → c.args.order ≡ length (b.rows c.args.company) + 1 →
    (add_submission c.args.company c.args.order c.args.content.now c.args.retry).after b ≡ flat_book (record (rows_in c.args.self.now) { submissions = map row_in c.push.new.self.items })
added c b held next =
    let s = c.args.self.now in
    let step = add_submission c.args.company c.args.order c.args.content.now c.args.retry in
    ap step.after held
    ∙ sym (flat-add (rows_in s) c.args.company c.args.order c.args.content.now c.args.retry (next ∙ ap (λ (d : Book). length (d.rows c.args.company) + 1) held))
    ∙ sym (ap (λ (rows : List CompanyRow). flat_book (record (rows_in s) { submissions = rows })) (pushed c))

pub returns : goal.returns
returns c = record {
  before = λ clean. clean;
  write = λ _ b held next. record {
    book = added c b held.book next;
    indexed = held.indexed;
    settled = held.settled;
    bounded = subst (λ (rows : List CompanyRow). All IsBounded rows) (sym (pushed c)) (added_keeps (map row_in c.args.self.now.submissions.items) (held_row c.args.company c.args.order c.args.content.now c.args.retry) held.bounded (λ since. refl));
    placed = placed_before (map row_in c.args.self.now.submissions.items) (map row_in c.push.new.self.items) (held_row c.args.company c.args.order c.args.content.now c.args.retry ∷ []) c.args.self.now.places (pushed c) held.placed;
  };
  left = λ _ b found held next is. is ∙ sym (added c b held.book next);
}
