use Rattle.std.proofs.Common.{rules, ◌∙◌, refl, ap, sym, subst, List, ℕ}
use Rattle.desk_book.specs.declared.open_submission.OpenSubmission.{OpenSubmission}
use Rattle.desk_book.specs.OpenRows.{open_rows}
use Rattle.remembering_store.specs.Remembered.{IsOf}
use Rattle.remembering_store.proofs.FirstRead.{IsUpTo, begun, none_left, one_more, read_all}
use Rattle.remembering_store.proofs.Widening.{wider}
use Rattle.remembering_store.proofs.sums.remembered.Remembered.read.Goals as goal

pub loop-submission-init : goal.loop-submission-init
loop-submission-init c = record {
  so_far = λ rs are. begun c.new-read.result _ c.new-read.ensures.of rs (c.into_iter-submission-iterator.ensures.into_iter_gives.0 ∙ are);
  since = c.new-read.ensures.since;
}

pub loop-submission-preserved : goal.loop-submission-preserved
loop-submission-preserved c =
    let was = c.loop-submission.invariant in
    record {
      so_far = λ rs are. one_more _ _ _ _ rs (λ done row is right kept. c.if-not-load.ensures.right refl done row right kept (ap (λ (x : OpenSubmission). x.order) (sym is)) (c.in_ok-kept.ensures row is)) (subst (λ (xs : List OpenSubmission). IsUpTo c.loop-submission.read xs rs) (search rules) (was.so_far rs are));
      since = c.load.ensures.since ∙ was.since;
    }

pub returns : goal.returns
returns c = λ all numbered same.
    let m = c.loop-submission.read in
    let was = c.loop-submission.invariant in
    wider m all numbered (subst (λ (since : ℕ). IsOf m (open_rows since all)) (sym was.since) (read_all m _ (open_rows c.args.since all) (none_left _ (sym c.loop-submission.submission-iterator.rest.ok.0 ∙ c.in-None.ensures.steps.0)) (was.so_far (open_rows c.args.since all) same)))
