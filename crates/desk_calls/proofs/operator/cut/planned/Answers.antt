use Rattle.std.proofs.Common.{◌≡◌, ◌∙◌, ap, subst, List}
use Rattle.desk_book.specs.declared.held_submission.HeldSubmission.{HeldSubmission}
use Rattle.desk_book.specs.OnCut.{CutFacts, ranges_after, cut_sendings, sendings}
use Rattle.desk_cut.specs.Numbers.{HasNoRanges}
use Rattle.desk_cut.specs.Plan.{Plans, cut_in, cut_of}
use Rattle.desk_calls.specs.Cutting.{facts_in}
use Rattle.desk_calls.proofs.Planned.{plans_or_tells, unnumbered}
use Rattle.desk_calls.proofs.operator.cut.planned.Goals as goal

pub returns : goal.returns
returns g c =
    record {
      before = c.latest_of.ensures.before;
      read = λ clean.
          let reads = c.args.reads.now in
          let numbered = c.in-Ok.ensures in
          let latest = c.deref-2.result.now in
          let seen : cut_in reads.identity c.in-Ok.numbered reads.made ≡ facts_in reads =
          λ i. cut_of reads.identity (numbered.day i) (numbered.holidays i) (numbered.last i) reads.made ((numbered.waiting ∙ c.deref.ensures.value) i) in
          let taken : c.ranges-2.result.now ≡ ranges_after reads.last.sequence (cut_sendings (facts_in reads)) =
          c.ranges-2.ensures ∙ ap (λ (x : CutFacts). ranges_after x.last (cut_sendings x)) seen in
          plans_or_tells c.entries_of_cuts.ensures (g.S.Store.holds c.args.store.now) (g.S.Store.holds c.latest_of.new.store) reads c.ranges-2.result.now latest c.plan_cut.result taken
          (λ b held. let read = c.in_ok-latest.ensures.read clean b held in (c.deref-2.ensures.value ∙ read.0, read.1))
          (subst (λ (x : CutFacts). Plans x latest c.plan_cut.result) seen c.plan_cut.ensures);
      left = c.latest_of.ensures.left;
    }

pub returns-in-Err : goal.returns-in-Err
returns-in-Err g c =
    record {
      before = λ clean. clean;
      read = λ clean.
          let reads = c.args.reads.now in
          unnumbered (g.S.Store.holds c.args.store.now) reads c.in-Err.fault
          (subst (λ (ws : List HeldSubmission). HasNoRanges reads.day reads.last.sequence (sendings reads.holidays reads.day ws) c.in-Err.fault) c.deref.ensures.value c.in-Err.ensures.err);
      left = λ clean kept may. may;
    }
