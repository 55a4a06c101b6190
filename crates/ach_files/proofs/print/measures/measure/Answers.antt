use Rattle.std.proofs.Common.{◌≡◌, ◌&&◌, ◌||◌, ◌+◌, ◌∙◌, Bool, true, false, drop, ap, sym, refl}
use Rattle.std.specs.List.{list_all, list_any}
use Rattle.std.proofs.lemmas.List.{at_drop_more}
use Rattle.ach_files.specs.declared.outgoing.OutgoingBatch.{OutgoingBatch}
use Rattle.ach_files.specs.Outgoing.{batch_fits, is_long_batch, file_sums, capped_sums}
use Rattle.ach_files.proofs.Outgoings.{batches_more, kept_lowered}
use Rattle.ach_files.proofs.print.measures.measure.Goals as goal

and_assoc : (a b c : Bool) → (a && b) && c ≡ a && (b && c)
and_assoc true b c = refl
and_assoc false b c = refl

or_assoc : (a b c : Bool) → (a || b) || c ≡ a || (b || c)
or_assoc true b c = refl
or_assoc false b c = refl

pub loop-batch-init : goal.loop-batch-init
unfolding file_sums capped_sums
loop-batch-init c = record { fit = refl; long = refl; sums = refl }

pub loop-batch-preserved : goal.loop-batch-preserved
loop-batch-preserved c =
    let all = c.loop-batch.all in
    let b = c.batch-item.result in
    let i = c.loop-batch.batch-index in
    let rest = drop (i + 1) c.args.batches.now in
    let fit = at_drop_more (list_all batch_fits) c.args.batches.now i b c.loop-batch-test.true ∙ ap (λ (x : OutgoingBatch). batch_fits x && list_all batch_fits rest) (sym c.batch-item.is) in
    let long = at_drop_more (list_any is_long_batch) c.args.batches.now i b c.loop-batch-test.true ∙ ap (λ (x : OutgoingBatch). is_long_batch x || list_any is_long_batch rest) (sym c.batch-item.is) in
    record {
      fit = ap (λ t. t && list_all batch_fits rest) (c.joint_measures-all.ensures.fit ∙ ap (λ t. all.fit && t) c.measures_of.ensures.fit)
          ∙ and_assoc all.fit (batch_fits b) (list_all batch_fits rest)
          ∙ ap (λ t. all.fit && t) (sym fit)
          ∙ c.loop-batch.invariant.fit;
      long = ap (λ t. t || list_any is_long_batch rest) (c.joint_measures-all.ensures.long ∙ ap (λ t. all.is_any_long || t) c.measures_of.ensures.long)
          ∙ or_assoc all.is_any_long (is_long_batch b) (list_any is_long_batch rest)
          ∙ ap (λ t. all.is_any_long || t) (sym long)
          ∙ c.loop-batch.invariant.long;
      sums = c.joint_measures-all.ensures.sums _ _ c.loop-batch.invariant.sums (c.measures_of.ensures.sums ∙ kept_lowered _)
          ∙ ap capped_sums (sym (batches_more c.args.batches.now i b c.loop-batch-test.true c.batch-item.is));
    }
