use Rattle.std.proofs.Common.{◌≡◌, ◌∙◌, All, List, sym, subst, map, zip, ap, arith}
use Rattle.desk_plan.specs.Runs.{in_runs}
use Rattle.desk_history.specs.Files.{files_from}
use Rattle.desk_history.specs.Sendings.{batch_of}
use Rattle.desk_cut.specs.declared.batches.NumberedBatch.{NumberedBatch}
use Rattle.desk_cut.specs.declared.files.File.{File}
use Rattle.desk_cut.specs.Numbers.{batches_in}
use Rattle.desk_cut.specs.Sendable.{IsSendable, IsPrintable}
use Rattle.desk_cut.specs.Sent.{batch_in, file_in}
use Rattle.desk_history.proofs.Traces.NextCut.{length-in_runs}
use Rattle.desk_cut.proofs.Sendings.{each_before, files_print}
use Rattle.desk_cut.proofs.plan.write.Goals as goal

pub entries_of-requires : goal.entries_of-requires
entries_of-requires c =
    let is : map batch_in c.in_ok-batches.batches.items ≡ batches_in c.args.numbers =
    c.in_ok-batches.ensures ∙ (λ i. map batch_of (zip (c.deref.ensures.value i) (c.requires.settled i))) in
    subst (λ (bs : List NumberedBatch). All (λ b. IsSendable (batch_in b)) bs) (sym c.deref-3.ensures.value)
    (each_before IsSendable batch_in c.in_ok-batches.batches.items (subst (All IsSendable) (sym is) c.requires.sendable))

pub texts_of-requires : goal.texts_of-requires
texts_of-requires c =
    let sizes = c.args.sizes.now in
    let bs = batches_in c.args.numbers in
    let is : map batch_in c.deref-2.result.now ≡ bs =
    ap (λ (bs : List NumberedBatch). map batch_in bs) c.deref-2.ensures.value
    ∙ c.in_ok-batches.ensures ∙ (λ i. map batch_of (zip (c.deref.ensures.value i) (c.requires.settled i))) in
    let files : map file_in c.in_ok-files.files.items ≡ files_from c.args.day c.args.made (in_runs sizes bs) = c.in_ok-files.ensures.files ∙ (λ i. files_from c.args.day c.args.made (in_runs sizes (is i))) in
    let long = length-in_runs sizes bs in
    let made = c.requires.made in
    subst (λ (fs : List File). All (λ f. IsPrintable (file_in f)) fs) (sym c.deref-7.ensures.value)
    (each_before IsPrintable file_in c.in_ok-files.files.items
    (subst (All IsPrintable) (sym files) (files_print c.modifiers_of_a_day.ensures c.args.day c.args.made (in_runs sizes bs) (omega (arith, long, made)) c.requires.runs)))
