use Rattle.std.proofs.Common.{◌≡◌, ◌∙◌, ◌+◌, ℕ, All, List, length, sym, ap, map, subst, rules}
use Rattle.std.specs.Prelude.{nat_le, sum}
use Rattle.std.specs.List.{list_all}
use Rattle.std.proofs.lemmas.Result.{err_from_is_err_and}
use Rattle.desk_plan.specs.declared.batch.Batch.{Batch}
use Rattle.desk_plan.specs.Modifiers.{most_files}
use Rattle.desk_plan.specs.Files.{division}
use Rattle.desk_plan.specs.Reuse.{is_past}
use Rattle.desk_plan.specs.Runs.{in_runs}
use Rattle.desk_history.specs.Files.{files_from}
use Rattle.desk_history.specs.Sendings.{NumberedBatch, plan_of}
use Rattle.desk_book.specs.OnCut.{cut_sendings, batches}
use Rattle.desk_cut.specs.declared.due.DueSubmission.{DueSubmission}
use Rattle.desk_cut.specs.Faults.{IsUnsettled}
use Rattle.desk_cut.specs.Numbers.{batches_in, write_of, summary_of}
use Rattle.desk_cut.specs.Plan.{cut_in}
use Rattle.desk_cut.specs.Sendable.{IsSendable, AreSendable}
use Rattle.desk_cut.specs.Sent.{due_in}
use Rattle.desk_cut.proofs.Sendings.{all_sendable, runs_sendable}
use Rattle.desk_cut.proofs.Planned.{days_spent, batches_are, loads_are, whole, modifiers_are, may_take, is_plan, left, none_left}
use Rattle.desk_cut.proofs.plan.plan_cut.Goals as goal

pub returns-in_default : goal.returns-in_default
returns-in_default c =
    let x = cut_in c.args.identity.now c.args.numbered c.args.made in
    let n = c.args.numbered.numbers in
    let h = c.args.numbered.is_numbered in
    let sizes : c.in_ok-sizes.sizes.items ≡ map length (division n.loads.items) = c.in_ok-sizes.ensures.sizes ∙ ap (λ (bs : List Batch). map length (division bs)) c.deref.ensures.value in
    let count : length c.in_ok-sizes.sizes.items ≡ c.len.result = search rules in (
      may_take x n c.args.latest.now _ h (ap (λ (d : ℕ). list_all (is_past d) c.args.latest.now) (sym c.day-today.ensures.value) ∙ sym c.are_past.ensures ∙ c.if-not-are_past.false),
      modifiers_are x n c.in_ok-sizes.sizes.items h sizes
          ∙ ap (λ k. nat_le (c.args.made + k) most_files) count
          ∙ none_left _ c.args.made (sym c.made_before.ensures ∙ c.in_default.is),
    )

pub write-requires-clause-whole : goal.write-requires-clause-whole
write-requires-clause-whole c =
    let x = cut_in c.args.identity.now c.args.numbered c.args.made in
    ap (λ (l : List ℕ). sum l) c.deref-3.ensures.value
    ∙ whole x c.args.numbered.numbers c.in_ok-sizes.sizes.items c.args.numbered.is_numbered (c.in_ok-sizes.ensures.whole ∙ ap length c.deref.ensures.value)

pub returns-then-not-are_past : goal.returns-then-not-are_past
returns-then-not-are_past c =
    let x = cut_in c.args.identity.now c.args.numbered c.args.made in
    may_take x c.args.numbered.numbers c.args.latest.now _ c.args.numbered.is_numbered
    (ap (λ (d : ℕ). list_all (is_past d) c.args.latest.now) (sym c.day-today.ensures.value) ∙ sym c.are_past.ensures ∙ c.if-not-are_past.true)

pub write-requires-clause-sendable : goal.write-requires-clause-sendable
write-requires-clause-sendable c =
    let x = cut_in c.args.identity.now c.args.numbered c.args.made in
    let h = c.args.numbered.is_numbered in
    subst (All IsSendable) (sym (batches_are x c.args.numbered.numbers h)) (all_sendable c.args.numbered.last (cut_sendings x) h.batches)

pub write-requires-clause-runs : goal.write-requires-clause-runs
write-requires-clause-runs c =
    let x = cut_in c.args.identity.now c.args.numbered c.args.made in
    let n = c.args.numbered.numbers in
    let h = c.args.numbered.is_numbered in
    let sizes : c.deref-3.result.now ≡ map length (division (map (λ (b : NumberedBatch). plan_of b.sending) (batches x))) =
    c.deref-3.ensures.value ∙ c.in_ok-sizes.ensures.sizes ∙ ap (λ (bs : List Batch). map length (division bs)) (c.deref.ensures.value ∙ loads_are x n h) in
    subst (All AreSendable) (sym (λ i. in_runs (sizes i) (batches_are x n h i)))
    (runs_sendable c.one_division.ensures (batches x) (all_sendable c.args.numbered.last (cut_sendings x) h.batches))

pub returns : goal.returns
returns c =
    let x = cut_in c.args.identity.now c.args.numbered c.args.made in
    let n = c.args.numbered.numbers in
    let h = c.args.numbered.is_numbered in
    let sizes : c.deref-3.result.now ≡ map length (division n.loads.items) =
    c.deref-3.ensures.value ∙ c.in_ok-sizes.ensures.sizes ∙ ap (λ (bs : List Batch). map length (division bs)) c.deref.ensures.value in
    let count : length c.deref-3.result.now ≡ c.len.result = c.deref-3.ensures.len ∙ sym c.len.ensures in
    let room = left _ c.args.made c.in-Some.made (sym c.made_before.ensures ∙ c.in-Some.is) in (
      may_take x n c.args.latest.now _ h (ap (λ (d : ℕ). list_all (is_past d) c.args.latest.now) (sym c.day-today.ensures.value) ∙ sym c.are_past.ensures ∙ c.if-not-are_past.false),
      modifiers_are x n c.deref-3.result.now h sizes ∙ ap (λ k. nat_le (c.args.made + k) most_files) count ∙ room.0,
      is_plan x n c.deref-3.result.now c.in_ok-write.field-0 h sizes
          (c.in_ok-write.ensures.write
          ∙ ap (λ (d : ℕ). write_of x.identity (files_from d c.in-Some.made (in_runs c.deref-3.result.now (batches_in n))) n) c.day-today.ensures.value
          ∙ ap (λ made. write_of x.identity (files_from x.day made (in_runs c.deref-3.result.now (batches_in n))) n) room.1)
          (c.in_ok-write.ensures.done
          ∙ ap (λ (d : ℕ). summary_of d (files_from d c.in-Some.made (in_runs c.deref-3.result.now (batches_in n))) n) c.day-today.ensures.value
          ∙ ap (λ made. summary_of x.day (files_from x.day made (in_runs c.deref-3.result.now (batches_in n))) n) room.1),
    )

pub returns-in-Err : goal.returns-in-Err
returns-in-Err c =
    let x = cut_in c.args.identity.now c.args.numbered c.args.made in
    let n = c.args.numbered.numbers in
    let h = c.args.numbered.is_numbered in
    let sizes : c.in_ok-sizes.sizes.items ≡ map length (division n.loads.items) = c.in_ok-sizes.ensures.sizes ∙ ap (λ (bs : List Batch). map length (division bs)) c.deref.ensures.value in
    let count : length c.in_ok-sizes.sizes.items ≡ c.len.result = search rules in
    let room = left _ c.args.made c.in-Some.made (sym c.made_before.ensures ∙ c.in-Some.is) in
    days_spent x n c.args.latest.now _ h
    (may_take x n c.args.latest.now _ h (ap (λ (d : ℕ). list_all (is_past d) c.args.latest.now) (sym c.day-today.ensures.value) ∙ sym c.are_past.ensures ∙ c.if-not-are_past.false))
    (modifiers_are x n c.in_ok-sizes.sizes.items h sizes ∙ ap (λ k. nat_le (c.args.made + k) most_files) count ∙ room.0)
    (subst (λ (due : List DueSubmission). IsUnsettled (map due_in due) c.in-Err.fault) c.deref-2.ensures.value c.in-Err.ensures.err)

pub returns-in_err-sizes : goal.returns-in_err-sizes
returns-in_err-sizes c =
    let x = cut_in c.args.identity.now c.args.numbered c.args.made in
    let p = err_from_is_err_and c.from_residual.result c.from_residual.ensures.1 in
    let may =
    may_take x c.args.numbered.numbers c.args.latest.now _ c.args.numbered.is_numbered
    (ap (λ (d : ℕ). list_all (is_past d) c.args.latest.now) (sym c.day-today.ensures.value) ∙ sym c.are_past.ensures ∙ c.if-not-are_past.false) in
    rw (p.1, p.2) may

pub returns-in_err-write : goal.returns-in_err-write
returns-in_err-write c =
    let x = cut_in c.args.identity.now c.args.numbered c.args.made in
    let p = err_from_is_err_and c.from_residual-in_err-write.result c.from_residual-in_err-write.ensures.1 in
    let may =
    may_take x c.args.numbered.numbers c.args.latest.now _ c.args.numbered.is_numbered
    (ap (λ (d : ℕ). list_all (is_past d) c.args.latest.now) (sym c.day-today.ensures.value) ∙ sym c.are_past.ensures ∙ c.if-not-are_past.false) in
    rw (p.1, p.2) may
