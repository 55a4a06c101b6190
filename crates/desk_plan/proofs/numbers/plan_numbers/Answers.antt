use Rattle.std.proofs.Common.{◌≡◌, ℕ, [], List, ◌++◌, true, ◌||◌, drop, sym, ap, subst, ◌∙◌, arith, All, nat_le}
use Rattle.std.proofs.lemmas.List.{drop_all, append-nil}
use Rattle.std.proofs.lemmas.List.Elements.{All-rest}
use Rattle.std.proofs.lemmas.Bool.{or_left, or_right}
use Rattle.desk_plan.specs.Batch.{IsEntryCount}
use Rattle.desk_plan.specs.Sequences.{IsRange, ranges}
use Rattle.desk_plan.proofs.Cuts.{ranges_within}
use Rattle.desk_plan.proofs.Restarts.{stays_apart, apart_as, ranges_as, ends_restarted, ends_past}
use Rattle.desk_plan.proofs.numbers.plan_numbers.Goals as goal
use Rattle.desk_plan.proofs.numbers.plan_numbers.Goals.{then-restarted-2, else-restarted-2}

pub range_after-from-requires : goal.range_after-from-requires
range_after-from-requires c = All-rest IsEntryCount _ c.in-Some.rest.now c.args.entries.now c.in-Some.ensures.cases.0 c.requires c.loop-count.count-index 0 c.loop-count-test.true

pub returns-then-restarts-clause-spent : goal.returns-then-restarts-clause-spent
returns-then-restarts-clause-spent c h =
    let rest = c.in-Some.rest.now in
    apart_as c.args.last_sequence c.args.entries.now c.in-Some.count.now rest c.range_after-start.result c.in-Some.ensures.cases.0 c.range_after-start.ensures.value c.requires
    ∙ sym c.loop-count.invariant.apart
    ∙ ends_restarted c.range_after-start.result.0 c.loop-count.last c.loop-count.count-index c.loop-count.restarted rest c.loop-count-test.true c.range_after-from.result c.range_after-from.ensures.value c.if-restarted.true c.if-restarts.true

pub returns-then-start-to-clause-spent : goal.returns-then-start-to-clause-spent
returns-then-start-to-clause-spent c h =
    let rest = c.in-Some.rest.now in
    let again : (c.loop-count.restarted || nat_le c.range_after-from.result.0 c.loop-count.last) ≡ true = elim c.if-restarted-2.branch [
      | then-restarted-2 w ↦ or_left _ _ w.if-restarted-2.true
      | else-restarted-2 w ↦ or_right _ _ (sym w.restarted-is ∙ c.if-restarted-3.true)
    ] in
    apart_as c.args.last_sequence c.args.entries.now c.in-Some.count.now rest c.range_after-start.result c.in-Some.ensures.cases.0 c.range_after-start.ensures.value c.requires
    ∙ sym c.loop-count.invariant.apart
    ∙ ends_past c.range_after-start.result.0 c.loop-count.last c.loop-count.count-index c.loop-count.restarted rest c.loop-count-test.true c.range_after-from.result c.range_after-from.ensures.value again c.if-start-to.true

pub returns-clause-apart : goal.returns-clause-apart
returns-clause-apart c =
    let rest = c.in-Some.rest.now in
    let done : drop c.loop-count.count-index rest ≡ [] = drop_all c.loop-count.count-index rest (omega arith) in
    apart_as c.args.last_sequence c.args.entries.now c.in-Some.count.now rest c.range_after-start.result c.in-Some.ensures.cases.0 c.range_after-start.ensures.value c.requires
    ∙ sym c.loop-count.invariant.apart
    ∙ ap (stays_apart c.range_after-start.result.0 c.loop-count.restarted c.loop-count.last) done

pub returns-clause-within : goal.returns-clause-within
returns-clause-within c =
    let rest = c.in-Some.rest.now in
    let done : drop c.loop-count.count-index rest ≡ [] = drop_all c.loop-count.count-index rest (omega arith) in
    let are : c.loop-count.ranges.items ≡ ranges c.args.last_sequence c.args.entries.now = sym (append-nil c.loop-count.ranges.items)
    ∙ ap (λ (l : List ℕ). c.loop-count.ranges.items ++ ranges c.loop-count.last l) (sym done)
    ∙ c.loop-count.invariant.made
    ∙ ranges_as c.args.last_sequence c.args.entries.now c.in-Some.count.now rest c.range_after-start.result c.in-Some.ensures.cases.0 c.range_after-start.ensures.value in
    subst (All IsRange) (sym are) (ranges_within c.args.last_sequence c.args.entries.now c.requires)
