use Rattle.std.proofs.Common.{◌≡◌, ◌∙◌, ◌<◌, ℕ, Bool, true, ◌&&◌, All, List, map, ap, sym, subst}
use Rattle.std.specs.List.{list_all}
use Rattle.std.proofs.lemmas.List.Folds.{list_all-map}
use Rattle.desk_plan.specs.declared.batch.Batch.{Batch}
use Rattle.desk_plan.specs.Batch.{IsBatch}
use Rattle.desk_plan.specs.Laws.{ByRanges}
use Rattle.desk_plan.specs.Reuse.{is_past, latest_settled, may_send}
use Rattle.desk_plan.specs.Sequences.{SentSequence, last_sequence, ranges, ranges_of, are_apart}
use Rattle.desk_history.specs.Sendings.{plan_of}
use Rattle.desk_book.specs.OnCut.{sendings}
use Rattle.desk_cut.proofs.numbers.number.Goals as goal

-- where no two ranges have a sequence in common, the cut may take its sequences if it may take those of each
each_range : ByRanges → (day last : ℕ) (bs : List Batch) (sent : List SentSequence) → All IsBatch bs → All (λ b. day < b.settled) bs → last_sequence sent ≡ last
    → are_apart (ranges last (map (λ b. b.entries) bs)) ≡ true
    → may_send day sent bs ≡ list_all (is_past day) (map (latest_settled sent) (ranges_of sent bs))
each_range by_ranges day last bs sent batches later is apart =
    by_ranges day sent bs batches later
    ∙ ap (λ (b : Bool). b && list_all (λ r. is_past day (latest_settled sent r)) (ranges_of sent bs)) (ap (λ n. are_apart (ranges n (map (λ (b : Batch). b.entries) bs))) is ∙ apart)
    ∙ sym (list_all-map (is_past day) (latest_settled sent) (ranges_of sent bs))

pub returns-in-Ok-clause-ok : goal.returns-in-Ok-clause-ok
returns-in-Ok-clause-ok c =
    let loaded = c.in_ok-sent.ensures in
    let bs : List Batch = map plan_of (sendings c.args.holidays.now c.args.day c.args.waiting.now) in
    let counts : c.deref-2.result.now ≡ map (λ (b : Batch). b.entries) bs =
    c.deref-2.ensures.value ∙ c.in_ok-counts.ensures.value ∙ ap (λ (l : List Batch). map (λ b. b.entries) l) (c.deref.ensures.value ∙ loaded.loads) in
    let apart : are_apart (ranges c.args.last (map (λ (b : Batch). b.entries) bs)) ≡ true = ap (λ (l : List ℕ). are_apart (ranges c.args.last l)) (sym counts) ∙ c.in-Ok.ensures.apart in
    record {
      sent = loaded.sent;
      lapsed = loaded.lapsed;
      loads = loaded.loads;
      ranges = c.in-Ok.ensures.ranges ∙ ap (ranges c.args.last) counts;
      batches = subst (All IsBatch) loaded.loads loaded.batches;
      apart = apart;
      may = λ sent is. each_range c.by_ranges.ensures c.args.day c.args.last bs sent (subst (All IsBatch) loaded.loads loaded.batches)
          (subst (λ (l : List Batch). All (λ b. c.args.day < b.settled) l) loaded.loads loaded.later) is apart;
    }
