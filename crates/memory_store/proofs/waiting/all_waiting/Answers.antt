use Rattle.std.proofs.Common.{◌≡◌, ◌∙◌, ◌+◌, ◌++◌, ◌∷◌, List, ap, sym, drop, append_assoc}
use Rattle.std.specs.List.{flat_map}
use Rattle.std.proofs.lemmas.List.{drop_more}
use Rattle.desk_rules.specs.declared.bodies.company.Company.{Company}
use Rattle.desk_book.specs.declared.held_submission.HeldSubmission.{HeldSubmission}
use Rattle.memory_store.specs.Finds.{rows_for, waiting_for}
use Rattle.memory_store.proofs.HeldRows.{waiting_all}
use Rattle.memory_store.proofs.waiting.all_waiting.Goals as goal

pub loop-company-preserved : goal.loop-company-preserved
loop-company-preserved c = λ find.
    let k = c.company-item.result in
    let kept = c.args.kept.now in
    let companies = c.args.companies.now in
    let at = c.loop-company.company-index in
    let found = c.loop-company.found.items in
    let later = drop (at + 1) companies in
    let split : drop at companies ≡ k ∷ later = drop_more companies at k c.loop-company-test.true ∙ ap (λ (one : Company). one ∷ later) (sym c.company-item.is) in
    let waits = λ (one : Company). waiting_for one (rows_for kept one.id) in
    ap (λ (xs : List HeldSubmission). xs ++ flat_map waits later) (c.in_ok-push_waiting.ensures find.originals
    ∙ ap (λ (xs : List HeldSubmission). found ++ xs) (waiting_all k kept c.args.index.now c.args.references.now c.whole.result c.of-places.result.now find c.whole.ensures c.of-places.ensures))
    ∙ append_assoc found (waits k) (flat_map waits later)
    ∙ ap (λ (ks : List Company). found ++ flat_map waits ks) (sym split)
    ∙ c.loop-company.invariant find
