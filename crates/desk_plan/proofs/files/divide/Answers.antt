use Rattle.std.proofs.Common.{◌≡◌, List, [], ◌∷◌, ◌++◌, length, map, drop, sym, ap, ◌∙◌, arith, rules}
use Rattle.std.proofs.lemmas.List.{drop_all}
use Rattle.desk_plan.specs.declared.batch.Batch.{Batch}
use Rattle.desk_plan.specs.declared.load.Load.{Load}
use Rattle.desk_plan.specs.Files.{division}
use Rattle.desk_plan.proofs.Loads.{sizes_from, sizes_from-load}
use Rattle.desk_plan.proofs.Sizes.{sizes_only, sizes_whole, sizes_within}
use Rattle.desk_plan.proofs.files.divide.Goals as goal

pub returns-in_default-clause-only : goal.returns-in_default-clause-only
returns-in_default-clause-only c =
    let none : c.new-sizes.result.items ≡ map length (division c.args.batches.now) = search rules in
    sizes_only c.args.batches.now _ none

pub returns : goal.returns
returns c =
    let batches = c.args.batches.now in
    let first = c.in-Some.first.now in
    let rest = c.in-Some.rest.now in
    let done : drop c.loop-batch.batch-index rest ≡ [] = drop_all c.loop-batch.batch-index rest (omega arith) in
    let all : c.push-2.new.self.items ≡ map length (division batches) = c.in_ok-push.ensures.items
    ∙ ap (λ (bs : List Batch). c.loop-batch.sizes.items ++ sizes_from c.loop-batch.load bs) (sym done)
    ∙ c.loop-batch.invariant
    ∙ ap (λ (l : Load). sizes_from l rest) c.of-load.ensures
    ∙ sizes_from-load (first ∷ []) rest
    ∙ ap (λ (bs : List Batch). map length (division bs)) (sym c.in-Some.ensures.cases.0) in
    record { sizes = all; only = sizes_only batches _ all; whole = sizes_whole batches _ all; within = sizes_within batches _ all }
