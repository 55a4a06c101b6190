use Rattle.std.proofs.Common.{rules, ◌≡◌, ◌∙◌, ◌+ℤ◌, ap, pos, to_z, of_z}
use Rattle.std.specs.Prelude.{unwrap_or}
use Rattle.std.specs.BTreeMap.{insert_entry}
use Rattle.std.specs.Int.{w128}
use Rattle.std.specs.Ordering.{nat_cmp}
use Rattle.std.proofs.lemmas.Int.{to_z-of_z}
use Rattle.memory_store.proofs.DaySums.{summed}
use Rattle.memory_store.proofs.balances.add_to_day.Goals as goal

pub returns : goal.returns
returns c = λ ascending.
    let rows = c.args.sums.now.entries in
    let cents : to_z w128 (of_z w128 c.args.cents) ≡ c.args.cents = to_z-of_z w128 c.args.cents c.ranges.cents in
    let sum : to_z w128 (of_z w128 c.in-Some.sum) ≡ c.in-Some.sum = search rules in
    c.in_ok-insert.ensures.entries
    ∙ ap (insert_entry nat_cmp rows c.args.day) (sum ∙ c.in-Some.ensures ∙ (λ i. unwrap_or ((c.copied.ensures ∙ c.get.ensures.value) i) (pos 0) +ℤ cents i))
    ∙ summed rows c.args.day c.args.cents ascending
