use Rattle.std.proofs.Common.{◌≡◌, ◌+ℤ◌, length, set, get_or, to_z, of_z, sym, ap, ◌∙◌, subst, rules}
use Rattle.std.specs.Int.{w64, w128}
use Rattle.std.specs.List.{refill}
use Rattle.sql_writes.specs.PendingBalances.{summed, AddsLine}
use Rattle.sql_writes.proofs.PendingSums.{set_through, added_there}
use Rattle.sql_writes.proofs.account_lines.pending.add_there.Goals as goal

pub returns : goal.returns
returns c =
    let p = c.args.line.now in
    let xs = c.args.pending.now.items in
    let at = c.args.at in
    let b = c.index-deref-at.result in
    let sum = c.in_ok-sum.sum in
    let cents : to_z w64 (of_z w64 p.cents) ≡ p.cents = search rules in
    let before : to_z w128 (of_z w128 b.cents) ≡ b.cents = search rules in
    let whole : to_z w128 (of_z w128 sum) ≡ sum = search rules in
    let here : get_or c.deref.result.now at b ≡ b = sym c.index-deref-at.is in
    let there : b ≡ get_or xs at b = sym here ∙ ap (λ l. get_or l at b) c.deref.ensures.0 in
    let is : sum ≡ b.cents +ℤ p.cents = rw (here, before, cents) at c.in_ok-sum.ensures in
    let new : c.with_sum.result ≡ summed p sum = rw whole at c.with_sum.ensures in
    let all : refill (length xs) xs (set c.deref_mut.result.now at c.with_sum.result) ≡ set xs at (summed p sum) = (λ i. refill (length xs) xs (set (c.deref_mut.ensures.value i) at (new i))) ∙ set_through xs at (summed p sum) in
    subst (AddsLine p xs) (sym all) (added_there p sum xs at b c.requires.first c.requires.within (is ∙ ap (λ x. x.cents +ℤ p.cents) there))
