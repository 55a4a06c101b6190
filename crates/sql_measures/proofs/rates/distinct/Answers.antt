use Rattle.std.proofs.Common.{◌≡◌, ℕ, List, eqb, sym, subst, arith}
use Rattle.std.proofs.lemmas.Cmp.{nat_cmp_total}
use Rattle.std.proofs.lemmas.List.Filters.{dedup_is}
use Rattle.std.proofs.lemmas.List.Kept.{IsStrictlySortedBy-dedup, Contains-dedup_nat}
use Rattle.std.proofs.lemmas.List.Sorted.{Contains-permutation}
use Rattle.std.specs.List.Sorted.{IsStrictlySortedBy}
use Rattle.std.specs.Ordering.{nat_cmp, is_eq}
use Rattle.std.specs.Prelude.{Contains}
use Rattle.sql_measures.proofs.rates.distinct.Goals as goal

ties : (a b : ℕ) → eqb a b ≡ is_eq (nat_cmp a b)
ties a b = grind arith

pub returns-clause-rise : goal.returns-clause-rise
returns-clause-rise c =
    subst (IsStrictlySortedBy nat_cmp) (sym (dedup_is eqb _ _ c.dedup.ensures.filtered)) (IsStrictlySortedBy-dedup nat_cmp_total ties _ c.sort_unstable.ensures.sorted)

pub returns-clause-all : goal.returns-clause-all
returns-clause-all c n has =
    subst (λ (l : List ℕ). Contains l n) (sym (dedup_is eqb _ _ c.dedup.ensures.filtered)) (Contains-dedup_nat _ n (Contains-permutation _ _ n c.sort_unstable.ensures.permutation has))
