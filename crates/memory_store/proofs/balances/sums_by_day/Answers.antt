use Rattle.std.proofs.Common.{◌≡◌, ℕ, suc, ◌+◌, ◌-◌, ◌<◌, List, ◌∷◌, ◌∙◌, ap, sym, drop, get_or, length, arith, map, ℤ, subst}
use Rattle.std.specs.List.Sorted.{IsStrictlyIncreasing}
use Rattle.std.proofs.Math.Seq.{drop-cons}
use Rattle.desk_accounts.specs.declared.posting.Posting.{Posting}
use Rattle.desk_accounts.specs.Balance.{day_sums}
use Rattle.memory_store.specs.Finds.{with_sum}
use Rattle.memory_store.proofs.DaySums.{own_line, other_line}
use Rattle.memory_store.proofs.balances.sums_by_day.Goals.{then-is+in_ok-add_line, else-is}
use Rattle.memory_store.proofs.balances.sums_by_day.Goals as goal

pub loop-done-preserved : goal.loop-done-preserved
loop-done-preserved c =
    let account = c.args.account in
    let all : List Posting = c.args.postings.now in
    let line : Posting = c.index-postings-postings.result in
    let n : ℕ = length all - (c.loop-done.done + 1) in
    let here : n < length all = omega arith in
    let place : length all - 1 - c.loop-done.done ≡ n = omega arith in
    let next : suc n ≡ length all - c.loop-done.done = omega arith in
    let rest : List Posting = drop (length all - c.loop-done.done) all in
    let split : drop n all ≡ line ∷ rest = drop-cons all n line here
    ∙ (λ i. (ap (λ (k : ℕ). get_or all k line) (sym place) ∙ sym c.index-postings-postings.is) i ∷ drop (next i) all) in
    let ascending : IsStrictlyIncreasing (map (λ row. row.0) c.loop-done.sums.entries) =
    subst (λ (rows : List (ℕ × ℤ)). IsStrictlyIncreasing (map (λ row. row.0) rows)) (sym c.loop-done.invariant) (c.balances_by_day.ensures.ascending account (drop (length all - c.loop-done.done) all)) in
    elim c.if-is.branch [
      | then-is+in_ok-add_line w ↦
          (λ i. (w.sums-is i).entries)
          ∙ w.in_ok-add_line.ensures ascending
          ∙ ap (with_sum line.value_day line.cents) c.loop-done.invariant
          ∙ own_line c.balances_by_day.ensures account line rest (sym c.is.ensures.value ∙ w.if-is.true)
          ∙ ap (day_sums account) (sym split)
      | else-is w ↦
          (λ i. (w.sums-is i).entries)
          ∙ c.loop-done.invariant
          ∙ other_line account line rest (sym c.is.ensures.value ∙ w.if-is.false)
          ∙ ap (day_sums account) (sym split)
    ]

pub returns : goal.returns
returns c =
    let none : length c.args.postings.now - c.loop-done.done ≡ 0 = omega arith in
    c.loop-done.invariant
    ∙ ap (λ (n : ℕ). day_sums c.args.account (drop n c.args.postings.now)) none
