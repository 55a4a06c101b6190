use Rattle.std.proofs.Common.{◌≡◌, ℕ, suc, ◌+◌, ◌-◌, ◌<◌, List, ◌∷◌, ◌∙◌, ap, sym, drop, get_or, length, arith}
use Rattle.std.proofs.Math.Seq.{drop-cons}
use Rattle.desk_accounts.specs.Balance.{with_day}
use Rattle.desk_cut.specs.declared.sizes.SentSize.{SentSize}
use Rattle.desk_cut.specs.Sizes.{settlement_days}
use Rattle.desk_cut.proofs.status.days_of.Goals as goal

pub loop-done-preserved : goal.loop-done-preserved
loop-done-preserved c =
    let all : List SentSize = c.args.sent.now in
    let one : SentSize = c.index-sent-sent.result in
    let n : ℕ = length all - (c.loop-done.done + 1) in
    let here : n < length all = omega arith in
    let place : length all - 1 - c.loop-done.done ≡ n = omega arith in
    let next : suc n ≡ length all - c.loop-done.done = omega arith in
    let split : drop n all ≡ one ∷ drop (length all - c.loop-done.done) all = drop-cons all n one here
    ∙ (λ i. (ap (λ (k : ℕ). get_or all k one) (sym place) ∙ sym c.index-sent-sent.is) i ∷ drop (next i) all) in
    c.in_ok-add_day.ensures
    ∙ ap (with_day one.settled) c.loop-done.invariant
    ∙ ap settlement_days (sym split)

pub returns : goal.returns
returns c =
    let none : length c.args.sent.now - c.loop-done.done ≡ 0 = omega arith in
    c.loop-done.invariant
    ∙ ap (λ (n : ℕ). settlement_days (drop n c.args.sent.now)) none
