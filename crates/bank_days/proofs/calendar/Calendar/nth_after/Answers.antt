use Rattle.std.proofs.Common.{◌≡◌, arith, sym}
use Rattle.bank_days.proofs.BankingDays.{nth_is, nth_more}
use Rattle.bank_days.proofs.calendar.Calendar.nth_after.Goals as goal

pub returns-then-n-eq1-clause-value : goal.returns-then-n-eq1-clause-value
returns-then-n-eq1-clause-value c = rw c.if-n-eq1.true c.next-first.ensures.value

pub returns-else-n-eq1-clause-value : goal.returns-else-n-eq1-clause-value
returns-else-n-eq1-clause-value c =
    let two : c.args.n ≡ 2 = omega arith in
    let both = nth_more _ _ 1 _ _ c.next-first.ensures.counted c.following.ensures.next in
    rw two (sym (nth_is _ _ 2 _ both (omega (arith, c.next-first.ensures.within, c.following.ensures.soon))))

pub returns-else-n-eq1-clause-counted : goal.returns-else-n-eq1-clause-counted
returns-else-n-eq1-clause-counted c =
    let two : c.args.n ≡ 2 = omega arith in
    rw two (nth_more _ _ 1 _ _ c.next-first.ensures.counted c.following.ensures.next)
