use Rattle.std.proofs.Common.{◌≤◌, List, ℕ, All, max, arith, sym, ◌∙◌, subst, get_or}
use Rattle.bank_days.specs.Calendar.{AreHolidays}
use Rattle.bank_days.proofs.BankingDays.{seeks_from, seeks_on, seeks_end}
use Rattle.bank_days.proofs.calendar.Calendar.following.Goals as goal

-- a later bound
within : (hs : List ℕ) (d : ℕ) → AreHolidays hs → All (λ h. h ≤ max d 47_662) hs
within hs d are k e lt = let h : get_or hs k e ≤ 47_662 = are.bounded k e lt in omega arith

pub loop-next-init : goal.loop-next-init
loop-next-init c = rw c.tomorrow-next.ensures (seeks_from c.args.self.now c.args.day (max c.args.day 47_662) (omega arith))

pub loop-next-preserved : goal.loop-next-preserved
loop-next-preserved c =
    let are : AreHolidays c.args.self.now = subst AreHolidays c.self.view_is c.self.invariant in
    let other = sym c.is_banking.ensures ∙ c.loop-next-test.true in
    rw c.tomorrow-next-in-loop-next.ensures (seeks_on c.args.self.now c.args.day _ c.loop-next.next (within c.args.self.now c.args.day are) (omega arith) c.loop-next.invariant other)

pub returns-clause-next : goal.returns-clause-next
returns-clause-next c =
    seeks_end c.args.self.now c.args.day _ c.loop-next.next c.loop-next.invariant (sym c.is_banking.ensures ∙ c.loop-next-test.false)
