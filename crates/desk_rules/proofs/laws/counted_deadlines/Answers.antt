use Rattle.std.proofs.Common.{◌≡◌, ◌≤◌, ◌+◌, ℕ, List, ap, arith}
use Rattle.bank_days.specs.Calendar.{AreHolidays, nth_after, next_banking}
use Rattle.bank_days.specs.Laws.{NthBankingDays}
use Rattle.desk_rules.specs.declared.rules.time_class.TimeClass.TheVariants.{TwoBankingDays, SixtyDays}
use Rattle.desk_rules.specs.Deadlines.{deadline, last_day_of, last_rule_day}
use Rattle.desk_rules.specs.Laws.{IsCounted}
use Rattle.desk_rules.specs.TimeClasses.{time_class_of}
use Rattle.desk_rules.proofs.laws.counted_deadlines.Goals as goal

two_days : NthBankingDays → (code settled : ℕ) (holidays : List ℕ) → AreHolidays holidays → settled ≤ last_rule_day → time_class_of code ≡ TwoBankingDays → IsCounted (deadline code settled holidays) holidays settled 2
two_days law code settled holidays are near is =
    (nth_after holidays settled 2, ap (λ t. last_day_of t settled holidays) is, law.found holidays settled 2 47_662 are.bounded (omega arith) (omega arith) (omega arith))

sixty_days : NthBankingDays → (code settled : ℕ) (holidays : List ℕ) → AreHolidays holidays → settled ≤ last_rule_day → time_class_of code ≡ SixtyDays → IsCounted (deadline code settled holidays) holidays (settled + 60) 1
sixty_days law code settled holidays are near is =
    (next_banking holidays (settled + 60), ap (λ t. last_day_of t settled holidays) is, law.found holidays (settled + 60) 1 47_662 are.bounded (omega arith) (omega arith) (omega arith))

pub returns : goal.returns
returns c =
    let law = c.nth_banking_days.ensures in
    record { two_days = two_days law; sixty_days = sixty_days law; unlimited = λ code settled holidays is. ap (λ t. last_day_of t settled holidays) is }
