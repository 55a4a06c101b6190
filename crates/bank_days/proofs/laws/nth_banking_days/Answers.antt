use Rattle.std.proofs.Common.{arith}
use Rattle.bank_days.proofs.BankingDays.{only_one, sought, nth_rises}
use Rattle.bank_days.proofs.laws.nth_banking_days.Goals as goal

pub returns : goal.returns
returns c = record {
  found = λ holidays d n last all le some near. (sought holidays d n last all le some near).0;
  only = only_one;
  soon = λ holidays d n last all le some near. (sought holidays d n last all le some near).1;
  rising = λ holidays d e n last all up le some near.
      nth_rises holidays d e n _ _ up (sought holidays d n last all (omega arith) some near).0 (sought holidays e n last all le some near).0;
}
