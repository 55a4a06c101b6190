use Rattle.bank_days.proofs.BankingDays.{rolled_first}
use Rattle.bank_days.proofs.laws.rolled_days.Goals as goal

pub returns : goal.returns
returns c = record {
  first = λ holidays d last all le near. (rolled_first holidays d last all le near).0;
  soon = λ holidays d last all le near. (rolled_first holidays d last all le near).1;
}
