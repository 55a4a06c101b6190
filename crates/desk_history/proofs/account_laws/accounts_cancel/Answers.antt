use Rattle.desk_history.proofs.account_laws.accounts_cancel.Goals as goal
use Rattle.desk_history.proofs.Accounts.AllAccounts.{accounts_cancel}

pub returns : goal.returns
returns c = accounts_cancel c.pairs_cancel.ensures
