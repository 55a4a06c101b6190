use Rattle.desk_accounts.proofs.Cancel.{lines_cancel, accounts_cancel}
use Rattle.desk_accounts.proofs.laws.pairs_cancel.Goals as goal

pub returns : goal.returns
returns c = record { lines = lines_cancel; accounts = accounts_cancel }
