-- A line of an account that is known is a posting.
use Rattle.desk_accounts.specs.declared.account.Account.{Account}
use Rattle.desk_accounts.specs.declared.posting.Posting.{Posting}
use Rattle.sql_tables.specs.declared.row.lines.PostingLine.{PostingLine}

abbrev pub posting_of : Account → PostingLine → Posting
posting_of account line = record { account = account; value_day = line.value_day; cents = line.cents; cause = line.cause; reference = line.reference; idx = line.idx }
