-- What queries select of the records of a table.
use Rattle.desk_accounts.specs.declared.posting.Posting.{Posting}
use Rattle.desk_history.specs.declared.operations.DaySum.{DaySum}
use Rattle.sql_tables.specs.declared.records.BalanceRecord.{BalanceRecord}
use Rattle.sql_tables.specs.declared.records.ChangeRecord.{ChangeRecord}
use Rattle.sql_tables.specs.declared.records.DeskRecord.{DeskRecord}
use Rattle.sql_tables.specs.declared.records.EntryRecord.{EntryRecord}
use Rattle.sql_tables.specs.declared.records.ReturnRecord.{ReturnRecord}
use Rattle.sql_tables.specs.declared.records.SubmissionRecord.{SubmissionRecord}
use Rattle.sql_tables.specs.declared.row.entries.EntryAmount.{EntryAmount}
use Rattle.sql_tables.specs.declared.row.entries.EntryPlace.{EntryPlace}
use Rattle.sql_tables.specs.declared.row.entries.NumberedEntry.{NumberedEntry}
use Rattle.sql_tables.specs.declared.row.entries.PlacedEntry.{PlacedEntry}
use Rattle.sql_tables.specs.declared.row.items.ChangeLine.{ChangeLine}
use Rattle.sql_tables.specs.declared.row.items.EntryReturn.{EntryReturn}
use Rattle.sql_tables.specs.declared.row.items.ReturnLine.{ReturnLine}
use Rattle.sql_tables.specs.declared.row.lines.PostingLine.{PostingLine}
use Rattle.sql_tables.specs.declared.row.registry.KeyedIdentity.{KeyedIdentity}
use Rattle.sql_tables.specs.declared.row.submissions.OrderAndSettlement.{OrderAndSettlement}
use Rattle.sql_tables.specs.declared.row.submissions.SubmissionFacts.{SubmissionFacts}
use Rattle.sql_tables.specs.declared.row.submissions.SubmissionHead.{SubmissionHead}

abbrev pub keyed_identity_of : DeskRecord → KeyedIdentity
keyed_identity_of d = record { identity = d.identity; operator_key = d.operator_key }

abbrev pub head_of : SubmissionRecord → SubmissionHead
head_of s = s.head

abbrev pub facts_of : SubmissionRecord → SubmissionFacts
facts_of s = let h = s.head in record { reference = h.reference; sec = h.sec; direction = h.direction; settled = h.settled }

abbrev pub order_of : SubmissionRecord → OrderAndSettlement
order_of s = record { order = s.head.order; settled = s.head.settled }

abbrev pub numbered_of : EntryRecord → NumberedEntry
numbered_of e = record { index = e.index; entry = e.entry }

abbrev pub amount_of : EntryRecord → EntryAmount
amount_of e = record { index = e.index; prenote = e.entry.prenote; cents = e.entry.cents }

abbrev pub placed_of : EntryRecord → PlacedEntry
placed_of e = record { company = e.company; order = e.order; index = e.index; entry = e.entry }

abbrev pub entry_place_of : EntryRecord → EntryPlace
entry_place_of e = record { company = e.company; order = e.order; place = e.place }

abbrev pub return_of : ReturnRecord → EntryReturn
return_of r = record { index = r.index; code = r.code; day = r.day; late = r.late }

abbrev pub return_line_of : ReturnRecord → ReturnLine
return_line_of r = record { number = r.number; order = r.order; back = return_of r; info = r.info }

abbrev pub change_line_of : ChangeRecord → ChangeLine
change_line_of c = record { order = c.order; index = c.index; code = c.code; day = c.day; text = c.text }

abbrev pub posting_line_of : Posting → PostingLine
posting_line_of p = record { value_day = p.value_day; cents = p.cents; cause = p.cause; reference = p.reference; idx = p.idx }

abbrev pub day_sum_of : BalanceRecord → DaySum
day_sum_of b = record { cents = b.cents; day = b.value_day }
