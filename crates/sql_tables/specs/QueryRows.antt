-- The rows that queries give: some columns of the rows of a table.
use Rattle.std.specs.Prelude.{[], ◌∷◌, ◌++◌}
use Rattle.sqlite.specs.Values.{or_null}
use Rattle.sqlite_value.specs.declared.value.Value.TheVariants.{Int, Text, Blob}
use Rattle.sqlite_value.specs.Order.{Row}
use Rattle.desk_history.specs.declared.operations.DaySum.{DaySum}
use Rattle.desk_history.specs.declared.operations.SuspenseRow.{SuspenseRow}
use Rattle.desk_rules.specs.Fields.{sec_text}
use Rattle.desk_rules.specs.ReturnCodes.{code_text}
use Rattle.sql_tables.specs.Columns.{number, flag, decimal_text, line_reference, direction_text, cause_text, reason_text, entry_columns, retried_columns}
use Rattle.sql_tables.specs.declared.row.entries.EntryAmount.{EntryAmount}
use Rattle.sql_tables.specs.declared.row.entries.EntryPlace.{EntryPlace}
use Rattle.sql_tables.specs.declared.row.entries.NumberedEntry.{NumberedEntry}
use Rattle.sql_tables.specs.declared.row.entries.PlacedEntry.{PlacedEntry}
use Rattle.sql_tables.specs.declared.row.items.ChangeLine.{ChangeLine}
use Rattle.sql_tables.specs.declared.row.items.EntryReturn.{EntryReturn}
use Rattle.sql_tables.specs.declared.row.items.ReturnLine.{ReturnLine}
use Rattle.sql_tables.specs.declared.row.lines.PostingLine.{PostingLine}
use Rattle.sql_tables.specs.declared.row.registry.KeyedIdentity.{KeyedIdentity}
use Rattle.sql_tables.specs.declared.row.submissions.OrderAndSettlement.{OrderAndSettlement}
use Rattle.sql_tables.specs.declared.row.submissions.SubmissionFacts.{SubmissionFacts}
use Rattle.sql_tables.specs.declared.row.submissions.SubmissionHead.{SubmissionHead}

-- odfi, odfi_name, destination, destination_name, operator_key
abbrev pub keyed_identity_row : KeyedIdentity → Row
keyed_identity_row d = let i = d.identity in Text i.odfi ∷ Text i.odfi_name ∷ Text i.destination ∷ Text i.destination_name ∷ Blob d.operator_key ∷ []

-- company, ord, ref, sec, direction, description, asked, of_ref, of_index, lapsed, settled
abbrev pub submission_head_row : SubmissionHead → Row
submission_head_row s =
    Text s.company ∷ number s.order ∷ Text s.reference
    ∷ Text (sec_text s.sec) ∷ Text (direction_text s.direction) ∷ Text s.description ∷ number s.asked
    ∷ retried_columns s.retried
    ++ flag s.lapsed ∷ or_null number s.settled ∷ []

-- ref, sec, direction, settled
abbrev pub submission_facts_row : SubmissionFacts → Row
submission_facts_row s = Text s.reference ∷ Text (sec_text s.sec) ∷ Text (direction_text s.direction) ∷ or_null number s.settled ∷ []

-- ord, settled
abbrev pub order_and_settlement_row : OrderAndSettlement → Row
order_and_settlement_row s = number s.order ∷ or_null number s.settled ∷ []

-- idx, then the entry's own
abbrev pub numbered_entry_row : NumberedEntry → Row
numbered_entry_row e = number e.index ∷ entry_columns e.entry

-- idx, prenote, cents
abbrev pub entry_amount_row : EntryAmount → Row
entry_amount_row a = number a.index ∷ flag a.prenote ∷ number a.cents ∷ []

-- company, ord, idx, then the entry's own
abbrev pub placed_entry_row : PlacedEntry → Row
placed_entry_row e = Text e.company ∷ number e.order ∷ number e.index ∷ entry_columns e.entry

-- company, ord, seq
abbrev pub entry_place_row : EntryPlace → Row
entry_place_row e = Text e.company ∷ number e.order ∷ or_null number e.place ∷ []

-- idx, code, day, late
abbrev pub entry_return_row : EntryReturn → Row
entry_return_row r = number r.index ∷ Text (code_text r.code) ∷ number r.day ∷ flag r.late ∷ []

-- no, ord, idx, code, day, late, info
abbrev pub return_line_row : ReturnLine → Row
return_line_row r = number r.number ∷ number r.order ∷ number r.back.index ∷ Text (code_text r.back.code) ∷ number r.back.day ∷ flag r.back.late ∷ Text r.info ∷ []

-- ord, idx, code, day, text
abbrev pub change_line_row : ChangeLine → Row
change_line_row c = number c.order ∷ number c.index ∷ Text c.code ∷ number c.day ∷ Text c.text ∷ []

-- value_day, cents, cause, ref, idx
abbrev pub posting_line_row : PostingLine → Row
posting_line_row p = number p.value_day ∷ Int p.cents ∷ Text (cause_text p.cause) ∷ line_reference p.reference ∷ number p.idx ∷ []

-- file_key, item, why, code, trace, cents, day
abbrev pub suspense_line_row : SuspenseRow → Row
suspense_line_row s = Text s.file ∷ number s.item ∷ Text (reason_text s.why) ∷ Text s.code ∷ Text s.trace ∷ number s.cents ∷ number s.day ∷ []

-- value_day, cents
abbrev pub day_sum_row : DaySum → Row
day_sum_row s = number s.day ∷ decimal_text s.cents ∷ []
