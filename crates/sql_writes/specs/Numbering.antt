-- The tables whose rows are numbered from 1 on, in the order in which they came.
use Rattle.std.specs.Prelude.{◌≡◌, ℕ}
use Rattle.sql_statements.specs.Edits.{Edit, only_tells}
use Rattle.sql_tables.specs.TableEdits.{next_number}
use Rattle.sql_tables.specs.Tables.{Tables}
use Rattle.sql_writes.specs.declared.numbering.NumberedTable.{NumberedTable}
use Rattle.sql_writes.specs.declared.numbering.NumberedTable.TheVariants as tables

-- the number after the last that the table has
abbrev pub next_in : NumberedTable → Tables → ℕ
next_in tables.Postings t = next_number (λ p. p.number) t.postings
next_in tables.Returns t = next_number (λ r. r.number) t.returns
next_in tables.Changes t = next_number (λ c. c.number) t.changes
next_in tables.Suspense t = next_number (λ s. s.number) t.suspense

-- a read, which finds that this number comes after the last
abbrev pub next_is : NumberedTable → ℕ → Edit Tables
next_is table n = only_tells (λ t. n ≡ next_in table t)
