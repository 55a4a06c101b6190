use Rattle.std.proofs.Common.{rules}
use Rattle.sql_writes.proofs.account_lines.rows.values_of.Goals as goal

pub returns : goal.returns
returns c =
    rw (c.number.ensures, c.characters.ensures, c.bytes.ensures.value, c.date.ensures, c.number-2.ensures, c.cause.ensures, c.line_reference.ensures, c.number-3.ensures) (search rules)
