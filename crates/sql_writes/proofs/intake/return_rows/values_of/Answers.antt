use Rattle.std.proofs.Common.{rules}
use Rattle.sql_writes.proofs.intake.return_rows.values_of.Goals as goal

pub returns : goal.returns
returns c =
    rw (c.number.ensures, c.characters.ensures, c.bytes.ensures.value, c.number-2.ensures, c.number-3.ensures, c.characters-2.ensures, c.date.ensures, c.switch.ensures, c.characters-3.ensures) (search rules)
