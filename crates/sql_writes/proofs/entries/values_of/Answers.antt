use Rattle.std.proofs.Common.{rules}
use Rattle.sql_writes.proofs.entries.values_of.Goals as goal

pub returns : goal.returns
returns c =
    rw (c.characters.ensures, c.bytes.ensures.value, c.number.ensures, c.number-2.ensures, c.characters-2.ensures, c.characters-3.ensures, c.bytes-2.ensures.value, c.savings.ensures, c.switch.ensures, c.number-3.ensures, c.characters-4.ensures, c.bytes-3.ensures.value, c.characters-5.ensures, c.bytes-4.ensures.value, c.optional_text.ensures) (search rules)
