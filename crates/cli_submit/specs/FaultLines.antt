-- The lines that are printed in place of a message.
use Rattle.std.specs.Prelude.{ℕ, List, ◌++◌, codes, decimal}
use Rattle.cli_submit.specs.declared.fault.InputFault.{InputFault}
use Rattle.cli_submit.specs.declared.fault.InputFault.TheVariants.{BadCompany, BadKey, TooLarge, BadHeader, Row}
use Rattle.cli_submit.specs.declared.fault.RowFault.{RowFault}
use Rattle.cli_submit.specs.declared.fault.RowFault.TheVariants.{BadRow, BadCents, BadPrenote}

-- the words of a row's fault
abbrev pub name_of : RowFault → List ℕ
name_of BadRow = codes "bad row"
name_of BadCents = codes "bad cents"
name_of BadPrenote = codes "bad prenote"

-- `row N: bad row`
abbrev pub row_fault_line : (number : ℕ) → RowFault → List ℕ
row_fault_line number f = codes "row " ++ (decimal number ++ (codes ": " ++ name_of f))

-- the line of a fault
abbrev pub fault_line : InputFault → List ℕ
fault_line BadCompany = codes "bad company"
fault_line BadKey = codes "bad key"
fault_line TooLarge = codes "too large"
fault_line BadHeader = codes "bad header"
fault_line (Row number f) = row_fault_line number f
