use Rattle.bank_days.proofs.HolidayLaws.{made, makes, refused, read}
use Rattle.bank_days.proofs.laws.holiday_lists.Goals as goal

pub returns : goal.returns
returns c = record { made = made; makes = makes; refused = refused; read = read }
