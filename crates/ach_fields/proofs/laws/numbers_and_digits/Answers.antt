use Rattle.ach_fields.proofs.Digits.{number-digits, digits-number, length-digits, AreDigits-digits}
use Rattle.ach_fields.proofs.laws.numbers_and_digits.Goals as goal

pub returns : goal.returns
returns c = record { read = number-digits; written = digits-number; long = length-digits; plain = AreDigits-digits }
