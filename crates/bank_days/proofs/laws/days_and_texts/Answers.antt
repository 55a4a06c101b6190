use Rattle.bank_days.proofs.DayTexts.{written, within, read, long, plain, short, valid}
use Rattle.bank_days.proofs.laws.days_and_texts.Goals as goal

pub returns : goal.returns
returns c =
    let law = c.numbers_and_digits.ensures in
    record { written = written law; within = within; read = read law; long = long; plain = plain law; short = short; valid = valid law }
