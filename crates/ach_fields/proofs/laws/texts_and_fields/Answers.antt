use Rattle.ach_fields.proofs.Texts.{without_blanks_after-with_blanks_after, with_blanks_after-without_blanks_after, length-with_blanks_after}
use Rattle.ach_fields.proofs.laws.texts_and_fields.Goals as goal

pub returns : goal.returns
returns c = record { read = without_blanks_after-with_blanks_after; written = with_blanks_after-without_blanks_after; long = length-with_blanks_after }
