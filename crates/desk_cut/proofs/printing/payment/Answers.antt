use Rattle.std.proofs.Common.{ap, ◌∙◌}
use Rattle.ach_fields.specs.Text.{is_short_text}
use Rattle.desk_cut.proofs.Prints.{addenda_prints}
use Rattle.desk_cut.proofs.printing.payment.Goals as goal

pub returns-in-Some-clause-fits : goal.returns-in-Some-clause-fits
returns-in-Some-clause-fits c = λ trace within.
    addenda_prints (record { information = c.bytes.result; trace = trace }) (ap (is_short_text 80) c.bytes.ensures.value ∙ c.bytes.ensures.valid) within
