use Rattle.csv.specs.Records.{fields_of}
use Rattle.cli_submit.proofs.RowTexts.{read_text}
use Rattle.cli_submit.proofs.row.text_at.Goals as goal

pub returns : goal.returns
returns c = read_text (fields_of c.args.row.now) c.args.place c.in_ok-get.field-0.now _ c.from_utf8.result c.ok.result c.in_ok-get.ensures.value c.from_utf8.ensures.cases c.ok.ensures.value
