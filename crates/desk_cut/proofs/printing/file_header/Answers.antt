use Rattle.std.proofs.Common.{ap, ◌∙◌, refl}
use Rattle.ach_fields.specs.Text.{is_short_text}
use Rattle.ach_records.specs.declared.print.FileHeaderText.{FileHeaderText}
use Rattle.std.specs.Prelude.{None}
use Rattle.desk_cut.proofs.Prints.{file_header_prints}
use Rattle.desk_cut.proofs.printing.file_header.Goals as goal

pub returns-clause-fits : goal.returns-clause-fits
returns-clause-fits c =
    let identity = c.args.identity.now in
    let header : FileHeaderText = record {
      destination = identity.destination;
      origin = identity.odfi;
      date = c.date_of.result;
      time = None;
      modifier = c.args.modifier;
      destination_name = c.bytes.result;
      origin_name = c.bytes-2.result;
    } in
    file_header_prints header (record {
      destination = c.text.ensures.valid;
      origin = c.text-2.ensures.valid;
      date = c.date_of.ensures.valid;
      one = c.requires.one;
      modifier = c.requires.printable;
      destination_name = ap (is_short_text 23) c.bytes.ensures.value ∙ c.bytes.ensures.valid;
      origin_name = ap (is_short_text 23) c.bytes-2.ensures.value ∙ c.bytes-2.ensures.valid;
    }) refl
