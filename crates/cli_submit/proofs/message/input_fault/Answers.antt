use Rattle.std.proofs.Common.{◌∙◌, false, ap, sym}
use Rattle.std.specs.Result.{is_err}
use Rattle.ach_fields.specs.Names.{id_of}
use Rattle.desk_rules.specs.Fields.{is_key}
use Rattle.cli_submit.specs.Options.{texts_of}
use Rattle.cli_submit.proofs.MessageLemmas.{nothing_at_fault, refused_id}
use Rattle.cli_submit.proofs.message.input_fault.Goals as goal

pub returns : goal.returns
returns c =
    let company = refused_id c.args.options.now.company.now false (c.if-is_err.ensures.value ∙ ap is_err (c.new.ensures ∙ ap id_of c.as_bytes.ensures.value)) in
    let key = ap is_key (sym c.as_bytes-2.ensures.value) ∙ sym c.if-not-is_key.ensures in
    nothing_at_fault (texts_of c.args.options.now) c.args.size company key c.if-size-gt-MOST_BYTES.false
