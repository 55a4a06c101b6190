use Rattle.std.proofs.Common.{◌∙◌}
use Rattle.std.proofs.lemmas.Result.{err_from_is_err_and}
use Rattle.cli_submit.specs.Messages.{text_of}
use Rattle.cli_submit.specs.Options.{texts_of}
use Rattle.cli_submit.proofs.MessageLemmas.{fault_first, fault_given, judged, message_is}
use Rattle.cli_submit.proofs.message.submit_message.Goals as goal

pub returns-in-Some-clause-message : goal.returns-in-Some-clause-message
returns-in-Some-clause-message c = fault_first (texts_of c.args.options.now) c.args.list.now c.in-Some.fault c.in-Some.ensures

pub returns-in_err-entries-clause-message : goal.returns-in_err-entries-clause-message
returns-in_err-entries-clause-message c =
    let p = err_from_is_err_and c.from_residual.result c.from_residual.ensures.1 in
    rw (p.1, p.2) (fault_given (texts_of c.args.options.now) c.args.list.now c.in_err-entries.field-0.0 c.in_default.ensures c.in_err-entries.ensures)

pub returns-clause-message : goal.returns-clause-message
returns-clause-message c =
    let e = c.in_ok-entries.ensures in
    (text_of (texts_of c.args.options.now) e.0, message_is (texts_of c.args.options.now) c.args.list.now e.0 c.in_default.ensures e.1, c.in_ok-message_text.ensures.text e.0 e.2)

pub returns-clause-reads_back : goal.returns-clause-reads_back
returns-clause-reads_back c =
    let e = c.in_ok-entries.ensures in
    let m = c.in_ok-message_text.ensures.reads_back e.0 e.2 in
    (e.0, judged (texts_of c.args.options.now) c.args.list.now c.in_default.ensures ∙ e.1, m)
