use Rattle.std.proofs.Common.{◌≡◌, ◌++◌, length, rules}
use Rattle.cli_submit.specs.Messages.{head_text}
use Rattle.cli_submit.specs.Options.{texts_of}
use Rattle.cli_submit.proofs.MessageLemmas.{text_is, reads_as}
use Rattle.cli_submit.proofs.message.message_text.Goals as goal

pub returns-clause-text : goal.returns-clause-text
returns-clause-text c = λ rows are.
    let first : c.into_bytes-message.result.items ≡ head_text (texts_of c.args.options.now) (length c.in_ok-body.body.items) = search rules in
    let text : c.extend_from_slice.new.self.items ≡ c.into_bytes-message.result.items ++ c.in_ok-body.body.items = search rules in
    text_is (texts_of c.args.options.now) c.into_bytes-message.result.items c.in_ok-body.body.items _ rows first text (c.in_ok-body.ensures.text rows are)

pub returns-clause-reads_back : goal.returns-clause-reads_back
returns-clause-reads_back c = λ rows are.
    let first : c.into_bytes-message.result.items ≡ head_text (texts_of c.args.options.now) (length c.in_ok-body.body.items) = search rules in
    let text : c.extend_from_slice.new.self.items ≡ c.into_bytes-message.result.items ++ c.in_ok-body.body.items = search rules in
    reads_as (texts_of c.args.options.now) c.into_bytes-message.result.items c.in_ok-body.body.items _ rows first text (c.in_ok-body.ensures.reads_back rows are)
