use Rattle.serde_json.specs.View.{items_view}
use Rattle.cli_submit.specs.Options.{texts_of}
use Rattle.cli_submit.proofs.BodyShape.{reads_back, written}
use Rattle.cli_submit.proofs.body.body_text.Goals as goal

pub returns-clause-text : goal.returns-clause-text
returns-clause-text c =
    written (texts_of c.args.options.now) (items_view c.args.entries.items) _ _ c.in_ok-body_value.ensures c.to_vec.ensures.text

pub returns-clause-reads_back : goal.returns-clause-reads_back
returns-clause-reads_back c =
    reads_back (texts_of c.args.options.now) (items_view c.args.entries.items) _ _ c.in_ok-body_value.ensures
    c.to_vec.ensures.utf8 c.to_vec.ensures.reads_back
