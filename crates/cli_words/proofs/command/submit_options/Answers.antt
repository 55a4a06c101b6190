use Rattle.std.proofs.Common.{refl}
use Rattle.cli_words.proofs.command.submit_options.Goals as goal

pub returns : goal.returns
returns c =
    rw (
      c.argument_text.ensures,
      c.argument_text-2.ensures,
      c.argument_text-3.ensures,
      c.argument_text-4.ensures,
      c.argument_text-5.ensures,
      c.argument_text-6.ensures,
      c.argument_text-7.ensures,
    ) refl
