use Rattle.std.proofs.Common.{rules}
use Rattle.http_answers.proofs.Blanks.{length-without_blanks_after}
use Rattle.http_answers.proofs.company.returns.trimmed_info.Goals as goal

pub returns-clause-short : goal.returns-clause-short
returns-clause-short c = search (rules, length-without_blanks_after)
