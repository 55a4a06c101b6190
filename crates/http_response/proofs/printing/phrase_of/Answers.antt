use Rattle.std.proofs.Common.{sym, subst}
use Rattle.http_response.proofs.Phrases.{IsShort, phrase_is_short}
use Rattle.http_response.proofs.printing.phrase_of.Goals as goal

pub returns-in-Some-clause-short : goal.returns-in-Some-clause-short
returns-in-Some-clause-short c = subst IsShort (sym c.in-Some.ensures.value) (phrase_is_short c.args.status)
