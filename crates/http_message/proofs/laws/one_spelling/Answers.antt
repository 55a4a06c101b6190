use Rattle.http_message.proofs.LawLemmas.{one_spelling_of}
use Rattle.http_message.proofs.laws.one_spelling.Goals as goal

pub returns : goal.returns
returns c = one_spelling_of
