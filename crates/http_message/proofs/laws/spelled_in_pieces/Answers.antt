use Rattle.http_message.proofs.LawLemmas.{spelled_in_pieces_of}
use Rattle.http_message.proofs.laws.spelled_in_pieces.Goals as goal

pub returns : goal.returns
returns c = spelled_in_pieces_of
