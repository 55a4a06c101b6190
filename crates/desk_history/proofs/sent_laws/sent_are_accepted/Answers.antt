use Rattle.desk_history.proofs.sent_laws.sent_are_accepted.Goals as goal
use Rattle.desk_history.proofs.Sent.SentEntries.{sent_are_accepted}

pub returns : goal.returns
returns c = sent_are_accepted
