use Rattle.sql_write_laws.proofs.submission.submission_follows.Goals as goal
use Rattle.sql_write_laws.proofs.NewSubmission.{submission_made}

pub returns : goal.returns
returns c = submission_made
