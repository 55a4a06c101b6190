use Rattle.desk_history.proofs.laws.first_answer_stands.Goals as goal
use Rattle.desk_history.proofs.Repeated.FirstAnswers.{first_answer_stands}

pub returns : goal.returns
returns c = first_answer_stands c.same_contents.ensures
