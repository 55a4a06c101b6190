use Rattle.desk_cli.proofs.init_desk.make_desk.Goals as goal

pub returns-in-Err-new_desk-clause-answered : goal.returns-in-Err-new_desk-clause-answered
returns-in-Err-new_desk-clause-answered g c = λ fine. rw c.fault.ensures at (c.print_open_fault.ensures.answered fine)

pub returns-in-Err-new_desk-clause-failed : goal.returns-in-Err-new_desk-clause-failed
returns-in-Err-new_desk-clause-failed g c = λ failed. rw c.fault.ensures at (c.print_open_fault.ensures.failed failed)
