use Rattle.desk_tables.proofs.files.create_in.Goals as goal

pub returns-in-Ok-clause-created : goal.returns-in-Ok-clause-created
returns-in-Ok-clause-created g c = rw c.new.ensures c.in-Ok.ensures.created

pub returns-in-Ok-clause-told : goal.returns-in-Ok-clause-told
returns-in-Ok-clause-told g c = rw c.new.ensures c.in-Ok.ensures.told
