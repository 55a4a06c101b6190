use Rattle.desk_tables.proofs.files.migrate_file_in.Goals as goal

pub returns-in-Ok-clause-migrated : goal.returns-in-Ok-clause-migrated
returns-in-Ok-clause-migrated g c = rw c.new.ensures c.in-Ok.ensures.migrated

pub returns-in-Ok-clause-told : goal.returns-in-Ok-clause-told
returns-in-Ok-clause-told g c = rw c.new.ensures c.in-Ok.ensures.told
