use Rattle.sql_setup.proofs.Memory.{memory_is_clean}
use Rattle.sql_store.proofs.open.SqlStore+MemStore.in_memory.Goals as goal

pub returns-in-Ok-create_on : goal.returns-in-Ok-create_on
returns-in-Ok-create_on c = (c.in-Ok-create_on.ensures.created (memory_is_clean c.in-Ok-create_on.store.conn)).sees
