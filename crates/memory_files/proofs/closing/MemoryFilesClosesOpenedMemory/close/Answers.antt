use Rattle.memory_files.proofs.closing.MemoryFilesClosesOpenedMemory.close.Goals as goal

pub returns-in-Some-Ok : goal.returns-in-Some-Ok
returns-in-Some-Ok c = rw c.in-Some-Ok.is (rw c.in-Some-Ok.field-0-is (c.close_files.result, c.close_files.ensures, c.put_back.ensures))
