use Rattle.std.proofs.Common.{refl}
use Rattle.sqlite_disk.specs.contracts.memory.MemoryDisk.TheImpl as disk
use Rattle.sqlite.specs.Files.{file_state}
use Rattle.memory_files.specs.Opening.{kept_at}
use Rattle.memory_files.proofs.Taking.{found_bytes}
use Rattle.memory_files.proofs.opening.MemoryFilesDeskFiles.connect.Goals as goal

pub returns-in-Ok-connect-clause-told : goal.returns-in-Ok-connect-clause-told
returns-in-Ok-connect-clause-told c =
    let was = c.in-Ok-connect.ensures in
    let taken = c.in-Ok.ensures.taken in
    let found = found_bytes disk.ghosts (λ file. refl) (kept_at c.args.self.now c.args.path.now) c.in-Ok.files (file_state c.in-Ok-connect.conn) taken.taken was.found in
    ((c.in-Ok.files, taken), λ clean. record { opened = was.opened clean; found = found clean })

pub returns-in-Ok-connect-clause-found : goal.returns-in-Ok-connect-clause-found
returns-in-Ok-connect-clause-found c =
    let taken = c.in-Ok.ensures.taken in
    found_bytes disk.ghosts (λ file. refl) (kept_at c.args.self.now c.args.path.now) c.in-Ok.files (file_state c.in-Ok-connect.conn) taken.taken c.in-Ok-connect.ensures.found

pub returns-in-Err-clause-unopened : goal.returns-in-Err-clause-unopened
returns-in-Err-clause-unopened c = (c.in-Ok.files, c.in-Ok.ensures.usable.0, c.in-Ok.ensures.usable.1, c.in-Err.ensures.unopened)
