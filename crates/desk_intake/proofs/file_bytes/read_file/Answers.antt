use Rattle.std.proofs.Common.{[], subst, sym}
use Rattle.ach_files.specs.declared.fault.Fault.{Fault}
use Rattle.ach_files.specs.FirstFault.{Tells, early_fault}
use Rattle.desk_intake.proofs.FileReading.{read_once, told_early}
use Rattle.desk_intake.proofs.file_bytes.read_file.Goals as goal

pub returns-in-Err : goal.returns-in-Err
returns-in-Err c = λ file is.
    let bytes = c.args.bytes.now in
    let told = c.in_ok-fault_of_bytes in
    let early = subst (λ (f : Fault). Tells f (early_fault bytes)) (sym told.ensures.same) (c.in-Err.ensures.read [] c.new-reader.ensures).0 in
    read_once c.one_message.ensures bytes _ file (told_early c.faults_stand.ensures bytes told.field-0 told.ensures.told early) is

pub returns : goal.returns
returns c = λ file is.
    let read = c.in_default.ensures.read [] c.new-reader.ensures in
    read_once c.one_message.ensures c.args.bytes.now c.finish.result file (c.finish.ensures.read c.args.bytes.now read.1) is
