use Rattle.std.proofs.Common.{◌≡◌, ℕ, List, [], Some, ◌++◌, refl, ◌∙◌}
use Rattle.ach_files.specs.FirstFault.{fault, early_fault}
use Rattle.ach_files.specs.declared.fault.Fault.{Fault}
use Rattle.ach_files.proofs.Firsts.{first_append}
use Rattle.ach_files.proofs.laws.faults_stand.Goals as goal

early : (bytes rest : List ℕ) (f : Fault) → early_fault bytes ≡ Some f → early_fault (bytes ++ rest) ≡ Some f
early bytes rest f h = first_append [] bytes rest ∙ rw h refl

stands : (bytes rest : List ℕ) (f : Fault) → early_fault bytes ≡ Some f → fault (bytes ++ rest) ≡ Some f
stands bytes rest f h = rw (early bytes rest f h) refl

pub returns : goal.returns
returns c = λ bytes rest f h. stands bytes rest f h
