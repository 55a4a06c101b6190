-- The result of reading the bytes of a file.
use Rattle.std.proofs.Common.{◌≡◌, ◌∙◌, sym, ap, ℕ, List, [], ◌++◌, inl, inr}
use Rattle.std.specs.Prelude.{MatchResult, Some, Result, Ok, Err}
use Rattle.std.proofs.lemmas.List.{append-nil}
use Rattle.ach_files.specs.declared.fault.Fault.{Fault}
use Rattle.ach_files.specs.declared.fault.FileFault.TheVariants as faults
use Rattle.ach_files.specs.Facts.{FileFacts}
use Rattle.ach_files.specs.File.{IsReadAs}
use Rattle.ach_files.specs.FirstFault.{Tells, early_fault, fault}
use Rattle.desk_history.specs.declared.call.Call.TheVariants as calls
use Rattle.desk_history.specs.Calls.{IsFileOf, OneMessage}
use Rattle.desk_history.specs.Message.{TakeFile}

-- bytes are read in one way
pub read_once : OneMessage → (bytes : List ℕ) (r file : Result FileFacts Fault) → MatchResult r (IsReadAs bytes) (λ f. fault bytes ≡ Some f)
    → IsFileOf bytes (TakeFile file) → r ≡ file
read_once one bytes (Ok facts) file read is =
    let same : TakeFile (Ok facts) ≡ TakeFile file = one.only (calls.TakeFile bytes) (TakeFile (Ok facts)) (TakeFile file) read is in
    cc
read_once one bytes (Err f) file read is =
    let same : TakeFile (Err f) ≡ TakeFile file = one.only (calls.TakeFile bytes) (TakeFile (Err f)) (TakeFile file) read is in
    cc

-- an early fault that is not lack of memory is the fault of the bytes
pub told_early : ((bytes rest : List ℕ) (f : Fault) → early_fault bytes ≡ Some f → fault (bytes ++ rest) ≡ Some f)
    → (bytes : List ℕ) (f : Fault) → (f.kind ≡ faults.NoMemory → ⊥) → Tells f (early_fault bytes) → fault bytes ≡ Some f
told_early stands bytes f remembered (inl forgot) = absurd (remembered (ap (λ (x : Fault). x.kind) forgot))
told_early stands bytes f remembered (inr early) = ap fault (sym (append-nil bytes)) ∙ stands bytes [] f early
