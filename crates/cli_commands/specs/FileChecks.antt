-- The answer to an incoming file: whether it has no fault, and the line with its counts or its fault.
use Rattle.std.specs.Prelude.{◌≡◌, ◌⊎◌, ℕ, Bool, true, false, not, List, ◌++◌, count_by, decimal, Option, Some, codes, Vec}
use Rattle.std.specs.declared.alloc.Global.{Global}
use Rattle.ach_files.specs.Facts.{FileFacts}
use Rattle.ach_files.specs.FaultNames.{name_of}
use Rattle.ach_files.specs.File.{IsReadAs}
use Rattle.ach_files.specs.FirstFault.{fault}
use Rattle.ach_files.specs.declared.fault.Fault.{Fault}
use Rattle.ach_files.specs.declared.facts.ItemFacts.{ItemFacts}
use Rattle.ach_files.specs.declared.facts.ReturnOrChange.{ReturnOrChange}
use Rattle.ach_files.specs.declared.facts.ReturnOrChange.TheVariants.{Return, Change}
use Rattle.cli_commands.specs.Inputs.{MayHave}
use Rattle.cli_commands.specs.BodyAnswers.{IsAnswer}
use Rattle.cli_commands.specs.Printing.{with_line_feed, PrintsAnswer, SaysUnavailable}
use Rattle.io_retries.specs.Written.{IsCutOff}
use Rattle.io_retries.specs.declared.sink.Sink as sink
use Rattle.cli_commands.specs.declared.status.Status.{Status}
use Rattle.cli_commands.specs.declared.file_verdict.Verdict.{Verdict}
use Rattle.cli_commands.specs.declared.file_verdict.Verdict.TheVariants.{Fine, Faulty}

-- a notification of change, and no return
abbrev pub is_change : ReturnOrChange → Bool
is_change (Return _) = false
is_change (Change _) = true

-- how many of the items are changes
abbrev pub change_count : List ItemFacts → ℕ
change_count items = count_by (λ i. is_change i.return_or_change) items

-- how many of the items are returns
abbrev pub return_count : List ItemFacts → ℕ
return_count items = count_by (λ i. not (is_change i.return_or_change)) items

-- The bytes are a file with these numbers of returns and changes, or have this fault. No bytes have two verdicts.
abbrev pub IsVerdict : (bytes : List ℕ) → Verdict → Type 0
IsVerdict bytes (Fine r c) = (facts : FileFacts) × IsReadAs bytes facts × (r ≡ return_count facts.items) × (c ≡ change_count facts.items)
IsVerdict bytes (Faulty f) = fault bytes ≡ Some f

-- it is the verdict on what the input has
abbrev pub IsVerdictOn : (input : Option (List ℕ)) → Verdict → Type 0
IsVerdictOn input verdict = (bytes : List ℕ) × MayHave input bytes × IsVerdict bytes verdict

-- `ok R returns C changes`
abbrev pub counts_line : (returns changes : ℕ) → List ℕ
counts_line returns changes =
    codes "ok " ++ (decimal returns ++ (codes " returns " ++ (decimal changes ++ codes " changes")))

-- `FAULT at record N`
abbrev pub fault_line : Fault → List ℕ
fault_line f = name_of f.kind ++ codes " at record " ++ decimal f.at

-- whether the file is without a fault, and the line
abbrev pub verdict_answer : Verdict → Bool × List ℕ
verdict_answer (Fine r c) = (true, counts_line r c)
verdict_answer (Faulty f) = (false, fault_line f)

-- the answer to what the input has
abbrev pub IsCheckAnswer : (input : Option (List ℕ)) → (given : Bool × Vec ℕ Global) → Type 0
IsCheckAnswer input given = (verdict : Verdict) × IsVerdictOn input verdict × IsAnswer (with_line_feed (verdict_answer verdict)) given

-- the command answered all that its input had
abbrev pub HasChecked : {W : Type 0} → (input : Option (List ℕ)) → sink.Ghosts W → (old new : W) → Status → Type 0
HasChecked input w old new status =
    (verdict : Verdict) × IsVerdictOn input verdict
    × PrintsAnswer (with_line_feed (verdict_answer verdict)) w old new status

-- a check that failed printed `unavailable`, or a write of that or of its answer failed
abbrev pub IsFailedCheck : {W : Type 0} → (input : Option (List ℕ)) → sink.Ghosts W → (old new : W) → Type 0
IsFailedCheck input w old new =
    SaysUnavailable w old new
    ⊎ ((verdict : Verdict) × IsVerdictOn input verdict × IsCutOff (with_line_feed (verdict_answer verdict)).1 w old new)
