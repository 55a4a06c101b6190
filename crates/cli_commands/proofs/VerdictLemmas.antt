-- Verdicts on what an input has.
use Rattle.std.proofs.Common.{◌≡◌, ℕ, List, Option, Some, None, IfSome, refl, sym, subst}
use Rattle.ach_files.specs.Facts.{FileFacts}
use Rattle.ach_files.specs.File.{IsReadAs}
use Rattle.cli_commands.specs.Inputs.{MayHave}
use Rattle.cli_commands.specs.FileChecks.{IsVerdict, IsVerdictOn, return_count, change_count}
use Rattle.cli_commands.specs.declared.file_verdict.Verdict.{Verdict}
use Rattle.cli_commands.specs.declared.file_verdict.Verdict.TheVariants.{Fine}

-- a verdict on all bytes that pass is one on those of the input, which pass
pub on_input : (P : List ℕ → Type 0) (known : Option (List ℕ)) (o : Option Verdict) → (bytes : List ℕ) × MayHave known bytes × P bytes
    → ((bytes : List ℕ) → P bytes → IfSome o (λ v. IsVerdict bytes v)) → IfSome o (IsVerdictOn known)
on_input P known None h f = tt
on_input P known (Some v) h f = (h.0, h.1, f h.0 h.2)

-- the counts of what was taken
pub counts_verdict : (facts : FileFacts) (bytes : List ℕ) (v : Verdict) → v ≡ Fine (return_count facts.items) (change_count facts.items)
    → IsReadAs bytes facts → IsVerdict bytes v
counts_verdict facts bytes v e is = subst (IsVerdict bytes) (sym e) (facts, is, refl, refl)
