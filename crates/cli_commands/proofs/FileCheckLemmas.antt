-- The result of a check for an input that may be longer than a file.
use Rattle.std.proofs.Common.{◌≡◌, inl, inr, ◌<◌, ℕ, Bool, true, false, List, [], Option, None, Some, IfSome, option_map, refl, sym, ap, ◌∙◌, subst, nat_le, append-nil, take, drop, take_all, length, arith}
use Rattle.std.proofs.Math.ListN.{take-append-drop}
use Rattle.std.proofs.lemmas.List.{length-take-le}
use Rattle.std.proofs.lemmas.Bool.Decides.{nat_tests}
use Rattle.ach_files.specs.File.{IsFile}
use Rattle.ach_files.specs.FirstFault.{fault, early_fault}
use Rattle.ach_files.specs.Structure.{File}
use Rattle.ach_files.specs.declared.fault.Fault.{Fault}
use Rattle.cli_commands.proofs.FeedingLemmas.{FaultsStand}
use Rattle.cli_commands.proofs.PrintingLemmas.{Answer}
use Rattle.cli_commands.specs.FileChecks.{verdict_answer, IsVerdict, IsVerdictOn, IsCheckAnswer, HasChecked, IsFailedCheck}
use Rattle.cli_commands.specs.BodyAnswers.{IsAnswer}
use Rattle.cli_commands.specs.Printing.{FailsToPrint, PrintsLine, status_of, with_line_feed}
use Rattle.io_retries.specs.Written.{IsCutOff, IsWritten}
use Rattle.io_retries.specs.declared.sink.Sink as sink
use Rattle.cli_commands.specs.Inputs.{most_read}
use Rattle.cli_commands.specs.declared.status.Status.{Status}
use Rattle.cli_commands.specs.declared.file_verdict.Verdict.{Verdict}
use Rattle.cli_commands.specs.declared.file_verdict.Verdict.TheVariants.{Fine, Faulty}

-- more than these many bytes have a fault
abbrev pub LongHaveFaults : Type 0
LongHaveFaults = (bytes : List ℕ) → 4194304 < length bytes → (f : Fault) × (early_fault bytes ≡ Some f)

-- files have none
abbrev pub FilesAreFine : Type 0
FilesAreFine = (bytes : List ℕ) (f : File) → IsFile bytes f → fault bytes ≡ None

some_or_none : {A : Type 0} (f : A) (o : Option A) → o ≡ Some f → o ≡ None → ⊥
some_or_none f o e n = grind arith

-- a prefix's fault is the fault of all
early_verdict : (prefix all : List ℕ) (f : Fault) (v : Verdict) → FilesAreFine → fault prefix ≡ Some f → fault all ≡ Some f
    → IsVerdict prefix v → IsVerdict all v
early_verdict prefix all f (Fine r c) files e g is =
    absurd (some_or_none f (fault prefix) e (files prefix is.1.0 is.1.1))
early_verdict prefix all f (Faulty h) files e g is = g ∙ sym e ∙ is

cut : (n : ℕ) (w : List ℕ) (v : Verdict) → FilesAreFine → FaultsStand → (f : Fault) × (early_fault (take n w) ≡ Some f)
    → IsVerdict (take n w) v → IsVerdict w v
cut n w v files stands early =
    early_verdict (take n w) w early.0 v files
    (subst (λ l. fault l ≡ Some early.0) (append-nil (take n w)) (stands (take n w) [] early.0 early.1))
    (subst (λ l. fault l ≡ Some early.0) (take-append-drop n w) (stands (take n w) (drop n w) early.0 early.1))

cut_cases : (n : ℕ) (w : List ℕ) (v : Verdict) (b : Bool) → nat_le (length w) n ≡ b → FilesAreFine → FaultsStand
    → (n < length w → (f : Fault) × (early_fault (take n w) ≡ Some f)) → IsVerdict (take n w) v → IsVerdict w v
cut_cases n w v true e files stands long is = subst (λ l. IsVerdict l v) (take_all n w (grind (arith, nat_tests))) is
cut_cases n w v false e files stands long is = cut n w v files stands (long (grind (arith, nat_tests))) is

-- one byte more than a file may have decides
whole : (w : List ℕ) (v : Verdict) → FilesAreFine → FaultsStand → LongHaveFaults → IsVerdict (take most_read w) v → IsVerdict w v
whole w v files stands long =
    cut_cases most_read w v (nat_le (length w) most_read) refl files stands
    (λ lt. long (take most_read w) (let taken : length (take most_read w) ≡ most_read = length-take-le most_read w (omega (arith, lt)) in rw taken (omega arith)))

on_whole : (known : Option (List ℕ)) (v : Verdict) → FilesAreFine → FaultsStand → LongHaveFaults
    → IsVerdictOn (option_map (take most_read) known) v → IsVerdictOn known v
on_whole None v files stands long on = (on.0, tt, on.2)
on_whole (Some w) v files stands long on =
    (w, refl, whole w v files stands long (subst (λ l. IsVerdict l v) (sym on.1) on.2))

pub on_taken : (known : Option (List ℕ)) (v : Verdict) (o : Answer) → FilesAreFine → FaultsStand → LongHaveFaults
    → IsVerdictOn (option_map (take most_read) known) v → IfSome o (IsAnswer (with_line_feed (verdict_answer v))) → IfSome o (IsCheckAnswer known)
on_taken known v None files stands long on given = tt
on_taken known v (Some a) files stands long on given = (v, on_whole known v files stands long on, given)

module _ {W : Type 0} (input : Option (List ℕ)) (w : sink.Ghosts W) (old new : W) where
  pub checked : (answer : Answer) (status : Status) → IfSome answer (IsCheckAnswer input) → PrintsLine answer w old new status
      → HasChecked input w old new status
  checked None status is printed = elim printed [ ]
  checked (Some a) status is printed =
      (is.0, is.1, (printed.0 ∙ ap status_of is.2.0, subst (λ t. IsWritten t w old new) is.2.1 printed.1))

  pub check_failed : (answer : Answer) → IfSome answer (IsCheckAnswer input) → FailsToPrint answer w old new → IsFailedCheck input w old new
  check_failed None is failed = inl failed
  check_failed (Some a) is cut = inr (is.0, is.1, subst (λ t. IsCutOff t w old new) is.2.1 cut)
