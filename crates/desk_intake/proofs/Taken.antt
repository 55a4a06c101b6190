-- A file that is new is written as it was planned.
use Rattle.std.proofs.Common.{◌≡◌, ◌∙◌, ℕ, true, ap, sym, subst, inl, inr}
use Rattle.std.specs.Prelude.{Result, Ok, Err}
use Rattle.ach_files.specs.Facts.{FileFacts}
use Rattle.desk_history.specs.declared.answer.Answer.{Answer}
use Rattle.desk_history.specs.Operator.{intake_answer}
use Rattle.desk_book.specs.Book.{Book}
use Rattle.desk_book.specs.IntakeLaws.{EntriesOfIntakes}
use Rattle.desk_book.specs.OnIntake.{New, intake_facts, intake_write, taking_answer, with_taking}
use Rattle.desk_book.specs.Steps.{IntakeWrite, commit_intake}
use Rattle.desk_store.specs.Words.{LeavesRead}
use Rattle.desk_store.specs.declared.store.StoreFault.{StoreFault}
use Rattle.desk_intake.specs.declared.plan.IntakePlan.{IntakePlan}
use Rattle.desk_intake.specs.Plans.{plan_write}
use Rattle.desk_admission.specs.Answering.{Answers, HoldsFor, IsLeft, LeavesCall}

module _ (law : EntriesOfIntakes) (d : ℕ) (f : FileFacts) (old mid : Book → Type 0) (p : IntakePlan) (read : (b : Book) → old b → (plan_write p ≡ intake_write (intake_facts b d f)) × mid b) where
  may_write : (b : Book) → old b → HoldsFor mid (commit_intake (plan_write p)) b
  may_write b held =
      let planned = read b held in
      (planned.1, subst (λ (x : IntakeWrite). (commit_intake x).Admits b) (sym planned.0) (law b d f))

  pub taken_answers : (new : Book → Type 0) (r : Result Answer StoreFault) → Answers (HoldsFor mid (commit_intake (plan_write p))) r (λ b. intake_answer (Ok p.file.answer)) (commit_intake (plan_write p)).after new
      → Answers old r (λ b. taking_answer (New (intake_facts b d f))) (λ b. with_taking (New (intake_facts b d f)) b) new
  taken_answers new (Ok a) wrote = λ b held.
      let planned = (read b held).0 in
      let one = wrote b (may_write b held) in
      (one.0 ∙ ap (λ (x : IntakeWrite). intake_answer (Ok x.file.answer)) planned, subst (λ (x : IntakeWrite). new ((commit_intake x).after b)) planned one.1)
  taken_answers new (Err fault) wrote = λ b held. wrote b (may_write b held)

  pub taken_leaves : {Kept : Type 0} (keeps : Kept → Book → Type 0) (before between after : Kept → Type 0) (r : Result Answer StoreFault) → LeavesRead before between
      → LeavesCall keeps (HoldsFor mid (commit_intake (plan_write p))) between r (λ b. true) (commit_intake (plan_write p)).after after
      → LeavesCall keeps old before r (λ b. true) (λ b. with_taking (New (intake_facts b d f)) b) after
  taken_leaves {Kept = Kept} keeps before between after (Ok a) none h = λ b k held left.
      elim (h b k (may_write b held) left) as (λ _. IsLeft true (keeps k (with_taking (New (intake_facts b d f)) b)) (before k)) [
        | inl (wrote, made) ↦ inl (wrote, subst (λ (x : IntakeWrite). keeps k ((commit_intake x).after b)) (read b held).0 made)
        | inr (wrote_none, kept) ↦ inr (wrote_none, none k kept)
      ]
  taken_leaves {Kept = Kept} keeps before between after (Err fault) none h = λ b k held left.
      elim (h b k (may_write b held) left) [
        | inl kept ↦ inl (none k kept)
        | inr made ↦ inr (subst (λ (x : IntakeWrite). keeps k ((commit_intake x).after b)) (read b held).0 made)
      ]
