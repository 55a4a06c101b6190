-- The promises of the desk's calls over its store. `g` gives the books that a store holds and what a crash leaves of
-- it.
use Rattle.std.specs.Prelude.{ℕ, true, Result}
use Rattle.desk_rules.specs.declared.refusals.refusal.Refusal.{Refusal}
use Rattle.desk_history.specs.declared.answer.Answer.{Answer}
use Rattle.desk_history.specs.declared.answer.Answer.TheVariants as answers
use Rattle.desk_history.specs.declared.answer.Outcome.TheVariants as done
use Rattle.desk_history.specs.declared.call.Call.{Call}
use Rattle.desk_history.specs.Message.{Message}
use Rattle.desk_book.specs.OnMessages.{answer_on, after_on}
use Rattle.desk_book.specs.Steps.{commit_cut}
use Rattle.desk_store.specs.Words.{LeavesRead}
use Rattle.desk_store.specs.Written.{commit_cut_after}
use Rattle.desk_store.specs.declared.store.Store.{Ghosts}
use Rattle.desk_store.specs.declared.store.StoreFault.{StoreFault}
use Rattle.desk_admission.specs.Answering.{HoldsFor}
use Rattle.desk_admission.specs.OverStores.{AnswersMessage, AnswersWhere, Tells}
use Rattle.desk_cut.specs.declared.fault.CutFault.{CutFault}
use Rattle.desk_cut.specs.declared.plan.CutPlan.{CutPlan}
use Rattle.desk_cut.specs.Plan.{plan_write}
use Rattle.desk_calls.specs.Applying.{AnswersCall, IsReadCall, LeavesBook, LeavesMessage}
use Rattle.desk_calls.specs.Cutting.{Plans, PlansOrTells}
use Rattle.desk_calls.specs.declared.operator.cut.CutReads.{CutReads}

module _ {S : Type 0} (g : Ghosts S) where
  -- ---- a call, where the store is clean as it ends

  -- The answer is that of the book to the call's message, and the store then holds the book after it; or the store
  -- could not act, and holds the same book.
  abbrev pub AnswersByBook : (old new : S) → Result Answer StoreFault → Call → Type 0
  AnswersByBook old new result call = g.is_clean new → AnswersCall (g.holds old) call result (g.holds new)

  -- If the call wrote, a crash leaves a form of the book after its message; if it wrote nothing, nothing new; and if
  -- the store failed, either.
  abbrev pub LeavesByBook : (old new : S) → Result Answer StoreFault → Call → Type 0
  LeavesByBook old new result call =
      g.is_clean new → LeavesMessage g.keeps (g.holds old) (g.may_leave old) call result (g.may_leave new)

  -- the same of the book of the history with this call
  abbrev pub LeavesByHistory : (old new : S) → Result Answer StoreFault → Call → Type 0
  LeavesByHistory old new result call =
      g.is_clean new → LeavesBook g.keeps (g.holds old) (g.may_leave old) call result (g.may_leave new)

  -- After a call that only asks a crash leaves nothing that it could not leave before.
  abbrev pub LeavesIfRead : (old new : S) → Call → Type 0
  LeavesIfRead old new call = g.is_clean new → IsReadCall call → LeavesRead (g.may_leave old) (g.may_leave new)

  -- ---- a command of the operator

  -- The command is carried out as the book says: the answer is that to this message, and the store then holds the book
  -- after it.
  abbrev pub Obeys : (old new : S) → Result Answer StoreFault → Message → Type 0
  Obeys old new result m = AnswersMessage g old new result m (λ b. answer_on b m) (λ b. after_on b m)

  -- ---- a cut

  -- The plan made from these reads is the cut of the book that has them, or its refusal; the store holds the same book.
  abbrev pub TellsPlan : (old new : S) → CutReads → Result (Result CutPlan Refusal) StoreFault → Type 0
  TellsPlan old new reads result = Tells g old new (Plans (g.holds old) reads result (g.holds new))

  -- the same with the fault of the plan in place of the refusal
  abbrev pub TellsPlanOrFault : (old new : S) → CutReads → Result (Result CutPlan CutFault) StoreFault → Type 0
  TellsPlanOrFault old new reads result = Tells g old new (PlansOrTells (g.holds old) reads result (g.holds new))

  -- The plan of a cut is written, given the number of entries sent before, and answered with its summary.
  abbrev pub WritesPlan : (old new : S) → (before : ℕ) → CutPlan → Result Answer StoreFault → Type 0
  WritesPlan old new before plan result =
      AnswersWhere g old new (HoldsFor (g.holds old) (commit_cut_after before (plan_write plan))) result
      (λ b. true) (λ b. answers.Done (done.Cut plan.done)) (commit_cut (plan_write plan)).after
