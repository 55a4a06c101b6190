-- Facts at an accepted cut.
use Rattle.std.proofs.Common.{◌≡◌, true, List, Result, Ok, Err, refl, sym, ap, ◌∙◌, leb-true}
use Rattle.desk_rules.specs.declared.refusals.refusal.Refusal as rules
use Rattle.desk_rules.specs.declared.refusals.refusal.Refusal.TheVariants.{NoDay, TracesSpent, ModifiersSpent}
use Rattle.desk_history.specs.declared.operations.CutSummary.{CutSummary}
use Rattle.desk_history.specs.declared.identity.Identity.{Identity}
use Rattle.desk_history.specs.Message.{Pair, is_accepted}
use Rattle.desk_history.specs.Cutting.{cut}
use Rattle.desk_history.specs.Operator.{answer_to, cut_answer}
use Rattle.desk_history.specs.SentLaws.{AcceptedCuts, IsAcceptedCut}
use Rattle.desk_history.proofs.Basics.Chains.{steps, some_from_ok}
use Rattle.desk_history.proofs.Basics.Checks.{passed}

-- the answer accepts
record IsDone (r : Result CutSummary rules.Refusal) : Type 0 where
  made : CutSummary
  is : r ≡ Ok made

done_from : (r : Result CutSummary rules.Refusal) → is_accepted (cut_answer r) ≡ true → IsDone r
done_from (Ok made) h = record { made = made; is = refl }
done_from (Err why) h = cc

pub answer_of_cut : (identity : Identity) (H : List Pair) (x : Pair) → IsAcceptedCut identity H x → x.answer ≡ cut_answer (cut identity.odfi H)
answer_of_cut identity H x h = h.history.0 h.accepted ∙ ap (answer_to identity H) h.message

pub accepted_cuts : AcceptedCuts
accepted_cuts identity H x h =
    let answer = answer_of_cut identity H x h in
    let done = done_from (cut identity.odfi H) (ap is_accepted (sym answer) ∙ h.accepted) in
    let on = steps _ _ _ done.is in
    let verdict = steps _ _ _ on.rest in
    let free = steps _ _ _ verdict.first in (
      on.value,
      record {
        on = some_from_ok NoDay _ _ on.first;
        free = passed TracesSpent _ _ free.first;
        modifiers = leb-true _ _ (passed ModifiersSpent _ _ free.rest);
        answer = answer ∙ ap cut_answer (done.is ∙ sym verdict.rest);
      },
    )
