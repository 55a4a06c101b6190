use Rattle.std.proofs.Common.{◌≡◌, ◌∙◌, ◌+◌, ℕ, None, length, refl, sym, ap}
use Rattle.desk_rules.specs.declared.bodies.submission.Submission.{Submission}
use Rattle.desk_history.specs.Acceptance.{new_content, within_limits}
use Rattle.desk_book.specs.Standing.{facts_in}
use Rattle.desk_calls.proofs.Sized.{sized_parts}
use Rattle.desk_admission.specs.Verdicts.{fresh_verdict}
use Rattle.desk_calls.proofs.company.submission.new_submission.Goals as goal

pub returns : goal.returns
returns g c =
    record {
      before = λ clean. c.within_limits.ensures.before (c.next_order.ensures.before clean);
      read = λ clean b holds.
          let parts = sized_parts c.args.content c.in-Ok.content (sym c.new.ensures ∙ c.in-Ok.is) in
          let judged_clean = c.in_ok-order.ensures.before clean in
          let judged = c.in_ok-judged.ensures.read judged_clean b holds in
          let order = c.in_ok-order.ensures.read clean b judged.1 in
          let facts = facts_in (b.rows c.args.company) in
          let limits = c.args.limits.now in
          let content : c.in_ok-judged.judged ≡ new_content facts b.holidays limits c.args.today c.args.content =
          judged.0
          ∙ ap (λ (s : Submission). within_limits facts b.holidays limits c.args.today s) parts.1
          ∙ rw (parts.0) refl
          in (
            c.fresh_verdict.ensures
                ∙ ap (λ (n : ℕ). fresh_verdict n None c.in_ok-judged.judged) order.0
                ∙ ap (fresh_verdict (length (b.rows c.args.company) + 1) None) content,
            order.1,
          );
      left = λ clean kept may. c.within_limits.ensures.left (c.next_order.ensures.before clean) kept (c.next_order.ensures.left clean kept may);
    }
