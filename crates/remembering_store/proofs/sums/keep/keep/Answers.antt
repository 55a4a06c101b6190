use Rattle.std.proofs.Common.{◌∙◌, ap, refl, map}
use Rattle.desk_rules.specs.declared.bodies.submission.Submission.{Submission}
use Rattle.desk_rules.specs.LimitChecks.{is_debit}
use Rattle.remembering_store.proofs.Adding.{new_fits}
use Rattle.remembering_store.proofs.sums.keep.keep.Goals as goal

pub returns-clause-fits : goal.returns-clause-fits
returns-clause-fits c =
    let same = c.submission-submission.ensures.value in
    new_fits _ c.args.content.now (ap (λ (s : Submission). s.reference) same) (c.is_debit-debit.ensures ∙ ap (λ (s : Submission). is_debit s.direction) same) refl
    (c.from.ensures ∙ c.get.ensures.value ∙ c.total.ensures)
    (λ is. c.in_ok-cents.ensures is ∙ ap (map (λ e. e.cents)) c.as_slice.ensures.value ∙ ap (λ (s : Submission). map (λ e. e.cents) s.entries) same)
