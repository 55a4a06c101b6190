use Rattle.std.proofs.Common.{◌≡◌, ◌+◌, sym, ◌∙◌, arith, Ok}
use Rattle.desk_rules.specs.Submission.{entry_of}
use Rattle.desk_rules.proofs.EntriesLemmas.{after_good}
use Rattle.desk_rules.proofs.bodies.submission_fields.check_entries.Goals as goal

pub loop-draft-preserved : goal.loop-draft-preserved
loop-draft-preserved c =
    let same : c.loop-draft.index ≡ c.loop-draft.draft-index + 1 = c.loop-draft.invariant.0 in
    let checked : entry_of (c.loop-draft.draft-index + 1 + 1) c.draft-item.result ≡ Ok c.in_ok-entry.entry = rw (← same) (sym c.check_entry-in-loop-draft.ensures ∙ c.in_ok-entry.was) in (
      omega arith,
      after_good _ _ _ _ _ _ _ _ c.loop-draft.invariant.1 c.loop-draft-test.true c.draft-item.is checked c.in_ok-push.ensures.ok,
    )
