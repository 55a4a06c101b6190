use Rattle.std.proofs.Common.{◌≡◌, ◌+◌, ◌∷◌, drop}
use Rattle.desk_rules.specs.Submission.{entries_of}
use Rattle.desk_rules.proofs.EntriesLemmas.{after}
use Rattle.desk_rules.proofs.bodies.submission_fields.check_entries.Given as goal

abbrev pub invariant-loop-draft : goal.invariant-loop-draft
invariant-loop-draft l =
    (l.index ≡ l.draft-index + 1)
    × (entries_of 1 (l.first ∷ l.others) ≡ after l.entries (entries_of (l.draft-index + 1 + 1) (drop l.draft-index l.others)))
