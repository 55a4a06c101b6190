use Rattle.std.proofs.Common.{◌∙◌}
use Rattle.desk_rules.proofs.SameLemmas.{pairs}
use Rattle.desk_rules.proofs.bodies.same_content.same_entries.Goals as goal

pub returns-then-entries-others : goal.returns-then-entries-others
returns-then-entries-others c = c.are_pairs_same.ensures ∙ pairs _ _ c.if-entries-others.true
