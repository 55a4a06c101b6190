-- What the row of a submission says of the entry that it tries again; where it is no retry it says nothing.
use Rattle.std.specs.Prelude.{ℕ, List, Option, option_map}
use Rattle.desk_rules.specs.declared.bodies.submission.Retry.{Retry}
use Rattle.sql_tables.specs.Encodes.{retried_entry}

-- the reference of the entry's submission
abbrev pub tried_reference : Option Retry → Option (List ℕ)
tried_reference retry = option_map (λ r. r.of) (option_map retried_entry retry)

-- the entry's number
abbrev pub tried_index : Option Retry → Option ℕ
tried_index retry = option_map (λ r. r.index) (option_map retried_entry retry)
