-- The definitions, computed at worked rows.
use Rattle.std.proofs.Common.{◌≡◌, ℕ, List, [], ◌∷◌, length, map, true, false, Some, None, refl}
use Rattle.desk_plan.specs.declared.batch.Batch.{Batch}
use Rattle.desk_plan.specs.Cut.{may_cut}
use Rattle.desk_plan.specs.Files.{division}
use Rattle.desk_plan.specs.Numbers.{latest_in}
use Rattle.desk_plan.specs.Modifiers.{modifiers, modifier_of}
use Rattle.desk_plan.specs.Reuse.{may_send, latest_settled}
use Rattle.desk_plan.specs.Sequences.{SentSequence, ranges, are_apart}

-- settled on 2026-03-05
abbrev batch_of : ℕ → ℕ → Batch
batch_of entries credits = record { company = 77 ∷ []; order = 1; settled = 20_517; debits = 0; credits = credits; entries = entries; records = entries }

two_files : map length (division (batch_of 1 999_999_999_999 ∷ batch_of 1 1 ∷ [])) ≡ 1 ∷ 1 ∷ []
two_files = refl

one_file : map length (division (batch_of 1 999_999_999_998 ∷ batch_of 1 1 ∷ [])) ≡ 2 ∷ []
one_file = refl

many_records : map length (division (batch_of 50_000 1 ∷ batch_of 50_000 1 ∷ batch_of 1 1 ∷ [])) ≡ 2 ∷ 1 ∷ []
many_records = refl

to_the_last : ranges 9_999_998 (1 ∷ []) ≡ (9_999_999, 9_999_999) ∷ []
to_the_last = refl

from_one : ranges 9_999_998 (2 ∷ []) ≡ (1, 2) ∷ []
from_one = refl

both : ranges 9_999_998 (1 ∷ 2 ∷ []) ≡ (9_999_999, 9_999_999) ∷ (1, 2) ∷ []
both = refl

meeting : are_apart ((500, 600) ∷ (1, 100) ∷ (101, 500) ∷ []) ≡ false
meeting = refl

-- 1 and 2 settled on 2025-03-03, and were sent before the last
abbrev sent : List SentSequence
sent = record { sequence = 9_999_998; settled = 20_500 } ∷ record { sequence = 2; settled = 20_150 } ∷ record { sequence = 1; settled = 20_150 } ∷ []

-- on 2026-03-03 and on 2026-03-04
too_early : may_send 20_515 sent (batch_of 2 1 ∷ []) ≡ false
too_early = refl

late_enough : may_send 20_516 sent (batch_of 1 1 ∷ batch_of 2 1 ∷ []) ≡ true
late_enough = refl

-- the latest settlement of a range, by the entries and by rows
latest : latest_settled sent (1, 5) ≡ Some 20_150
latest = refl

in_rows : latest_in sent (1, 9_999_997) ≡ Some 20_150
in_rows = refl

named : (modifier_of 25 ≡ Some 90) × (modifier_of 26 ≡ Some 48) × (modifier_of 35 ≡ Some 57) × (modifier_of 36 ≡ None)
unfolding modifiers
named = (refl, refl, refl, refl)

thirty_seven : may_cut 20_516 36 [] (batch_of 1 1 ∷ []) ≡ false
thirty_seven = refl

nothing_due : may_cut 20_516 36 [] [] ≡ true
nothing_due = refl
