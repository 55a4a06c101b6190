-- When a sequence may be used again.
use Rattle.std.specs.Prelude.{ℕ, ◌+◌, ◌-◌, Bool, true, ◌&&◌, ◌==◌, nat_le, List, [], ◌∷◌, find, filter_map, max, Option, Some, None, option_map}
use Rattle.std.specs.List.{range_with_len, list_all, reduce}
use Rattle.desk_plan.specs.declared.batch.Batch.{Batch}
use Rattle.desk_plan.specs.Sequences.{SentSequence, sequences_from, first_of, after_batch}

-- whether a settlement was at least 366 days before the day, or did not happen
abbrev pub is_past : (day : ℕ) → Option ℕ → Bool
is_past day None = true
is_past day (Some settled) = nat_le (settled + 366) day

abbrev pub has_sequence : ℕ → SentSequence → Bool
has_sequence s e = e.sequence == s

-- the youngest entry that has a sequence: the first one found, because the newest come first
abbrev pub youngest : List SentSequence → ℕ → Option SentSequence
youngest sent s = find (has_sequence s) sent

-- the day on which it settled
abbrev pub youngest_settlement : List SentSequence → ℕ → Option ℕ
youngest_settlement sent s = option_map (λ e. e.settled) (youngest sent s)

-- whether a sequence may be used on a day: where no entry has it, or the youngest settled long enough ago
abbrev pub may_use : (day : ℕ) → List SentSequence → ℕ → Bool
may_use day sent s = is_past day (youngest_settlement sent s)

-- whether each batch takes only sequences that may be used when the batches before it are sent
abbrev pub may_send : ℕ → List SentSequence → List Batch → Bool
may_send day sent [] = true
may_send day sent (b ∷ batches) = list_all (may_use day sent) (sequences_from (first_of sent b) b) && may_send day (after_batch sent b) batches

-- the latest day on which a youngest entry with a sequence of a range settled
abbrev pub latest_settled : List SentSequence → ℕ × ℕ → Option ℕ
latest_settled sent r = reduce max (filter_map (youngest_settlement sent) (range_with_len r.0 (r.1 + 1 - r.0)))
