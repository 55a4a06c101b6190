-- Sums of submissions with one more.
use Rattle.std.specs.Prelude.{ℕ, ◌+◌, ◌*◌, ◌^◌, ◌≤◌, if◌then◌else◌}
use Rattle.ach_fields.specs.Cents.{most_cents}
use Rattle.desk_rules.specs.LimitChecks.{is_debit}
use Rattle.desk_history.specs.declared.status.Tallies.{Tallies}
use Rattle.desk_history.specs.declared.status.Tally.{Tally}
use Rattle.desk_book.specs.declared.held_size.HeldSize.{HeldSize}

abbrev pub with_size : HeldSize → Tally → Tally
with_size z t = record { cents = t.cents + z.cents; submissions = t.submissions + 1 }

-- in its direction
abbrev pub with_sizes : HeldSize → Tallies → Tallies
with_sizes z t = if is_debit z.direction then record t { debits = with_size z t.debits } else record t { credits = with_size z t.credits }

-- more submissions than memory has
abbrev pub most_held : ℕ
most_held = 2 ^ 63

-- so many submissions may come to this
pub record IsWithin (count : ℕ) (t : Tally) : Type 0 where
  pub cents : t.cents ≤ count * most_cents
  pub submissions : t.submissions ≤ count

pub record AreWithin (count : ℕ) (t : Tallies) : Type 0 where
  pub credits : IsWithin count t.credits
  pub debits : IsWithin count t.debits
