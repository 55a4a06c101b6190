-- Facts about the accepted submissions and retries of a part.
use Rattle.std.specs.Prelude.{◌≡◌, ◌≢◌, ◌<◌, ◌≤◌, ℕ, List, length, map, All, AllPairs, Option, Some, None}
use Rattle.std.specs.List.{range_with_len}
use Rattle.ach_fields.specs.Cents.{most_cents}
use Rattle.desk_rules.specs.declared.bodies.submission.Retry.{Retry}
use Rattle.desk_rules.specs.LimitChecks.{is_debit}
use Rattle.desk_rules.specs.Size.{total_of}
use Rattle.desk_history.specs.Part.{Event}
use Rattle.desk_history.specs.State.{decision}
use Rattle.desk_history.specs.Accepted.{AcceptedSubmission, content_of}
use Rattle.desk_history.specs.Retries.{Original, original_of}
use Rattle.desk_history.specs.Acceptance.{submissions}

-- its place is the one that cuts read, and it is older than the newest of these events
pub record IsPlaced (events : ℕ) (a : AcceptedSubmission) : Type 0 where
  pub before : a.place.before < events
  pub debit : a.place.debit ≡ is_debit a.content.direction
  pub asked : a.place.asked ≡ a.content.day

-- 1 to 1,000 entries, of no more cents than the total fields of a file hold
pub record IsSized (a : AcceptedSubmission) : Type 0 where
  pub some : 1 ≤ length a.content.entries
  pub few : length a.content.entries ≤ 1000
  pub total : total_of a.content.entries ≤ most_cents

-- a retry of a live debit of an earlier submission that is not a retry and that a cut has decided
pub record IsRetryOf (P : List Event) (a : AcceptedSubmission) (r : Retry) : Type 0 where
  pub original : Original
  pub named : original_of (submissions P) r ≡ Some original
  pub earlier : original.accepted.order < a.order
  pub place : a.original ≡ Some original.accepted.place
  pub content : a.content ≡ content_of r original.accepted.content original.entry
  pub on : ℕ
  pub settles : decision P original.accepted.place ≡ Some on

abbrev pub IsLinkedTo : List Event → AcceptedSubmission → Option Retry → Type 0
IsLinkedTo P a None = a.original ≡ None
IsLinkedTo P a (Some r) = IsRetryOf P a r

abbrev pub IsLinked : List Event → AcceptedSubmission → Type 0
IsLinked P a = IsLinkedTo P a a.retry

pub record AcceptedInOrder : Type 0 where
  -- the n-th has order n
  pub orders : (P : List Event) → map (λ a. a.order) (submissions P) ≡ range_with_len 1 (length (submissions P))
  -- no two have one reference
  pub references : (P : List Event) → AllPairs (λ a b. a.content.reference ≢ b.content.reference) (submissions P)
  pub places : (P : List Event) → All (IsPlaced (length P)) (submissions P)
  pub sizes : (P : List Event) → All IsSized (submissions P)
  pub originals : (P : List Event) → All (IsLinked P) (submissions P)
