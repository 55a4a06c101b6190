-- May a returned debit be tried again? Nacha's rule of reinitiation.
use Rattle.std.specs.Prelude.{ℕ, ◌+◌, Bool, true, false, not, ◌&&◌, ◌||◌, ◌==◌, nat_le, nat_lt, List, [], ◌∷◌, length, Option, Some, None, Result}
use Rattle.bank_days.specs.Calendar.{roll}
use Rattle.desk_rules.specs.declared.rules.attempt.Attempt.{Attempt}
use Rattle.desk_rules.specs.declared.refusals.refusal.Refusal.{Refusal}
use Rattle.desk_rules.specs.declared.refusals.refusal.Refusal.TheVariants.{NotReturned, NotRetryable, RetriesSpent, RetryTooLate}
use Rattle.desk_rules.specs.Attempts.{Return, original_return, newest_return}
use Rattle.desk_rules.specs.Chain.{first_refusal}

-- authorized again on or after the day on which the return was taken, and not after the desk day
abbrev pub is_authorized : Option ℕ → (taken : ℕ) → (day : ℕ) → Bool
is_authorized None taken day = false
is_authorized (Some authorized) taken day = nat_le taken authorized && nat_le authorized day

-- a return for lack of funds, R01 or R09, or of a stopped payment, R08, that was authorized again
abbrev pub is_retryable : (code : ℕ) → (taken : ℕ) → (authorized : Option ℕ) → (day : ℕ) → Bool
is_retryable code taken authorized day = code == 1 || code == 9 || (code == 8 && is_authorized authorized taken day)

-- more than 180 days after the original settled
abbrev pub is_too_late : (original : ℕ) → (settles : ℕ) → Bool
is_too_late original settles = nat_lt (original + 180) settles

-- the refusals of a retry in their order, each with its condition: by the number of attempts and by the returns of the
-- original and the newest attempt
abbrev pub retry_rows : (count : ℕ) → Option Return → Option Return → (asked : ℕ) → (authorized : Option ℕ) → (day : ℕ) → (holidays : List ℕ) → List (Bool × Refusal)
retry_rows count (Some original) (Some newest) asked authorized day holidays =
    (not (is_retryable newest.code newest.taken authorized day), NotRetryable newest.code)
    ∷ (nat_le 3 count, RetriesSpent)
    ∷ (is_too_late original.settled (roll holidays asked), RetryTooLate)
    ∷ []
retry_rows count _ _ asked authorized day holidays = (true, NotReturned) ∷ []

-- the first refusal of a retry, if there is one
abbrev pub retry_verdict : List Attempt → (asked : ℕ) → (authorized : Option ℕ) → (day : ℕ) → (holidays : List ℕ) → Result (Unit {0}) Refusal
retry_verdict tried asked authorized day holidays =
    first_refusal (retry_rows (length tried) (original_return tried) (newest_return tried) asked authorized day holidays)
