-- The effect of a new submission or retry on the exposures and the return rates of companies.
use Rattle.std.specs.Prelude.{◌≡◌, ℕ, ◌+◌, Bool, true, false, if◌then◌else◌, List, Option, bytes_eq}
use Rattle.desk_rules.specs.declared.bodies.submission.Retry.{Retry}
use Rattle.desk_rules.specs.declared.bodies.submission.Submission.{Submission}
use Rattle.desk_rules.specs.LimitChecks.{is_debit}
use Rattle.desk_rules.specs.Size.{total_of}
use Rattle.desk_book.specs.Book.{Book}
use Rattle.desk_book.specs.Steps.{add_submission}
use Rattle.desk_book.specs.Sums.{exposures_of, rates_of}

-- a credit exposure and a debit exposure with more cents in one direction
abbrev pub more_exposed : (debit : Bool) → (cents : ℕ) → ℕ × ℕ → ℕ × ℕ
more_exposed true cents sums = (sums.0, sums.1 + cents)
more_exposed false cents sums = (sums.0 + cents, sums.1)

-- its cents are added to its company's exposure in its direction, and to no other
abbrev pub ExposuresGrow : Type 0
ExposuresGrow = (c : List ℕ) (order : ℕ) (s : Submission) (retry : Option Retry) (b : Book) (of : List ℕ) (day : ℕ)
    → exposures_of of day ((add_submission c order s retry).after b)
    ≡ (if bytes_eq c of then more_exposed (is_debit s.direction) (total_of s.entries) (exposures_of of day b) else exposures_of of day b)

-- no company's rates change: what is held was neither settled nor returned
abbrev pub RatesStay : Type 0
RatesStay = (c : List ℕ) (order : ℕ) (s : Submission) (retry : Option Retry) (b : Book) (of : List ℕ) (day : ℕ)
    → rates_of of day ((add_submission c order s retry).after b) ≡ rates_of of day b
