-- The operator's answers follow from the book.
use Rattle.std.proofs.Common.{◌≡◌, ℕ, Bool, refl}
use Rattle.std.specs.Prelude.{Result, Ok, Err}
use Rattle.desk_rules.specs.declared.refusals.refusal.Refusal as rules
use Rattle.desk_rules.specs.declared.refusals.refusal.Refusal.TheVariants.{DayNotLater, NotBankingDay}
use Rattle.desk_rules.specs.Chain.{◌>>=◌}
use Rattle.desk_rules.specs.Operator.{company_of, new_limits_of, desk_day_in}
use Rattle.desk_history.specs.declared.answer.Outcome.{Outcome}
use Rattle.desk_history.specs.declared.answer.Outcome.TheVariants as done
use Rattle.desk_history.specs.Reply.{answer_of}
use Rattle.desk_history.specs.Words.{holds_or}
use Rattle.desk_book.specs.OnOperator.{done_as}
use Rattle.desk_book.specs.OperatorLaws.{TellsOperator}

-- ---- the commands

-- the answer to a value that has to pass a check, and to one that has to pass two
checked : {A B : Type 0} (value : A → Outcome) (x : A) (check : Result B rules.Refusal) → answer_of (check >>= (λ _. Ok (value x))) ≡ done_as value (check >>= (λ _. Ok x))
checked value x (Ok _) = refl
checked value x (Err why) = refl

checked_twice : {A B C : Type 0} (value : A → Outcome) (x : A) (first : Result B rules.Refusal) (second : Result C rules.Refusal)
    → answer_of (first >>= (λ _. second >>= (λ _. Ok (value x)))) ≡ done_as value (first >>= (λ _. second >>= (λ _. Ok x)))
checked_twice value x (Ok _) second = checked value x second
checked_twice value x (Err why) second = refl

day_told : (r : Result ℕ rules.Refusal) (is_later is_banking : ℕ → Bool)
    → answer_of (r >>= (λ d. holds_or DayNotLater (is_later d) >>= (λ _. holds_or NotBankingDay (is_banking d) >>= (λ _. Ok (done.Day d)))))
    ≡ done_as done.Day (r >>= (λ d. holds_or DayNotLater (is_later d) >>= (λ _. holds_or NotBankingDay (is_banking d) >>= (λ _. Ok d))))
day_told (Ok d) is_later is_banking = checked_twice done.Day d (holds_or DayNotLater (is_later d)) (holds_or NotBankingDay (is_banking d))
day_told (Err why) is_later is_banking = refl

-- the answer to what is read from a draft, and has to pass a check
one_more : {A B : Type 0} (value : A → Outcome) (r : Result A rules.Refusal) (check : A → Result B rules.Refusal)
    → answer_of (r >>= (λ x. check x >>= (λ _. Ok (value x)))) ≡ done_as value (r >>= (λ x. check x >>= (λ _. Ok x)))
one_more value (Ok x) check = checked value x (check x)
one_more value (Err why) check = refl

pub tells_operator : TellsOperator
tells_operator = record {
  day = λ identity key H text. day_told (desk_day_in text) _ _;
  holidays = λ identity key H days. refl;
  company = λ identity key H d. one_more (λ k. done.Company k.id) (company_of d) _;
  limits = λ identity key H d. one_more (λ x. done.Company x.0) (new_limits_of d) _;
  file_text = λ identity key H d modifier. refl;
  settlement = λ identity key H. refl;
  suspense = λ identity key H. refl;
}
