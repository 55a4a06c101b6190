-- Postings, which come in pairs.
use Rattle.std.specs.Prelude.{ℕ, Bool, true, false, ◌==◌, if◌then◌else◌, nat_eq, List, [], ◌∷◌, ℤ, pos, neg_ℤ, Option, Some, None}
use Rattle.std.specs.Cmp.Lexicographic.{pointwise}
use Rattle.desk_accounts.specs.declared.account.Account.{Account}
use Rattle.desk_accounts.specs.declared.account.Account.TheVariants.{Company, Operator, Suspense}
use Rattle.desk_accounts.specs.declared.posting.Cause.TheVariants.{Cut, Return}
use Rattle.desk_accounts.specs.declared.posting.Posting.{Posting}

-- the two are one account
abbrev pub same_account : Account → Account → Bool
same_account (Company a) (Company b) = pointwise nat_eq a b
same_account Operator Operator = true
same_account Suspense Suspense = true
same_account _ _ = false

-- the line of the operator that makes up for another line
abbrev pub opposite : Posting → Posting
opposite line =
    record { account = Operator; value_day = line.value_day; cents = neg_ℤ line.cents; cause = line.cause; reference = line.reference; idx = line.idx }

-- a line and its opposite
abbrev pub with_opposite : Posting → List Posting
with_opposite line = line ∷ opposite line ∷ []

-- the pair of a line, or none for zero cents
abbrev pub posting_pair : ℕ → Posting → Option (List Posting)
posting_pair cents line = if cents == 0 then None else Some (with_opposite line)

-- the cut takes a credit's cents from the account of the company and brings it a debit's
abbrev pub cut_cents : (debit : Bool) → (cents : ℕ) → ℤ
cut_cents debit cents = if debit then pos cents else neg_ℤ (pos cents)

-- a return brings a credit's cents back and takes back a debit's
abbrev pub return_cents : (debit : Bool) → (cents : ℕ) → ℤ
return_cents debit cents = if debit then neg_ℤ (pos cents) else pos cents

-- the company's line of a submission that was cut
abbrev pub cut_line : (company : List ℕ) → (debit : Bool) → (cents : ℕ) → (value_day : ℕ) → (reference : List ℕ) → Posting
cut_line company debit cents value_day reference =
    record { account = Company company; value_day = value_day; cents = cut_cents debit cents; cause = Cut; reference = Some reference; idx = 0 }

-- the company's line of an entry that was returned
abbrev pub return_line : (company : List ℕ) → (debit : Bool) → (cents : ℕ) → (value_day : ℕ) → (reference : List ℕ) → (idx : ℕ) → Posting
return_line company debit cents value_day reference idx =
    record { account = Company company; value_day = value_day; cents = return_cents debit cents; cause = Return; reference = Some reference; idx = idx }

-- the line of a return whose entry is not known
abbrev pub suspense_line : (debit : Bool) → (cents : ℕ) → (value_day : ℕ) → Posting
suspense_line debit cents value_day =
    record { account = Suspense; value_day = value_day; cents = return_cents debit cents; cause = Return; reference = None; idx = 0 }
