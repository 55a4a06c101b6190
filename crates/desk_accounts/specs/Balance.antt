-- Balances: sums of lines.
use Rattle.std.specs.Prelude.{◌≡◌, ℕ, ◌≤◌, ◌^◌, Bool, true, false, ◌&&◌, ◌==◌, nat_le, nat_lt, if◌then◌else◌, List, [], ◌∷◌, length, take, map, ℤ, pos, negsuc, ◌+ℤ◌, Option, Some, None}
use Rattle.std.specs.List.{filter, All, count_by}
use Rattle.desk_accounts.specs.declared.account.Account.{Account}
use Rattle.desk_accounts.specs.declared.posting.Posting.{Posting}
use Rattle.desk_accounts.specs.Posting.{same_account}
use Rattle.desk_accounts.specs.Sums.{sum_of}

-- the lines of an account
abbrev pub lines_of : Account → List Posting → List Posting
lines_of account postings = filter (λ line. same_account line.account account) postings

-- the lines that are valued on or before a day
abbrev pub lines_until : ℕ → List Posting → List Posting
lines_until day lines = filter (λ line. nat_le line.value_day day) lines

-- the lines that are valued on a day
abbrev pub lines_on : ℕ → List Posting → List Posting
lines_on day lines = filter (λ line. line.value_day == day) lines

-- the sum of lines
abbrev pub total : List Posting → ℤ
total lines = sum_of (λ line. line.cents) lines

-- the balance of an account on a day: the sum of its lines valued on or before it
abbrev pub balance : Account → ℕ → List Posting → ℤ
balance account day postings = total (lines_until day (lines_of account postings))

-- the same from rows of a value day and the sum of the lines valued on it
abbrev pub days_balance : ℕ → List (ℕ × ℤ) → ℤ
days_balance day rows = sum_of (λ row. row.1) (filter (λ row. nat_le row.0 day) rows)

-- what a line adds to the balance of an account on a day
abbrev pub share : Account → (day : ℕ) → Posting → ℤ
share account day line = if same_account line.account account && nat_le line.value_day day then line.cents else pos 0

-- an `i128` holds the number
abbrev pub fits_i128 : ℤ → Bool
fits_i128 (pos n) = nat_lt n (2 ^ 127)
fits_i128 (negsuc n) = nat_lt n (2 ^ 127)

-- a sum and what one more row adds to it on a day, if an `i128` holds the result
abbrev pub with_row : (day : ℕ) → (sum : ℤ) → (row : ℕ × ℤ) → Option ℤ
with_row day sum row =
    let more : ℤ = sum +ℤ (if nat_le row.0 day then row.1 else pos 0) in
    if fits_i128 more then Some more else None

-- the balance that rows give where an `i128` holds the sum of the first rows, however many
pub record IsDaysBalance (day : ℕ) (rows : List (ℕ × ℤ)) (sum : ℤ) : Type 0 where
  pub value : sum ≡ days_balance day rows
  pub fits : (first : ℕ) → first ≤ length rows → fits_i128 (days_balance day (take first rows)) ≡ true

-- the sum of some first rows does not fit into an `i128`
pub record SumLeaves (day : ℕ) (rows : List (ℕ × ℤ)) : Type 0 where
  pub first : ℕ
  pub within : first ≤ length rows
  pub leaves : fits_i128 (days_balance day (take first rows)) ≡ false

-- rows of a value day and a sum are those of an account: each of its lines has the one row of its day, and each
-- row has the sum of the account's lines of its day
pub record AreDaySums (account : Account) (postings : List Posting) (rows : List (ℕ × ℤ)) : Type 0 where
  pub once : All (λ line. count_by (λ row. line.value_day == row.0) rows ≡ 1) (lines_of account postings)
  pub sums : All (λ row. row.1 ≡ total (lines_on row.0 (lines_of account postings))) rows

-- a day in its place among ascending days, once
abbrev pub with_day : (day : ℕ) → List ℕ → List ℕ
with_day day [] = day ∷ []
with_day day (d ∷ days) = if day == d then d ∷ days else (if nat_lt day d then day ∷ d ∷ days else d ∷ with_day day days)

-- the value days of lines, ascending
abbrev pub value_days : List Posting → List ℕ
value_days [] = []
value_days (line ∷ lines) = with_day line.value_day (value_days lines)

-- the sums of an account's lines by value day, ascending
abbrev pub day_sums : Account → List Posting → List (ℕ × ℤ)
day_sums account postings = map (λ day. (day, total (lines_on day (lines_of account postings)))) (value_days (lines_of account postings))
