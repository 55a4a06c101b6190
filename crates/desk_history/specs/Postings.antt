-- Postings: the lines of companies and of suspense, each with its opposite on the operator's account.
use Rattle.std.specs.Prelude.{ℕ, ℤ, ◌%◌, Bool, true, nat_le, nat_lt, if◌then◌else◌, List, [], ◌∷◌, ◌++◌, map, zip, Option, Some, None, unwrap_or, Result, Ok, Err}
use Rattle.std.specs.List.{flat_map}
use Rattle.ach_files.specs.declared.facts.ItemFacts.{ItemFacts}
use Rattle.ach_files.specs.Facts.{FileFacts}
use Rattle.desk_accounts.specs.declared.account.Account.TheVariants as accounts
use Rattle.desk_accounts.specs.declared.posting.Posting.{Posting}
use Rattle.desk_accounts.specs.Balance.{balance, day_sums}
use Rattle.desk_accounts.specs.Laws.{pairs}
use Rattle.desk_accounts.specs.Posting.{cut_line, return_line, suspense_line}
use Rattle.desk_rules.specs.Size.{total_of}
use Rattle.desk_history.specs.declared.operations.DaySum.{DaySum}
use Rattle.desk_history.specs.declared.operations.Settlement.{Settlement}
use Rattle.desk_history.specs.declared.operations.SuspenseReason.{SuspenseReason}
use Rattle.desk_history.specs.Part.{Event, Returned}
use Rattle.desk_history.specs.Message.{Message, Cut, Pair, is_accepted}
use Rattle.desk_history.specs.declared.sent_entry.SentEntry.{SentEntry}
use Rattle.desk_history.specs.Sendings.{Sending, entries_in, is_debit_sending}
use Rattle.desk_history.specs.Resolve.{ResolvedItem, is_return}
use Rattle.desk_history.specs.History.{day}
use Rattle.desk_history.specs.Files.{cut_sendings}
use Rattle.desk_history.specs.Intake.{new_file, resolutions_of}

-- a line, if it moves money
abbrev pub if_any : ℕ → Posting → List Posting
if_any cents line = if nat_lt 0 cents then line ∷ [] else []

-- a submission that a cut sends: its total, valued on the day on which it settles
abbrev pub sending_line : Sending → List Posting
sending_line s =
    let total = total_of (entries_in s) in
    if_any total (cut_line s.company.id (is_debit_sending s) total s.settled s.content.reference)

-- a returned entry, valued on the desk day
abbrev pub event_line : ℕ → SentEntry → Event → List Posting
event_line d e (Returned reference index code information) = if_any e.entry.cents (return_line e.company e.debit e.entry.cents d e.reference e.index)
event_line d e _ = []

-- the direction of a return in suspense: a second digit of 5 to 9 is a debit
abbrev pub is_debit_code : ℕ → Bool
is_debit_code transaction = nat_le 5 (transaction % 10)

-- a return in suspense, valued on the desk day
abbrev pub suspense_lines : ℕ → ItemFacts → List Posting
suspense_lines d item =
    if is_return item then if_any item.cents (suspense_line (is_debit_code item.transaction_code) item.cents d) else []

abbrev pub item_line : ℕ → ItemFacts → Result ResolvedItem SuspenseReason → List Posting
item_line d item (Ok x) = event_line d x.entry x.event
item_line d item (Err why) = suspense_lines d item

abbrev pub intake_lines : List ℕ → List Pair → Option FileFacts → List Posting
intake_lines odfi H None = []
intake_lines odfi H (Some f) = flat_map (λ x. item_line (unwrap_or (day H) 0) x.0 x.1) (zip f.items (resolutions_of odfi H f.items))

abbrev pub cut_lines : (odfi : List ℕ) → List Pair → (accepted : Bool) → Message → List Posting
cut_lines odfi H true Cut = flat_map sending_line (cut_sendings odfi H)
cut_lines odfi H _ _ = []

-- the lines of companies and of suspense, in order
abbrev pub own_lines : List ℕ → List Pair → List Posting
own_lines odfi [] = []
own_lines odfi (x ∷ H) = own_lines odfi H ++ (cut_lines odfi H (is_accepted x.answer) x.message ++ intake_lines odfi H (new_file H x))

-- all postings, in order: each of those lines, and its opposite after it
abbrev pub postings : List ℕ → List Pair → List Posting
postings odfi H = pairs (own_lines odfi H)

abbrev pub day_sum : ℕ × ℤ → DaySum
day_sum x = record { cents = x.1; day = x.0 }

-- the operator's account on a day
abbrev pub settlement : List Posting → ℕ → Settlement
settlement ps d = record { balance = balance accounts.Operator d ps; day = d; days = map day_sum (day_sums accounts.Operator ps) }
