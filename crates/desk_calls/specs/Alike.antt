-- Two desks that answer a company alike.
use Rattle.std.specs.Prelude.{◌≡◌, ◌<◌, ◌≤◌, ◌^◌, ℕ, List, length, count_by, Result, Ok}
use Rattle.desk_history.specs.declared.answer.Answer.{Answer}
use Rattle.desk_history.specs.declared.call.Call.{Call}
use Rattle.desk_history.specs.declared.identity.Identity.{Identity}
use Rattle.desk_history.specs.Alone.{alone, is_answer}
use Rattle.desk_book.specs.Book.{Book}
use Rattle.desk_history.specs.History.{part, sent_entries}
use Rattle.desk_history.specs.Message.{Message, Of, Pair}
use Rattle.desk_history.specs.Request.{Request}
use Rattle.desk_store.specs.declared.store.StoreFault.{StoreFault}
use Rattle.desk_calls.specs.Applying.{IsAsked, Goes}

-- A call was made of a desk whose store holds the book of this history, and this is its outcome.
pub record IsCalled {S : Type 0} (holds : S → Book → Type 0) (call : Call) (identity : Identity) (key : List ℕ) (H : List Pair) (m : Message) (result : Result Answer StoreFault) : Type 0 where
  pub before : S
  pub after : S
  pub asked : IsAsked (holds before) call identity key H m
  pub goes : Goes (holds before) call result (holds after)

-- the answers are the same, if neither store failed
abbrev pub AreAlike : Result Answer StoreFault → Result Answer StoreFault → Type 0
AreAlike (Ok a) (Ok b) = a ≡ b
AreAlike _ _ = Unit {0}

-- Two desks over any two kinds of stores give a company's request the same answer if their histories have the same part
-- of it, whatever others did and whoever runs the desk.
abbrev pub TwoDesks : {S T : Type 0} → (S → Book → Type 0) → (T → Book → Type 0) → Type 0
TwoDesks here there =
    (call other : Call) (identity second : Identity) (key second_key : List ℕ) (H G : List Pair) (c : List ℕ) (r : Request) (a b : Result Answer StoreFault)
    → IsCalled here call identity key H (Of c r) a → IsCalled there other second second_key G (Of c r) b
    → part identity.odfi H c ≡ part second.odfi G c → AreAlike a b

-- A desk answers a company's request like a desk that serves no one else, if it sent at most 9,999,999 entries and the
-- company had fewer than 10^21 returns and changes.
abbrev pub DeskAlone : {S T : Type 0} → (S → Book → Type 0) → (T → Book → Type 0) → Type 0
DeskAlone here there =
    (call other : Call) (identity : Identity) (key second_key : List ℕ) (H : List Pair) (c : List ℕ) (r : Request) (a b : Result Answer StoreFault)
    → IsCalled here call identity key H (Of c r) a → IsCalled there other identity second_key (alone identity c H) (Of c r) b
    → length (sent_entries identity.odfi H) ≤ 9_999_999 → count_by is_answer (part identity.odfi H c) < 10 ^ 21 → AreAlike a b
