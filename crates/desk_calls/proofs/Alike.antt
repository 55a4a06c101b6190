-- Two desks that answer a company alike.
use Rattle.std.proofs.Common.{◌≡◌, ◌∙◌, sym, ℕ, List}
use Rattle.std.specs.Prelude.{Result, Ok, Err}
use Rattle.desk_history.specs.declared.answer.Answer.{Answer}
use Rattle.desk_history.specs.declared.call.Call.{Call}
use Rattle.desk_history.specs.declared.identity.Identity.{Identity}
use Rattle.desk_history.specs.Alone.{ServedAlone}
use Rattle.desk_book.specs.Book.{Book}
use Rattle.desk_history.specs.Laws.{TwoWorlds}
use Rattle.desk_history.specs.Message.{Message, Pair}
use Rattle.desk_history.specs.Operator.{answer_to}
use Rattle.desk_store.specs.declared.store.StoreFault.{StoreFault}
use Rattle.desk_calls.specs.Alike.{IsCalled, AreAlike, TwoDesks, DeskAlone}

is_answered : {S : Type 0} (holds : S → Book → Type 0) (call : Call) (identity : Identity) (key : List ℕ) (H : List Pair) (m : Message) (a : Answer)
    → IsCalled holds call identity key H m (Ok a) → a ≡ answer_to identity H m
is_answered holds call identity key H m a called = (called.goes identity key H m called.asked).0

-- desks whose histories have the same answer
alike : {S T : Type 0} (here : S → Book → Type 0) (there : T → Book → Type 0) (call other : Call) (identity second : Identity) (key second_key : List ℕ) (H G : List Pair) (m n : Message) (a b : Result Answer StoreFault)
    → IsCalled here call identity key H m a → IsCalled there other second second_key G n b → answer_to identity H m ≡ answer_to second G n → AreAlike a b
alike here there call other identity second key second_key H G m n (Ok a) (Ok b) one two same =
    is_answered here call identity key H m a one ∙ same ∙ sym (is_answered there other second second_key G n b two)
alike here there call other identity second key second_key H G m n (Ok a) (Err why) one two same = tt
alike here there call other identity second key second_key H G m n (Err why) b one two same = tt

pub two_desks : TwoWorlds → {S T : Type 0} (here : S → Book → Type 0) (there : T → Book → Type 0) → TwoDesks here there
two_desks worlds here there = λ call other identity second key second_key H G c r a b one two same.
    alike here there call other identity second key second_key H G _ _ a b one two (worlds identity second H G c r same)

pub desk_alone : ServedAlone → {S T : Type 0} (here : S → Book → Type 0) (there : T → Book → Type 0) → DeskAlone here there
desk_alone served here there = λ call other identity key second_key H c r a b one two sent few.
    alike here there call other identity identity key second_key H _ _ _ a b one two (sym ((served identity H c one.asked.history sent few).same_answers r))
