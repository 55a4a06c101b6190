-- The promises of a store's desk for a message and for a call, if the store is clean at the end. `g` has the facts of the
-- store: which books it holds, and what a crash leaves of it.
use Rattle.std.specs.Prelude.{ℕ, Bool, Result, Vec}
use Rattle.std.specs.declared.alloc.Global.{Global}
use Rattle.desk_history.specs.declared.call.Call.{Call}
use Rattle.desk_store.specs.declared.store.Store.{Ghosts}
use Rattle.http_message.specs.Message.{MessageValue}
use Rattle.http_session.specs.declared.answers.Unavailable.{Unavailable}
use Rattle.http_history.specs.Versions.{Present}
use Rattle.desk_http.specs.Answering.{answer_in, GoesBytes, RepliesBytes, LeavesBytes}
use Rattle.desk_http.specs.MadeCalls.{GoesCall, LeavesCall}

module _ {S : Type 0} (g : Ghosts S) where
  -- the bytes are those of the definitions, and the store holds the book with the message
  abbrev pub MessageGoes : (old new : S) → MessageValue → Result (Vec ℕ Global) Unavailable → Type 0
  MessageGoes old new v result = g.is_clean new → GoesBytes Present (g.holds old) v (answer_in result) (g.holds new)

  -- a company is answered from its own part
  abbrev pub MessageReplies : (old new : S) → MessageValue → Result (Vec ℕ Global) Unavailable → Type 0
  MessageReplies old new v result = g.is_clean new → RepliesBytes (g.holds old) v (answer_in result)

  -- what a crash leaves after the message
  abbrev pub MessageLeaves : (old new : S) → MessageValue → Result (Vec ℕ Global) Unavailable → Type 0
  MessageLeaves old new v result =
      g.is_clean new → LeavesBytes Present g.keeps (g.holds old) (g.may_leave old) v (answer_in result) (g.may_leave new)

  -- the bytes are those of the definitions, and the store holds the book after the call
  abbrev pub CallGoes : (old new : S) → Call → (closes : Bool) → Result (Vec ℕ Global) Unavailable → Type 0
  CallGoes old new call closes result = g.is_clean new → GoesCall (g.holds old) call closes result (g.holds new)

  -- what a crash leaves after the call
  abbrev pub CallLeaves : (old new : S) → Call → Result (Vec ℕ Global) Unavailable → Type 0
  CallLeaves old new call result =
      g.is_clean new → LeavesCall g.keeps (g.holds old) (g.may_leave old) call result (g.may_leave new)
