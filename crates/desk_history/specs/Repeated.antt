-- Each submission, retry and incoming file is accepted once: one that is sent again has its first answer.
use Rattle.std.specs.Prelude.{◌≡◌, Bool, true, false, List, ◌∷◌, ◌++◌}
use Rattle.desk_history.specs.declared.identity.Identity.{Identity}
use Rattle.desk_history.specs.Message.{Message, Of, TakeFile, Pair, is_accepted}
use Rattle.desk_history.specs.Operator.{answer_to, IsHistory}
use Rattle.desk_history.specs.Request as request

-- a message that acts once, however often it is sent
abbrev pub acts_once : Message → Bool
acts_once (Of c (request.Submit d)) = true
acts_once (Of c (request.Retry d)) = true
acts_once (TakeFile file) = true
acts_once m = false

-- After any history in which it was accepted, at whatever place, it is answered as it was there.
abbrev pub FirstAnswerStands : Type 0
FirstAnswerStands = (identity : Identity) (later : List Pair) (first : Pair) (earlier : List Pair)
    → IsHistory identity (later ++ first ∷ earlier) → acts_once first.message ≡ true → is_accepted first.answer ≡ true
    → answer_to identity (later ++ first ∷ earlier) first.message ≡ first.answer
