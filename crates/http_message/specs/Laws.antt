-- Laws of the messages of all streams.
use Rattle.std.specs.Prelude.{◌≡◌, ℕ, ◌+◌, Bool, List, ◌++◌, length}
use Rattle.http_message.specs.Heads.{NeverOpens}
use Rattle.http_message.specs.Message.{MessageValue, bad_head}
use Rattle.http_message.specs.Stream.{Reads, Spells, IsCut, IsInHead}

-- a stream begins with one message, and goes on with one rest
abbrev pub OneMessage : Type 0
OneMessage =
    (is_last : Bool) (stream : List ℕ) (m n : MessageValue) (rest left : List ℕ)
    → Reads is_last stream m rest → Reads is_last stream n left → (m ≡ n) × (rest ≡ left)

-- more bytes change no message that is whole
abbrev pub MoreBytes : Type 0
MoreBytes =
    (is_last : Bool) (stream more : List ℕ) (m : MessageValue) (rest : List ℕ)
    → Reads is_last stream m rest → Reads is_last (stream ++ more) m (rest ++ more)

-- a stream spells one list of this number of messages
abbrev pub OneSpelling : Type 0
OneSpelling =
    (n : ℕ) (stream : List ℕ) (xs ys : List MessageValue) (rest left : List ℕ)
    → Spells n stream xs rest → Spells n stream ys left → length xs ≡ length ys → (xs ≡ ys) × (rest ≡ left)

-- The messages that a piece spells, and then those that its rest spells with the next piece, are those that
-- both pieces spell together.
abbrev pub SpelledInPieces : Type 0
SpelledInPieces =
    (n : ℕ) (stream more : List ℕ) (xs ys : List MessageValue) (mid rest : List ℕ)
    → Spells n stream xs mid → Spells (n + length xs) (mid ++ more) ys rest → Spells n (stream ++ more) (xs ++ ys) rest

-- A stream that ends inside a message begins with none, except that it may begin with a bad head where it
-- ends inside a head that nothing can complete.
abbrev pub CutIsNoMessage : Type 0
CutIsNoMessage =
    (stream : List ℕ) → IsCut stream
    → (is_last : Bool) (m : MessageValue) (rest : List ℕ) → Reads is_last stream m rest
    → (m ≡ bad_head) × IsInHead stream × NeverOpens stream
