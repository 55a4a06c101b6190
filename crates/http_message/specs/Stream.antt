-- The messages of a stream, cut from its start.
use Rattle.std.specs.Prelude.{◌≡◌, ℕ, ◌+◌, ◌<◌, ◌⊎◌, ◌==◌, Bool, List, [], ◌∷◌, ◌++◌, length}
use Rattle.httparse.specs.Grammar.{RequestHead, HasNoRequest}
use Rattle.http_message.specs.Heads.{Opens, NeverOpens, head_framing, request_of}
use Rattle.http_message.specs.Message.{MessageValue, bad_head, asked, RequestValue}
use Rattle.http_message.specs.declared.framing.Framing.{Framing}
use Rattle.http_message.specs.declared.framing.Framing.TheVariants.{BadLength, Body}

-- The body follows the head, and then the rest. A body is read only if the head has its length.
abbrev pub HasBody : Framing → List ℕ → List ℕ → List ℕ → Type 0
HasBody BadLength after body rest = ⊥
HasBody (Body n) after body rest = (length body ≡ n) × (after ≡ body ++ rest)
HasBody framing after body rest = (body ≡ []) × (after ≡ rest)

-- the stream begins with this request, and goes on with the rest
pub record ReadsAsked (is_last : Bool) (stream : List ℕ) (request : RequestValue) (rest : List ℕ) : Type 0 where
  pub head : RequestHead
  pub after : List ℕ
  pub opens : Opens stream head after
  pub has_body : HasBody (head_framing head) after request.body rest
  pub is : request ≡ request_of head request.body is_last

-- the stream begins with a head that has no good length
abbrev pub OpensBadly : List ℕ → Type 0
OpensBadly stream =
    (head : RequestHead) × (after : List ℕ) × Opens stream head after × (head_framing head ≡ BadLength)

-- The stream begins with a bad head: no head can come of it, or one whose length is bad. Nothing is cut from it.
pub record ReadsBad (stream rest : List ℕ) : Type 0 where
  pub bad : NeverOpens stream ⊎ OpensBadly stream
  pub rest_is : rest ≡ stream

-- The stream begins with this message, which is the last of its session or is not, and goes on with the rest.
abbrev pub Reads : Bool → List ℕ → MessageValue → List ℕ → Type 0
Reads is_last stream bad_head rest = ReadsBad stream rest
Reads is_last stream (asked request) rest = ReadsAsked is_last stream request rest

-- a session's message is its last after 999 others
abbrev pub is_last_after : ℕ → Bool
is_last_after n = n + 1 == 1000

-- After n messages of the session the stream begins with these messages, and goes on with the rest.
abbrev pub Spells : ℕ → List ℕ → List MessageValue → List ℕ → Type 0
Spells n stream [] rest = stream ≡ rest
Spells n stream (message ∷ messages) rest =
    (after : List ℕ) × Reads (is_last_after n) stream message after × Spells (n + 1) after messages rest

-- The stream ends inside a head. If nothing can complete that head, it begins with a bad head too.
pub record IsInHead (stream : List ℕ) : Type 0 where
  pub begun : 0 < length stream
  pub short : length stream < 16384
  pub whole : HasNoRequest stream

-- the stream ends inside a body
pub record IsInBody (stream : List ℕ) : Type 0 where
  pub head : RequestHead
  pub after : List ℕ
  pub size : ℕ
  pub opens : Opens stream head after
  pub says : head_framing head ≡ Body size
  pub short : length after < size

-- the stream ends inside a message
abbrev pub IsCut : List ℕ → Type 0
IsCut stream = IsInHead stream ⊎ IsInBody stream

-- the stream ends before a message or inside it
abbrev pub IsPart : List ℕ → Type 0
IsPart stream = (stream ≡ []) ⊎ IsCut stream

-- the stream begins with a head that wants a body of some bytes
abbrev pub WantsBody : List ℕ → Type 0
WantsBody stream =
    (head : RequestHead) × (after : List ℕ) × (size : ℕ)
    × Opens stream head after × (head_framing head ≡ Body size) × (0 < size)
