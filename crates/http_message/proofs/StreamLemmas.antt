-- The start of a stream: what never becomes a head, and what more bytes leave as it is.
use Rattle.std.proofs.Common.{◌≡◌, ℕ, ◌+◌, ◌≤◌, ◌<◌, ◌⊎◌, inl, inr, Bool, List, [], ◌∷◌, ◌++◌, length, drop, refl, ap, ◌∙◌, subst, arith, append_assoc}
use Rattle.httparse.specs.Grammar.{RequestHead, print_request, ReadsRequest, HasNoRequest}
use Rattle.httparse.specs.Spans.{RequestOverflows}
use Rattle.httparse.proofs.GrammarLemmas.{request_prefix_free, ReadsRequest-append}
use Rattle.http_message.specs.declared.framing.Framing.{Framing}
use Rattle.http_message.specs.declared.framing.Framing.TheVariants.{BadLength, LengthRequired, TooLarge, Body}
use Rattle.http_message.specs.Heads.{Opens, NeverOpens, head_framing}
use Rattle.http_message.specs.Message.{MessageValue, bad_head, asked, RequestValue}
use Rattle.http_message.specs.Stream.{HasBody, OpensBadly, ReadsBad, ReadsAsked, Reads, Spells, is_last_after}

-- of two equal joins, the longer first part begins with the shorter
pub longer_first : (a b c d : List ℕ) → c ++ d ≡ a ++ b → length a ≤ length c → c ≡ a ++ drop (length a) c
longer_first [] b c d e h = refl
longer_first (x ∷ a) b [] d e h = absurd (omega arith)
longer_first (x ∷ a) b (y ∷ c) d e h =
    let tail : c ≡ a ++ drop (length a) c = longer_first a b c d (cc) (omega arith) in
    let head : y ≡ x = cc in
    cc

-- too many fields
pub overflow_never : (s : List ℕ) (n : ℕ) → 32 ≤ n → RequestOverflows n s → NeverOpens s
overflow_never s n room over more h rest o = let many = over more h rest o.reads in let few = o.few in absurd (omega (arith, many, few))

-- no whole head in as many bytes as a head may have
pub full_never : (s : List ℕ) → HasNoRequest s → 16384 ≤ length s → NeverOpens s
full_never s none long more h rest o =
    let short = o.short in
    none h (drop (length (print_request h)) s)
    (o.reads.0, longer_first (print_request h) rest s more o.reads.1 (omega arith))

-- a whole head that is too large
pub large_never : (s rest : List ℕ) (h : RequestHead) → ReadsRequest s h rest → 16384 < length (print_request h) → NeverOpens s
large_never s rest h reads large more k after o =
    let same = (request_prefix_free s more h k rest after reads o.reads).0 in
    let P : RequestHead → Type 0 = λ g. 16384 < length (print_request g) in
    let long : 16384 < length (print_request k) = subst P same large in
    let short = o.short in
    absurd (omega (arith, long, short))

-- more bytes after what opens
pub Opens-append : (s rest more : List ℕ) (h : RequestHead) → Opens s h rest → Opens (s ++ more) h (rest ++ more)
Opens-append s rest more h o = record {
  reads = ReadsRequest-append s h rest more o.reads;
  few = o.few;
  short = o.short;
}

pub NeverOpens-append : (s more : List ℕ) → NeverOpens s → NeverOpens (s ++ more)
NeverOpens-append s more never after h rest o =
    let P : List ℕ → Type 0 = λ l. Opens l h rest in
    never (more ++ after) h rest (subst P (append_assoc s more after) o)

bad_append : (s rest more : List ℕ) → ReadsBad s rest → ReadsBad (s ++ more) (rest ++ more)
bad_append s rest more r = record {
  bad = either r.bad;
  rest_is = ap (λ l. l ++ more) r.rest_is;
}
  where
    either : NeverOpens s ⊎ OpensBadly s → NeverOpens (s ++ more) ⊎ OpensBadly (s ++ more)
    either (inl never) = inl (NeverOpens-append s more never)
    either (inr found) = inr (found.0, found.1 ++ more, Opens-append s found.1 more found.0 found.2, found.3)

body_append : (framing : Framing) (after body rest more : List ℕ) → HasBody framing after body rest
    → HasBody framing (after ++ more) body (rest ++ more)
body_append BadLength after body rest more b = b
body_append (Body n) after body rest more b = (b.0, ap (λ l. l ++ more) b.1 ∙ append_assoc body rest more)
body_append LengthRequired after body rest more b = (b.0, ap (λ l. l ++ more) b.1)
body_append TooLarge after body rest more b = (b.0, ap (λ l. l ++ more) b.1)

asked_append : (last : Bool) (s rest more : List ℕ) (a : RequestValue) → ReadsAsked last s a rest
    → ReadsAsked last (s ++ more) a (rest ++ more)
asked_append last s rest more a r = record {
  head = r.head;
  after = r.after ++ more;
  opens = Opens-append s r.after more r.head r.opens;
  has_body = body_append (head_framing r.head) r.after a.body rest more r.has_body;
  is = r.is;
}

-- more bytes after a message
pub Reads-append : (last : Bool) (s more : List ℕ) (m : MessageValue) (rest : List ℕ) → Reads last s m rest → Reads last (s ++ more) m (rest ++ more)
Reads-append last s more bad_head rest r = bad_append s rest more r
Reads-append last s more (asked a) rest r = asked_append last s rest more a r

-- more bytes after some messages
pub Spells-append : (n : ℕ) (s rest more : List ℕ) (ms : List MessageValue) → Spells n s ms rest → Spells n (s ++ more) ms (rest ++ more)
Spells-append n s rest more [] e = ap (λ l. l ++ more) e
Spells-append n s rest more (m ∷ ms) r =
    (r.0 ++ more, Reads-append (is_last_after n) s more m r.0 r.1, Spells-append (n + 1) r.0 rest more ms r.2)
