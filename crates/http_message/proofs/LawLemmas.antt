-- A stream spells one list of messages, however it is cut.
use Rattle.std.proofs.Common.{◌≡◌, ℕ, ◌+◌, ◌<◌, ◌⊎◌, inl, inr, Bool, List, [], ◌∷◌, ◌++◌, length, refl, sym, ap, ◌∙◌, subst, arith, length-append}
use Rattle.httparse.specs.Grammar.{RequestHead}
use Rattle.httparse.proofs.GrammarLemmas.{request_unique}
use Rattle.http_message.specs.declared.framing.Framing.{Framing}
use Rattle.http_message.specs.declared.framing.Framing.TheVariants.{BadLength, LengthRequired, TooLarge, Body}
use Rattle.http_message.specs.Heads.{Opens, NeverOpens, head_framing, request_of}
use Rattle.http_message.specs.Message.{MessageValue, bad_head, asked, RequestValue}
use Rattle.http_message.specs.Stream.{HasBody, OpensBadly, ReadsBad, ReadsAsked, Reads, Spells, IsInHead, IsInBody, IsCut, is_last_after}
use Rattle.http_message.proofs.StreamLemmas.{Opens-append, Spells-append}

-- two bodies of one size at the start of the same bytes are the same
same_bodies : (a b x y : List ℕ) → a ++ x ≡ b ++ y → length a ≡ length b → (a ≡ b) × (x ≡ y)
same_bodies [] [] x y e size = (refl, e)
same_bodies [] (c ∷ b) x y e size = absurd (omega arith)
same_bodies (c ∷ a) [] x y e size = absurd (omega arith)
same_bodies (c ∷ a) (d ∷ b) x y e size =
    let heads : c ≡ d = cc in
    let tails : a ++ x ≡ b ++ y = cc in
    let (same, rest) = same_bodies a b x y tails (omega arith) in
    (cc, rest)

one_body : (framing : Framing) (after body other rest left : List ℕ)
    → HasBody framing after body rest → HasBody framing after other left → (body ≡ other) × (rest ≡ left)
one_body BadLength after body other rest left p q = absurd p
one_body (Body n) after body other rest left p q = same_bodies body other rest left (sym p.1 ∙ q.1) (p.0 ∙ sym q.0)
one_body LengthRequired after body other rest left p q = (p.0 ∙ sym q.0, sym p.1 ∙ q.1)
one_body TooLarge after body other rest left p q = (p.0 ∙ sym q.0, sym p.1 ∙ q.1)

never_now : (s : List ℕ) (h : RequestHead) (rest : List ℕ) → NeverOpens s → ¬ (Opens s h rest)
never_now s h rest never o = never [] h (rest ++ []) (Opens-append s rest [] h o)

no_body : (framing : Framing) (after body rest : List ℕ) → framing ≡ BadLength → ¬ (HasBody framing after body rest)
no_body framing after body rest is b =
    let P : Framing → Type 0 = λ f. HasBody f after body rest in subst P is b

-- a stream with a bad head begins with no request
bad_or_asked : (last : Bool) (s rest left : List ℕ) (a : RequestValue) → ReadsBad s rest → ¬ (ReadsAsked last s a left)
bad_or_asked last s rest left a bad r = either bad.bad
  where
    either : NeverOpens s ⊎ OpensBadly s → ⊥
    either (inl never) = never_now s r.head r.after never r.opens
    either (inr found) =
        let same = (request_unique s found.0 r.head found.1 r.after found.2.reads r.opens.reads).0 in
        no_body (head_framing r.head) r.after a.body left (ap head_framing (sym same) ∙ found.3) r.has_body

-- a stream begins with one request
one_asked : (last : Bool) (s rest left : List ℕ) (a b : RequestValue) → ReadsAsked last s a rest → ReadsAsked last s b left → (a ≡ b) × (rest ≡ left)
one_asked last s rest left a b p q =
    let (heads, afters) = request_unique s p.head q.head p.after q.after p.opens.reads q.opens.reads in
    let P : RequestHead × List ℕ → Type 0 = λ x. HasBody (head_framing x.0) x.1 b.body left in
    let body : HasBody (head_framing p.head) p.after b.body left = subst P (λ i. (sym heads i, sym afters i)) q.has_body in
    let (bodies, rests) = one_body (head_framing p.head) p.after a.body b.body rest left p.has_body body in
    let request : RequestHead × List ℕ → RequestValue = λ x. request_of x.0 x.1 last in
    let same : request_of p.head a.body last ≡ request_of q.head b.body last = λ i. request (heads i, bodies i) in
    (p.is ∙ same ∙ sym q.is, rests)

pub one_message_of : (last : Bool) (s : List ℕ) (m n : MessageValue) (rest left : List ℕ)
    → Reads last s m rest → Reads last s n left → (m ≡ n) × (rest ≡ left)
one_message_of last s bad_head bad_head rest left p q = (refl, p.rest_is ∙ sym q.rest_is)
one_message_of last s bad_head (asked b) rest left p q = absurd (bad_or_asked last s rest left b p q)
one_message_of last s (asked a) bad_head rest left p q = absurd (bad_or_asked last s left rest a q p)
one_message_of last s (asked a) (asked b) rest left p q =
    let (same, rests) = one_asked last s rest left a b p q in (ap asked same, rests)

pub one_spelling_of : (n : ℕ) (s : List ℕ) (xs ys : List MessageValue) (rest left : List ℕ)
    → Spells n s xs rest → Spells n s ys left → length xs ≡ length ys → (xs ≡ ys) × (rest ≡ left)
one_spelling_of n s [] [] rest left p q size = (refl, sym p ∙ q)
one_spelling_of n s [] (y ∷ ys) rest left p q size = absurd (omega arith)
one_spelling_of n s (x ∷ xs) [] rest left p q size = absurd (omega arith)
one_spelling_of n s (x ∷ xs) (y ∷ ys) rest left p q size =
    let (same, afters) = one_message_of (is_last_after n) s x y p.0 q.0 p.1 q.1 in
    let P : List ℕ → Type 0 = λ l. Spells (n + 1) l ys left in
    let (others, rests) = one_spelling_of (n + 1) p.0 xs ys rest left p.2 (subst P (sym afters) q.2) (omega arith) in
    (cc, rests)

joined : (n m : ℕ) (s mid rest : List ℕ) (xs ys : List MessageValue) → n + length xs ≡ m
    → Spells n s xs mid → Spells m mid ys rest → Spells n s (xs ++ ys) rest
joined n m s mid rest [] ys e a b =
    let P : ℕ × List ℕ → Type 0 = λ p. Spells p.0 p.1 ys rest in
    let same : m ≡ n = omega arith in
    subst P (λ i. (same i, sym a i)) b
joined n m s mid rest (x ∷ xs) ys e a b =
    (a.0, a.1, joined (n + 1) m a.0 mid rest xs ys (omega (arith, e)) a.2 b)

pub spelled_in_pieces_of : (n : ℕ) (s more : List ℕ) (xs ys : List MessageValue) (mid rest : List ℕ)
    → Spells n s xs mid → Spells (n + length xs) (mid ++ more) ys rest → Spells n (s ++ more) (xs ++ ys) rest
spelled_in_pieces_of n s more xs ys mid rest p q =
    joined n (n + length xs) (s ++ more) (mid ++ more) rest xs ys refl (Spells-append n s mid more xs p) q

-- ---- a stream that ends inside a message

Told : List ℕ → MessageValue → Type 0
Told s m = (m ≡ bad_head) × IsInHead s × NeverOpens s

told_in_head : (s : List ℕ) (last : Bool) (m : MessageValue) (rest : List ℕ) → IsInHead s → Reads last s m rest → (m ≡ bad_head) × IsInHead s × NeverOpens s
told_in_head s last (asked a) rest inside r = absurd (inside.whole r.head r.after r.opens.reads)
told_in_head s last bad_head rest inside r = either r.bad
  where
    either : NeverOpens s ⊎ OpensBadly s → (bad_head ≡ bad_head) × IsInHead s × NeverOpens s
    either (inl never) = (refl, inside, never)
    either (inr found) = absurd (inside.whole found.0 found.1 found.2.reads)

-- a body that is cut is not whole
no_whole_body : (framing : Framing) (after body rest : List ℕ) (size : ℕ) → framing ≡ Body size → length after < size
    → ¬ (HasBody framing after body rest)
no_whole_body framing after body rest size is short b =
    let P : Framing → Type 0 = λ f. HasBody f after body rest in
    let (whole, split) : (length body ≡ size) × (after ≡ body ++ rest) = subst P is b in
    let sizes = simp length-append at (ap length split) in
    omega (arith, sizes, whole, short)

none_in_body : (s : List ℕ) (last : Bool) (m : MessageValue) (rest : List ℕ) → IsInBody s → ¬ (Reads last s m rest)
none_in_body s last (asked a) rest inside r =
    let (heads, afters) = request_unique s inside.head r.head inside.after r.after inside.opens.reads r.opens.reads in
    let short : length r.after < inside.size = let P : List ℕ → Type 0 = λ l. length l < inside.size in subst P afters inside.short in
    no_whole_body (head_framing r.head) r.after a.body rest inside.size (ap head_framing (sym heads) ∙ inside.says) short r.has_body
none_in_body s last bad_head rest inside r = either r.bad
  where
    differ : (size : ℕ) → BadLength ≡ Body size → ⊥
    differ size e = cc

    either : NeverOpens s ⊎ OpensBadly s → ⊥
    either (inl never) = never_now s inside.head inside.after never inside.opens
    either (inr found) =
        let heads = (request_unique s inside.head found.0 inside.after found.1 inside.opens.reads found.2.reads).0 in
        differ inside.size (sym found.3 ∙ ap head_framing (sym heads) ∙ inside.says)

pub cut_is_no_message_of : (s : List ℕ) → IsCut s → (last : Bool) (m : MessageValue) (rest : List ℕ) → Reads last s m rest
    → (m ≡ bad_head) × IsInHead s × NeverOpens s
cut_is_no_message_of s (inl inside) last m rest r = told_in_head s last m rest inside r
cut_is_no_message_of s (inr inside) last m rest r = absurd (none_in_body s last m rest inside r)
