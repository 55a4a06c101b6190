-- Bytes that cannot end a head.
use Rattle.std.proofs.Common.{◌≡◌, ℕ, ◌≤◌, ◌<◌, ◌⊎◌, inl, inr, Bool, true, false, ◌&&◌, ◌||◌, ◌==◌, List, [], ◌∷◌, ◌++◌, ◌-◌, length, take, drop, refl, sym, ap, ◌∙◌, subst, arith, append_assoc, length-append, IsTrue}
use Rattle.std.proofs.lemmas.Grind.{common_steps}
use Rattle.std.proofs.lemmas.Bool.{cases_lt, eqb-true}
use Rattle.std.proofs.lemmas.List.{take_rest}
use Rattle.std.proofs.lemmas.List.Elements.{All-head}
use Rattle.std.proofs.lemmas.List.Folds.{list_any-append, list_all-append}
use Rattle.std.specs.List.{list_any, list_all, flat_map}
use Rattle.httparse.specs.Grammar.{RequestHead, LineEnd, crlf, lf, print_end, print_field, print_section, print_blank, print_request, HasNoRequest, IsToken, is_token_byte}
use Rattle.httparse.proofs.GrammarLemmas.{print_request-append}
use Rattle.http_message.specs.Input.{is_line_end_byte}
use Rattle.http_message.proofs.StreamLemmas.{longer_first}

abbrev EndsInFeed : List ℕ → Type 0
EndsInFeed s = (start : List ℕ) × (s ≡ start ++ 10 ∷ [])

feed_after : (start s : List ℕ) → EndsInFeed s → EndsInFeed (start ++ s)
feed_after start s ends = (start ++ ends.0, ap (λ l. start ++ l) ends.1 ∙ sym (append_assoc start ends.0 (10 ∷ [])))

line_end : (e : LineEnd) → EndsInFeed (print_end e)
line_end crlf = (13 ∷ [], refl)
line_end lf = ([], refl)

-- a head ends with a line feed
head_end : (h : RequestHead) → EndsInFeed (print_request h)
unfolding print_request
head_end h = feed_after _ (print_section h.fields h.last) (feed_after (flat_map print_field h.fields) (print_end h.last) (line_end h.last))

-- the end of a join is in its second part, if that has a byte
feed_in : (s more start : List ℕ) → s ++ more ≡ start ++ 10 ∷ [] → 0 < length more → list_any (λ b. b == 10) more ≡ true
feed_in [] more start e some = ap (list_any (λ b. b == 10)) e ∙ list_any-append (λ b. b == 10) start (10 ∷ []) ∙ last (list_any (λ b. b == 10) start)
  where
    last : (b : Bool) → (b || true) ≡ true
    last true = refl
    last false = refl
feed_in (x ∷ s) more [] e some =
    let tails : s ++ more ≡ [] = cc in
    let sizes = simp length-append at (ap length tails) in absurd (omega (arith, sizes))
feed_in (x ∷ s) more (y ∷ start) e some = let tails : s ++ more ≡ start ++ 10 ∷ [] = cc in feed_in s more start tails some

-- Bytes without a line feed complete no head.
pub no_feed_no_head : (s more : List ℕ) → HasNoRequest s → list_any (λ b. b == 10) more ≡ false → HasNoRequest (s ++ more)
no_feed_no_head s more none plain h rest reads = by_cases (cases_lt (length s) (length (print_request h)))
  where
    by_cases : (length s < length (print_request h)) ⊎ (length (print_request h) ≤ length s) → ⊥
    by_cases (inr within) =
        none h (drop (length (print_request h)) s) (reads.0, longer_first (print_request h) rest s more reads.1 within)
    by_cases (inl past) =
        let head : print_request h ≡ s ++ drop (length s) (print_request h) = longer_first s more (print_request h) rest (sym reads.1) (omega arith) in
        let mid = drop (length s) (print_request h) in
        let ends = head_end h in
        let sizes = simp length-append at (ap length head) in
        let feed : list_any (λ b. b == 10) mid ≡ true = feed_in s mid ends.0 (sym head ∙ ends.1) (omega (arith, sizes)) in
        let split : more ≡ mid ++ rest = same_rest s more (mid ++ rest) (reads.1 ∙ ap (λ l. l ++ rest) head ∙ append_assoc s mid rest) in
        let any : list_any (λ b. b == 10) more ≡ true = ap (list_any (λ b. b == 10)) split ∙ list_any-append (λ b. b == 10) mid rest ∙ ap (λ (b : Bool). b || list_any (λ b. b == 10) rest) feed in
        absurd (cc)
      where
        same_rest : (a x y : List ℕ) → a ++ x ≡ a ++ y → x ≡ y
        same_rest [] x y e = e
        same_rest (c ∷ a) x y e = let tails : a ++ x ≡ a ++ y = cc in same_rest a x y tails

-- a byte of a method does not end a line
token_is_no_end : (b : ℕ) → is_token_byte b ≡ true → is_line_end_byte b ≡ true → ⊥
unfolding is_token_byte
token_is_no_end b token end = by_cases (b == 13) refl
  where
    by_cases : (t : Bool) → (b == 13) ≡ t → ⊥
    by_cases true e = let is : is_token_byte b ≡ is_token_byte 13 = ap is_token_byte (eqb-true b 13 e) in absurd (cc)
    by_cases false e =
        let feed : (b == 10) ≡ true = ap (λ (t : Bool). t || (b == 10)) (sym e) ∙ end in
        let is : is_token_byte b ≡ is_token_byte 10 = ap is_token_byte (eqb-true b 10 feed) in absurd (cc)

-- a byte in the middle of line ends
in_the_middle : (before middle after : List ℕ) (b : ℕ) → list_all is_line_end_byte (before ++ ((b ∷ middle) ++ after)) ≡ true → is_line_end_byte b ≡ true
in_the_middle [] middle after b all = first (is_line_end_byte b) _ all
  where
    first : (x y : Bool) → (x && y) ≡ true → x ≡ true
    first true y e = refl
    first false y e = absurd (cc)
in_the_middle (c ∷ before) middle after b all = in_the_middle before middle after b (second (is_line_end_byte c) _ all)
  where
    second : (x y : Bool) → (x && y) ≡ true → y ≡ true
    second true y e = e
    second false y e = absurd (cc)

method_byte : (method before after : List ℕ) → IsToken method → list_all is_line_end_byte (before ++ (method ++ after)) ≡ true → ⊥
method_byte [] before after token all = absurd (omega (arith, token.0))
method_byte (b ∷ method) before after token all =
    token_is_no_end b (All-head (λ b. IsTrue (is_token_byte b)) b method token.1) (in_the_middle before method after b all)

-- Line ends alone do not make a head.
pub blank_no_head : (s : List ℕ) → list_all is_line_end_byte s ≡ true → HasNoRequest s
blank_no_head s blank h rest reads =
    method_byte h.method (print_blank h.blank) _ reads.0.method
    (ap (list_all is_line_end_byte) (sym (print_request-append h rest)) ∙ ap (list_all is_line_end_byte) (sym reads.1) ∙ blank)

-- ---- a piece after known bytes

-- what a reader gave, as the bytes after those that were known
pub piece_is : (known piece all bytes : List ℕ) → bytes ≡ all → all ≡ known ++ piece
    → take (length bytes - length known) (drop (length known) bytes) ≡ piece
piece_is known piece all bytes same grown =
    take_rest bytes (length known) ∙ ap (drop (length known)) (same ∙ grown) ∙ after known piece
  where
    after : (a b : List ℕ) → drop (length a) (a ++ b) ≡ b
    after [] b = refl
    after (x ∷ a) b = grind (arith, common_steps, after a b)

pub still_blank : (known piece all : List ℕ) (blank now : Bool) → all ≡ known ++ piece → blank ≡ list_all is_line_end_byte known
    → (blank ≡ true → now ≡ list_all is_line_end_byte piece) → (blank ≡ false → now ≡ false) → now ≡ list_all is_line_end_byte all
still_blank known piece all true now grown was on off =
    on refl ∙ ap (λ (b : Bool). b && list_all is_line_end_byte piece) was
    ∙ sym (list_all-append is_line_end_byte known piece) ∙ ap (list_all is_line_end_byte) (sym grown)
still_blank known piece all false now grown was on off =
    off refl ∙ ap (λ (b : Bool). b && list_all is_line_end_byte piece) was
    ∙ sym (list_all-append is_line_end_byte known piece) ∙ ap (list_all is_line_end_byte) (sym grown)

-- bytes that are blank with their new piece, or have no line feed in it, do not make a head
pub still_no_head : (known piece all : List ℕ) → HasNoRequest known → all ≡ known ++ piece
    → (list_all is_line_end_byte all ≡ true) ⊎ (list_any (λ b. b == 10) piece ≡ false) → HasNoRequest all
still_no_head known piece all none grown (inl blank) = blank_no_head all blank
still_no_head known piece all none grown (inr plain) = subst HasNoRequest (sym grown) (no_feed_no_head known piece none plain)
