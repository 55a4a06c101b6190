-- The pattern of some pieces takes a path exactly where the pieces of the path fit.
use Rattle.std.proofs.Common.{◌≡◌, ℕ, Bool, true, false, not, ◌&&◌, cond, List, [], ◌∷◌, ◌++◌, length, refl, sym, ap, ◌∙◌, arith}
use Rattle.std.proofs.lemmas.Bool.{eqb-true, lt-ltb}
use Rattle.std.proofs.lemmas.Bool.Decides.{nat_tests}
use Rattle.std.specs.Prelude.{◌==◌, nat_lt, bytes_eq}
use Rattle.std.specs.List.{list_all, onto_first}
use Rattle.http_routes.specs.Pieces.{pieces_of, fits}
use Rattle.http_routes.specs.Table.{Piece, text, any, pattern}
use Rattle.http_routes.proofs.Walks.{after_run, takes}

-- no text has a slash or a parameter in it
abbrev pub is_clean : List Piece → Bool
is_clean [] = true
is_clean (text t ∷ ps) = list_all (λ b. not (b == 47) && not (b == 256)) t && is_clean ps
is_clean (any name ∷ ps) = is_clean ps

-- the pieces after the first
abbrev others_of : List (List ℕ) → List (List ℕ)
others_of [] = []
others_of (first ∷ others) = others

-- the pieces begin with one
split_some : (q : List ℕ) → (first : List ℕ) × (others : List (List ℕ)) × (pieces_of q ≡ first ∷ others)
split_some [] = ([], [], refl)
split_some (b ∷ q) = by_test (b == 47) (split_some q)
  where
    by_test : (t : Bool) → (first : List ℕ) × (others : List (List ℕ)) × (pieces_of q ≡ first ∷ others)
        → (first : List ℕ) × (others : List (List ℕ)) × (cond t ([] ∷ pieces_of q) (onto_first b (pieces_of q)) ≡ first ∷ others)
    by_test true (first, others, e) = ([], pieces_of q, refl)
    by_test false (first, others, e) = (b ∷ first, others, ap (onto_first b) e)

none_fit : (q : List ℕ) → false ≡ fits [] (pieces_of q)
none_fit q = let (first, others, e) = split_some q in ap (fits []) (sym e)

-- what holds of the rest of a path, for the texts, the names and the ends of pieces
record Cut (q : List ℕ) : Type 0 where
  pub of_text : (t : List ℕ) (ps : List Piece) → is_clean (text t ∷ ps) ≡ true → takes (t ++ pattern ps) q ≡ fits (text t ∷ ps) (pieces_of q)
  pub of_name : (name : List ℕ) (ps : List Piece) → is_clean ps ≡ true → takes (256 ∷ pattern ps) q ≡ fits (any name ∷ ps) (pieces_of q)
  pub of_end : (ps : List Piece) → is_clean ps ≡ true → takes (pattern ps) (after_run q) ≡ fits ps (others_of (pieces_of q))

-- after a slash
after_slash : (q : List ℕ) → Cut q → (ps : List Piece) → is_clean ps ≡ true → takes (pattern ps) (47 ∷ q) ≡ fits ps (pieces_of q)
after_slash q cut [] clean = none_fit q
after_slash q cut (text t ∷ ps) clean = cut.of_text t ps clean
after_slash q cut (any name ∷ ps) clean = cut.of_name name ps clean

-- at the end of a path
at_end : (ps : List Piece) → takes (pattern ps) [] ≡ fits ps []
at_end [] = refl
at_end (text t ∷ ps) = refl
at_end (any name ∷ ps) = refl

-- another byte than a slash begins no piece
no_piece : (b : ℕ) (q : List ℕ) (ps : List Piece) → (b == 47) ≡ false → takes (pattern ps) (b ∷ q) ≡ false
no_piece b q [] e = refl
no_piece b q (text t ∷ ps) e = let other : (47 == b) ≡ false = grind (arith, nat_tests) in ap (λ (c : Bool). c && takes (t ++ pattern ps) q) other
no_piece b q (any name ∷ ps) e = let other : (47 == b) ≡ false = grind (arith, nat_tests) in ap (λ (c : Bool). c && takes (256 ∷ pattern ps) q) other

both_true : (a b : Bool) → (a && b) ≡ true → (a ≡ true) × (b ≡ true)
both_true true b e = (refl, e)
both_true false b e = absurd (cc)

assoc : (a b c : Bool) → (a && (b && c)) ≡ ((a && b) && c)
assoc true b c = refl
assoc false b c = refl

-- a byte of a clean text is neither a slash nor a parameter
clean_byte : (c : ℕ) (t : List ℕ) (ps : List Piece) → is_clean (text (c ∷ t) ∷ ps) ≡ true
    → ((c == 47) ≡ false) × ((c == 256) ≡ false) × (is_clean (text t ∷ ps) ≡ true)
clean_byte c t ps clean =
    let (texts, rest) = both_true (list_all (λ b. not (b == 47) && not (b == 256)) (c ∷ t)) (is_clean ps) clean in
    let (here, later) = both_true (not (c == 47) && not (c == 256)) _ texts in
    let (one, two) = both_true (not (c == 47)) (not (c == 256)) here in
    (negated (c == 47) one, negated (c == 256) two, joined _ _ later rest)
  where
    negated : (b : Bool) → not b ≡ true → b ≡ false
    negated true e = absurd (cc)
    negated false e = refl

    joined : (a b : Bool) → a ≡ true → b ≡ true → (a && b) ≡ true
    joined true b e f = f
    joined false b e f = absurd (cc)

clean_rest : (t : List ℕ) (ps : List Piece) → is_clean (text t ∷ ps) ≡ true → is_clean ps ≡ true
clean_rest t ps clean = (both_true (list_all (λ b. not (b == 47) && not (b == 256)) t) (is_clean ps) clean).1

-- one byte of a text
byte_takes : (c b : ℕ) (u q : List ℕ) → (c == 256) ≡ false → takes (c ∷ u) (b ∷ q) ≡ ((c == b) && takes u q)
byte_takes c b u q e = ap (λ (s : Bool). cond s (not (b == 47) && takes u (after_run q)) ((c == b) && takes u q)) e

cut_at_slash : (b : ℕ) (q : List ℕ) → (b == 47) ≡ true → Cut q → Cut (b ∷ q)
cut_at_slash b q e cut = record {
  of_text = texts;
  of_name = λ name ps clean. ap (λ (s : Bool). not s && takes (pattern ps) (after_run q)) e ∙ ap (fits (any name ∷ ps)) (sym pieces);
  of_end = λ ps clean. ap (λ (s : Bool). takes (pattern ps) (cond s (b ∷ q) (after_run q))) e ∙ ends ps clean ∙ ap (λ l. fits ps (others_of l)) (sym pieces);
}
  where
    same : b ≡ 47
    same = eqb-true b 47 e

    pieces : pieces_of (b ∷ q) ≡ [] ∷ pieces_of q
    pieces = ap (λ (s : Bool). cond s ([] ∷ pieces_of q) (onto_first b (pieces_of q))) e

    ends : (ps : List Piece) → is_clean ps ≡ true → takes (pattern ps) (b ∷ q) ≡ fits ps (pieces_of q)
    ends ps clean = ap (λ x. takes (pattern ps) (x ∷ q)) same ∙ after_slash q cut ps clean

    texts : (t : List ℕ) (ps : List Piece) → is_clean (text t ∷ ps) ≡ true → takes (t ++ pattern ps) (b ∷ q) ≡ fits (text t ∷ ps) (pieces_of (b ∷ q))
    texts [] ps clean = ends ps clean ∙ ap (fits (text [] ∷ ps)) (sym pieces)
    texts (c ∷ t) ps clean =
        let (other, plain, rest) = clean_byte c t ps clean in
        let differs : (c == b) ≡ false = ap (λ x. c == x) same ∙ other in
        byte_takes c b (t ++ pattern ps) q plain ∙ ap (λ (s : Bool). s && takes (t ++ pattern ps) q) differs ∙ ap (fits (text (c ∷ t) ∷ ps)) (sym pieces)

cut_in_piece : (b : ℕ) (q : List ℕ) → (b == 47) ≡ false → Cut q → Cut (b ∷ q)
cut_in_piece b q e cut = record {
  of_text = texts;
  of_name = names;
  of_end = λ ps clean. ap (λ (s : Bool). takes (pattern ps) (cond s (b ∷ q) (after_run q))) e ∙ cut.of_end ps clean
      ∙ ap (λ l. fits ps (others_of l)) split ∙ ap (λ l. fits ps (others_of l)) (sym pieces);
}
  where
    first : List ℕ
    first = (split_some q).0

    others : List (List ℕ)
    others = (split_some q).1

    split : pieces_of q ≡ first ∷ others
    split = (split_some q).2

    pieces : pieces_of (b ∷ q) ≡ (b ∷ first) ∷ others
    pieces = ap (λ (s : Bool). cond s ([] ∷ pieces_of q) (onto_first b (pieces_of q))) e ∙ ap (onto_first b) split

    names : (name : List ℕ) (ps : List Piece) → is_clean ps ≡ true → takes (256 ∷ pattern ps) (b ∷ q) ≡ fits (any name ∷ ps) (pieces_of (b ∷ q))
    names name ps clean =
        let some : nat_lt 0 (length (b ∷ first)) ≡ true = lt-ltb 0 (length (b ∷ first)) (omega arith) in
        ap (λ (s : Bool). not s && takes (pattern ps) (after_run q)) e ∙ cut.of_end ps clean ∙ ap (λ l. fits ps (others_of l)) split
        ∙ ap (λ (s : Bool). s && fits ps others) (sym some) ∙ ap (fits (any name ∷ ps)) (sym pieces)

    texts : (t : List ℕ) (ps : List Piece) → is_clean (text t ∷ ps) ≡ true → takes (t ++ pattern ps) (b ∷ q) ≡ fits (text t ∷ ps) (pieces_of (b ∷ q))
    texts [] ps clean = no_piece b q ps e ∙ ap (fits (text [] ∷ ps)) (sym pieces)
    texts (c ∷ t) ps clean =
        let (other, plain, rest) = clean_byte c t ps clean in
        byte_takes c b (t ++ pattern ps) q plain ∙ ap (λ (s : Bool). (c == b) && s) (cut.of_text t ps rest ∙ ap (fits (text t ∷ ps)) split)
        ∙ assoc (c == b) (bytes_eq t first) (fits ps others) ∙ ap (fits (text (c ∷ t) ∷ ps)) (sym pieces)

cut_of : (q : List ℕ) → Cut q
cut_of [] = record {
  of_text = end_text;
  of_name = λ name ps clean. refl;
  of_end = λ ps clean. at_end ps;
}
  where
    end_text : (t : List ℕ) (ps : List Piece) → is_clean (text t ∷ ps) ≡ true → takes (t ++ pattern ps) [] ≡ fits (text t ∷ ps) ([] ∷ [])
    end_text [] ps clean = at_end ps
    end_text (c ∷ t) ps clean = refl
cut_of (b ∷ q) = by_test (b == 47) refl (cut_of q)
  where
    by_test : (s : Bool) → (b == 47) ≡ s → Cut q → Cut (b ∷ q)
    by_test true e cut = cut_at_slash b q e cut
    by_test false e cut = cut_in_piece b q e cut

-- the pattern of pieces takes the paths whose pieces fit
pub pattern_takes : (ps : List Piece) (path : List ℕ) → is_clean ps ≡ true → takes (pattern ps) path ≡ fits (text [] ∷ ps) (pieces_of path)
pattern_takes ps path clean = (cut_of path).of_text [] ps clean
