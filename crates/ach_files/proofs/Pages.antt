-- Printing one record after the other.
use Rattle.std.proofs.Common.{subst, ◌≡◌, ℕ, zero, suc, ◌+◌, ◌<◌, true, false, List, [], ◌∷◌, ◌++◌, map, length, take, get_or, replicate, refl, sym, ap, ◌∙◌, arith, append_assoc}
use Rattle.std.specs.Prelude.{OnOk, OnErr, is_err, Result, Ok, Err, Option, Some, None, IsSome}
use Rattle.std.specs.List.{list_all, flat_map}
use Rattle.std.proofs.lemmas.Bool.{and_parts, and_from}
use Rattle.std.proofs.lemmas.List.{append-nil, take_more, map-append, replicate_more}
use Rattle.std.proofs.Math.Seq.{take-append_seam}
use Rattle.std.proofs.lemmas.List.Folds.{list_all-append}
use Rattle.std.proofs.lemmas.List.Concat.{flat_map-append}
use Rattle.ach_records.specs.Print.{Value, row_fits, row_text}
use Rattle.ach_files.specs.Outgoing.{page, AllFit, BeginsWith, IsText}

pub page_append : (a b : List (List ℕ)) → page (a ++ b) ≡ page a ++ page b
page_append a b = flat_map-append (λ (r : List ℕ). r ++ 10 ∷ []) a b

pub rows_append : (a b : List (List Value)) → page (map row_text (a ++ b)) ≡ page (map row_text a) ++ page (map row_text b)
rows_append a b = ap page (map-append row_text a b) ∙ page_append (map row_text a) (map row_text b)

pub fit_append : (a b : List (List Value)) → AllFit (a ++ b) → AllFit a × AllFit b
fit_append a b h = and_parts _ _ (sym (list_all-append row_fits a b) ∙ h)

pub fit_both : (a b : List (List Value)) → AllFit a → AllFit b → AllFit (a ++ b)
fit_both a b p q = list_all-append row_fits a b ∙ and_from _ _ p q

fit_at : {X : Type 0} (f : X → List (List Value)) (xs : List X) (i : ℕ) (d : X) → AllFit (flat_map f xs) → i < length xs → AllFit (f (get_or xs i d))
fit_at f [] i d h lt = absurd (omega (arith, lt))
fit_at f (x ∷ xs) zero d h lt = (fit_append (f x) (flat_map f xs) h).0
fit_at f (x ∷ xs) (suc i) d h lt = fit_at f xs i d ((fit_append (f x) (flat_map f xs) h).1) (omega (arith, lt))

page_more : {X : Type 0} (f : X → List (List Value)) (xs : List X) (i : ℕ) (d : X) → i < length xs →
    page (map row_text (flat_map f (take (i + 1) xs))) ≡ page (map row_text (flat_map f (take i xs))) ++ page (map row_text (f (get_or xs i d)))
page_more f xs i d lt =
    let x = get_or xs i d in
    let one : flat_map f (take (i + 1) xs) ≡ flat_map f (take i xs) ++ f x = ap (flat_map f) (take_more xs i d lt) ∙ flat_map-append f (take i xs) (x ∷ []) ∙ ap (λ ys. flat_map f (take i xs) ++ ys) (append-nil (f x)) in
    ap (λ rows. page (map row_text rows)) one ∙ rows_append (flat_map f (take i xs)) (f x)

-- one item's rows
pub fit_item : {X : Type 0} (f : X → List (List Value)) (xs : List X) (i : ℕ) (x : X) → AllFit (flat_map f xs) → i < length xs → x ≡ get_or xs i x → AllFit (f x)
fit_item f xs i x h lt is = subst (λ y. AllFit (f y)) (sym is) (fit_at f xs i x h lt)

-- one step of a loop that prints
pub puts_more : {X : Type 0} (f : X → List (List Value)) (xs : List X) (i : ℕ) (x : X) (start old new : List ℕ) → i < length xs → x ≡ get_or xs i x →
    old ≡ start ++ page (map row_text (flat_map f (take i xs))) → new ≡ old ++ page (map row_text (f x)) →
    new ≡ start ++ page (map row_text (flat_map f (take (i + 1) xs)))
puts_more f xs i x start old new lt is e g =
    g ∙ ap (λ (l : List ℕ). l ++ page (map row_text (f x))) e ∙ append_assoc start _ _ ∙ ap (λ y. start ++ (page (map row_text (flat_map f (take i xs))) ++ page (map row_text (f y)))) is ∙ ap (λ (l : List ℕ). start ++ l) (sym (page_more f xs i x lt))

pub page_fillers : (text : List ℕ) (n : ℕ) → page (replicate (n + 1) text) ≡ page (replicate n text) ++ (text ++ 10 ∷ [])
page_fillers text n = ap page (sym (replicate_more n text)) ∙ page_append (replicate n text) (text ∷ []) ∙ ap (λ (l : List ℕ). page (replicate n text) ++ l) (append-nil (text ++ 10 ∷ []))

-- a batch or a file: first row, rows, last row
pub around : (start one two three : List ℕ) (first last : List Value) (rows : List (List Value)) →
    one ≡ start ++ (row_text first ++ 10 ∷ []) → two ≡ one ++ page (map row_text rows) → three ≡ two ++ (row_text last ++ 10 ∷ []) →
    three ≡ start ++ page (map row_text (first ∷ rows ++ last ∷ []))
around start one two three first last rows e f g =
    let h : List ℕ = row_text first ++ 10 ∷ [] in
    let t : List ℕ = row_text last ++ 10 ∷ [] in
    let p : List ℕ = page (map row_text rows) in
    let whole : page (map row_text (first ∷ rows ++ last ∷ [])) ≡ h ++ (p ++ t) = ap (λ (l : List ℕ). h ++ l) (rows_append rows (last ∷ []) ∙ ap (λ (l : List ℕ). p ++ l) (append-nil t)) in
    let all : three ≡ ((start ++ h) ++ p) ++ t = g ∙ ap (λ (l : List ℕ). l ++ t) (f ∙ ap (λ (l : List ℕ). l ++ p) e) in
    all ∙ append_assoc (start ++ h) p t ∙ append_assoc start h (p ++ t) ∙ ap (λ (l : List ℕ). start ++ l) (sym whole)

pub page_two : (start one two : List ℕ) (first : List Value) (rows : List (List Value)) → one ≡ start ++ (row_text first ++ 10 ∷ []) → two ≡ one ++ page (map row_text rows) → two ≡ start ++ page (map row_text (first ∷ rows))
page_two start one two first rows e f = f ∙ ap (λ (l : List ℕ). l ++ page (map row_text rows)) e ∙ append_assoc start (row_text first ++ 10 ∷ []) (page (map row_text rows))

-- what begins with bytes has them first
pub take_begins : (old new : List ℕ) → BeginsWith new old → take (length old) new ≡ old
take_begins old new h = ap (take (length old)) h.1 ∙ take-append_seam old h.0

-- what begins with more begins with less
pub begins_more : (old mid new x : List ℕ) → mid ≡ old ++ x → BeginsWith new mid → BeginsWith new old
begins_more old mid new x e h = (x ++ h.0, h.1 ∙ ap (λ (l : List ℕ). l ++ h.0) e ∙ append_assoc old x h.0)

pub when_ok : {A E : Type 0} (r : Result A E) (P : Type 0) → is_err r ≡ false → OnOk r P → P
when_ok (Ok x) P is h = h
when_ok (Err e) P is h = absurd cc

pub when_err : {A E : Type 0} (r : Result A E) (P : Type 0) → is_err r ≡ true → OnErr r P → P
when_err (Ok x) P is h = absurd cc
when_err (Err e) P is h = h

pub on_ok : {A E : Type 0} (r : Result A E) (P Q : Type 0) → OnOk r P → (P → Q) → OnOk r Q
on_ok (Ok x) P Q h f = f h
on_ok (Err e) P Q h f = h

pub around_fits : (first last : List Value) (rows : List (List Value)) → AllFit (first ∷ rows ++ last ∷ []) → (row_fits first ≡ true) × AllFit rows × (row_fits last ≡ true)
around_fits first last rows h =
    let p = and_parts (row_fits first) (list_all row_fits (rows ++ last ∷ [])) h in
    let q = fit_append rows (last ∷ []) p.1 in
    (p.0, q.0, (and_parts (row_fits last) true q.1).0)

pub around_fit : (first last : List Value) (rows : List (List Value)) → row_fits first ≡ true → AllFit rows → row_fits last ≡ true → AllFit (first ∷ rows ++ last ∷ [])
around_fit first last rows p q r = and_from _ _ p (fit_both rows (last ∷ []) q (and_from _ _ r refl))

pub there : (t : Option (List ℕ)) (values : List Value) → IsText t values → row_fits values ≡ true → IsSome t
there (Some text) values h fits = refl
there None values h fits = absurd cc
