-- Places that are put under themselves are found under themselves.
use Rattle.std.proofs.Common.{◌≡◌, ℕ, Bool, true, false, ◌||◌, ◌==◌, cond, List, [], ◌∷◌, find, Option, Some, None, option_map, refl, sym, ap, ◌∙◌, arith, is_gt}
use Rattle.std.specs.Prelude.{fold}
use Rattle.std.specs.List.{AllByRecursion, list_any}
use Rattle.std.specs.Ordering.{nat_cmp}
use Rattle.std.proofs.lemmas.Bool.{eqb-true}
use Rattle.desk_history.specs.declared.sent_entry.SentEntry.{SentEntry}
use Rattle.sql_tables.specs.Encodes.{place_of_number}
use Rattle.sql_tables.specs.declared.records.NumberRecord.{NumberRecord}
use Rattle.sql_migration.specs.Migrated.{with_own_number}

abbrev place : NumberRecord → ℕ
place n = n.place

abbrev look : List NumberRecord → ℕ → Option NumberRecord
look ns s = find (λ n. n.sequence == s) ns

above_itself : (p q : ℕ) → is_gt (nat_cmp p q) ≡ true → p ≡ q → ⊥
above_itself p q above same = grind arith

own_placed : (p : ℕ) (ns : List NumberRecord) (s : ℕ) → place_of_number (with_own_number ns p) s ≡ cond (p == s) (Some p) (place_of_number ns s)
own_placed p [] s = elim (p == s) as (λ b. option_map place (cond b (Some (record { sequence = p; place = p })) None) ≡ cond b (Some p) None) [ true ↦ refl | false ↦ refl ]
own_placed p (n ∷ ns) s = go (is_gt (nat_cmp p n.sequence)) (p == s) (n.sequence == s) refl refl refl (own_placed p ns s)
  where
    go : (g b a : Bool) → is_gt (nat_cmp p n.sequence) ≡ g → (p == s) ≡ b → (n.sequence == s) ≡ a → place_of_number (with_own_number ns p) s ≡ cond (p == s) (Some p) (place_of_number ns s)
        → option_map place (look (cond g (n ∷ with_own_number ns p) (record { sequence = p; place = p } ∷ n ∷ ns)) s) ≡ cond b (Some p) (option_map place (cond a (Some n) (look ns s)))
    go true true true f e d more = absurd (above_itself p n.sequence f (eqb-true p s e ∙ sym (eqb-true n.sequence s d)))
    go true false true f e d more = ap (λ t. option_map place (cond t (Some n) (look (with_own_number ns p) s))) d
    go true true false f e d more = ap (λ t. option_map place (cond t (Some n) (look (with_own_number ns p) s))) d ∙ more ∙ ap (λ t. cond t (Some p) (place_of_number ns s)) e
    go true false false f e d more = ap (λ t. option_map place (cond t (Some n) (look (with_own_number ns p) s))) d ∙ more ∙ ap (λ t. cond t (Some p) (place_of_number ns s)) e
    go false true a f e d more = ap (λ t. option_map place (cond t (Some (record { sequence = p; place = p })) (look (n ∷ ns) s))) e
    go false false a f e d more = ap (λ t. option_map place (cond t (Some (record { sequence = p; place = p })) (look (n ∷ ns) s))) e ∙ ap (λ t. option_map place (cond t (Some n) (look ns s))) d

-- a sequence has its own place where that was put in
pub own_found : (places : List ℕ) (ns : List NumberRecord) (s : ℕ) → place_of_number (fold with_own_number ns places) s ≡ cond (list_any (λ p. p == s) places) (Some s) (place_of_number ns s)
own_found [] ns s = refl
own_found (p ∷ ps) ns s =
    own_found ps (with_own_number ns p) s
    ∙ ap (cond (list_any (λ q. q == s) ps) (Some s)) (own_placed p ns s)
    ∙ joined (p == s) refl (list_any (λ q. q == s) ps)
  where
    joined : (b : Bool) → (p == s) ≡ b → (any : Bool) → cond any (Some s) (cond b (Some p) (place_of_number ns s)) ≡ cond (b || any) (Some s) (place_of_number ns s)
    joined true e true = refl
    joined true e false = ap Some (eqb-true p s e)
    joined false e any = refl

-- entries whose sequences are their places
pub own_youngest : (s : ℕ) (sent : List (ℕ × SentEntry)) → AllByRecursion (λ p. p.1.sequence ≡ p.0) sent
    → option_map (λ (p : ℕ × SentEntry). p.0) (find (λ p. p.1.sequence == s) sent) ≡ cond (list_any (λ p. p.0 == s) sent) (Some s) None
own_youngest s [] all = refl
own_youngest s (p ∷ sent) all =
    ap (λ n. option_map (λ (p : ℕ × SentEntry). p.0) (cond (n == s) (Some p) (find (λ p. p.1.sequence == s) sent))) all.0
    ∙ go (p.0 == s) refl (own_youngest s sent all.1)
  where
    go : (b : Bool) → (p.0 == s) ≡ b → option_map (λ (p : ℕ × SentEntry). p.0) (find (λ p. p.1.sequence == s) sent) ≡ cond (list_any (λ p. p.0 == s) sent) (Some s) None
        → option_map (λ (p : ℕ × SentEntry). p.0) (cond b (Some p) (find (λ p. p.1.sequence == s) sent)) ≡ cond (b || list_any (λ p. p.0 == s) sent) (Some s) None
    go true e more = ap Some (eqb-true p.0 s e)
    go false e more = more
