-- The number after one more entry.
use Rattle.std.proofs.Common.{◌≡◌, ℕ, ◌+◌, true, false, ◌==◌, List, [], ◌∷◌, ◌++◌, find, length, reverse, Some, option_map, refl, ap, ◌∙◌, arith}
use Rattle.std.specs.Prelude.{if◌then◌else◌}
use Rattle.std.specs.List.{enumerate_from}
use Rattle.std.proofs.lemmas.List.{reverse-append}
use Rattle.desk_history.specs.declared.sent_entry.SentEntry.{SentEntry}
use Rattle.sql_tables.specs.Encodes.{youngest_place}

numbered_more : (n : ℕ) (es : List SentEntry) (e : SentEntry) → enumerate_from n (es ++ e ∷ []) ≡ enumerate_from n es ++ (length es + n, e) ∷ []
numbered_more n [] e = ap (λ k. (k, e) ∷ []) (let at : n ≡ 0 + n = omega arith in at)
numbered_more n (y ∷ es) e =
    ap (λ l. (n, y) ∷ l) (numbered_more (n + 1) es e ∙ ap (λ k. enumerate_from (n + 1) es ++ (k, e) ∷ []) (let at : length es + (n + 1) ≡ length (y ∷ es) + n = omega arith in at))

pub youngest_more : (es : List SentEntry) (e : SentEntry) (s : ℕ) → youngest_place (es ++ e ∷ []) s ≡ (if e.sequence == s then Some (length es + 1) else youngest_place es s)
youngest_more es e s =
    ap (λ l. option_map (λ (p : ℕ × SentEntry). p.0) (find (λ p. p.1.sequence == s) l)) (ap reverse (numbered_more 1 es e) ∙ reverse-append (enumerate_from 1 es) ((length es + 1, e) ∷ []))
    ∙ elim (e.sequence == s) as (λ t. option_map (λ (p : ℕ × SentEntry). p.0) (if t then Some (length es + 1, e) else find (λ p. p.1.sequence == s) (reverse (enumerate_from 1 es))) ≡ (if t then Some (length es + 1) else youngest_place es s)) [ true ↦ refl | false ↦ refl ]
