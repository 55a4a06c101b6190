-- The place of an entry among those that were sent.
use Rattle.std.proofs.Common.{◌≡◌, ℕ, ◌+◌, Bool, true, false, List, [], ◌∷◌, Option, None, Some, refl, ap, ◌∙◌, inl, inr}
use Rattle.std.specs.Prelude.{if◌then◌else◌, find, option_map}
use Rattle.std.specs.List.{enumerate_from}
use Rattle.std.proofs.lemmas.Bool.{cases_Bool}
use Rattle.desk_history.specs.declared.sent_entry.SentEntry.{SentEntry}
use Rattle.sql_tables.specs.Encodes.{is_entry}

-- counted from a first place on
abbrev pub place_from : ℕ → List SentEntry → List ℕ → ℕ → ℕ → Option ℕ
place_from n sent c o i = option_map (λ p. p.0) (find (λ p. is_entry c o i p.1) (enumerate_from n sent))

pub place_step : (n : ℕ) (x : SentEntry) (sent : List SentEntry) (c : List ℕ) (o i : ℕ) → place_from n (x ∷ sent) c o i ≡ (if is_entry c o i x then Some n else place_from (n + 1) sent c o i)
place_step n x sent c o i = elim (is_entry c o i x) as (λ t. option_map (λ (p : ℕ × SentEntry). p.0) (if t then Some (n, x) else find (λ p. is_entry c o i p.1) (enumerate_from (n + 1) sent)) ≡ (if t then Some n else place_from (n + 1) sent c o i)) [ true ↦ refl | false ↦ refl ]

-- an entry that was not sent has none
pub unplaced : (n : ℕ) (sent : List SentEntry) (c : List ℕ) (o i : ℕ) → find (is_entry c o i) sent ≡ None → place_from n sent c o i ≡ None
unplaced n [] c o i none = refl
unplaced n (x ∷ sent) c o i none = elim (cases_Bool (is_entry c o i x)) [
  | inl is ↦ absurd (let e = rw is at none in cc)
  | inr out ↦ place_step n x sent c o i ∙ ap (λ (t : Bool). if t then Some n else place_from (n + 1) sent c o i) out ∙ unplaced (n + 1) sent c o i (rw out at none)
]
