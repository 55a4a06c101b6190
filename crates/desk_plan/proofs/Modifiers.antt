-- Each modifier of a day's files has its own place.
use Rattle.std.proofs.Common.{◌≡◌, ℕ, ◌<◌, get_or, Bool, true, ◌==◌, Some, refl, sym, ap, ◌∙◌}
use Rattle.std.specs.List.{position_or_len}
use Rattle.std.proofs.lemmas.Bool.{agree_below, agree_below_at, eqb-true}
use Rattle.std.proofs.lemmas.Option.{slice_get_within, get_or_from_slice_get, slice_get-get_or}
use Rattle.ach_fields.specs.Characters.{is_id_character}
use Rattle.desk_plan.specs.Modifiers.{modifiers, modifier_of}

-- Each modifier occurs first at its own place, and is a capital letter or a digit.
abbrev is_own : ℕ → Bool
is_own n = position_or_len (λ c. c == get_or modifiers n 0) modifiers == n

abbrev is_named : ℕ → Bool
is_named n = is_id_character (get_or modifiers n 0)

all_own : agree_below is_own (λ n. true) 36 ≡ true
unfolding modifiers
all_own = refl

all_named : agree_below is_named (λ n. true) 36 ≡ true
unfolding modifiers
all_named = refl

own_place : (n c : ℕ) → modifier_of n ≡ Some c → position_or_len (λ x. x == c) modifiers ≡ n
unfolding modifiers
own_place n c e =
    let own = agree_below_at is_own (λ n. true) 36 n all_own (slice_get_within modifiers n c e) in
    ap (λ m. position_or_len (λ x. x == m) modifiers) (sym (get_or_from_slice_get modifiers n c 0 e)) ∙ eqb-true _ _ own

pub modifiers_apart : (m n c : ℕ) → modifier_of m ≡ Some c → modifier_of n ≡ Some c → m ≡ n
modifiers_apart m n c first second = sym (own_place m c first) ∙ own_place n c second

pub modifier_character : (n c : ℕ) → modifier_of n ≡ Some c → is_id_character c ≡ true
unfolding modifiers
modifier_character n c e =
    ap is_id_character (sym (get_or_from_slice_get modifiers n c 0 e)) ∙ agree_below_at is_named (λ n. true) 36 n all_named (slice_get_within modifiers n c e)

pub some_modifier : (n : ℕ) → n < 36 → modifier_of n ≡ Some (get_or modifiers n 0)
unfolding modifiers
some_modifier n lt = slice_get-get_or modifiers n 0 lt
