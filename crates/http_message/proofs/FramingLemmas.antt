-- The framing of a body, by the first of its lengths and codings.
use Rattle.std.proofs.Common.{◌≡◌, ℕ, ◌<◌, ◌≤◌, ◌⊎◌, inl, inr, min, Bool, true, false, ◌&&◌, not, List, [], ◌∷◌, length, Option, Some, None, refl, sym, ap, ◌∙◌, subst, arith, codes}
use Rattle.std.proofs.lemmas.Grind.{common_steps}
use Rattle.std.proofs.lemmas.Bool.{cases_Bool, lt-ltb, le-ltb, ltb-false}
use Rattle.std.specs.Prelude.{nat_lt, is_some, option_copied, if◌then◌else◌}
use Rattle.std.specs.Borrow.{Bor}
use Rattle.std.specs.Str.Parse.{digits_value}
use Rattle.http_message.specs.Fields.{FieldValue, first_of, values_of}
use Rattle.http_message.specs.Framing.{framing_by, framing_of, has_bad_length, is_number, is_post, length_of, requires_length}
use Rattle.http_message.specs.declared.framing.Framing.{Framing}
use Rattle.http_message.specs.declared.framing.Framing.TheVariants.{BadLength, LengthRequired, TooLarge, Body}

none_first : (values : List (List ℕ)) → None ≡ first_of values → values ≡ []
none_first [] e = refl
none_first (value ∷ values) e = absurd (cc)

-- a value that was not found does not exist
pub not_found : (found : Option (Bor (List ℕ))) (values : List (List ℕ)) → option_copied found ≡ first_of values
    → is_some found ≡ false → values ≡ []
not_found None values e none = none_first values e
not_found (Some value) values e none = absurd (cc)

-- the framing of one length, by what is asked of it
single : (method d : List ℕ) → is_number d ≡ true
    → framing_by method (d ∷ []) [] ≡ (if nat_lt 4194304 (digits_value 10 d) then TooLarge else Body (digits_value 10 d))
single method d number =
    ap (λ (b : Bool). if not (b && true) then BadLength else (if is_post method && false then LengthRequired else sized)) number ∙ posted (is_post method)
  where
    sized : Framing
    sized = if nat_lt 4194304 (digits_value 10 d) then TooLarge else Body (digits_value 10 d)

    posted : (b : Bool) → (if b && false then LengthRequired else sized) ≡ sized
    posted true = refl
    posted false = refl

sized : (n v : ℕ) → n ≡ min v 4194305
    → (4194304 < n → TooLarge ≡ (if nat_lt 4194304 v then TooLarge else Body v)) × (n ≤ 4194304 → Body n ≡ (if nat_lt 4194304 v then TooLarge else Body v))
sized n v is = (
  λ large. let past : nat_lt 4194304 v ≡ true = lt-ltb 4194304 v (omega arith) in
      ap (λ (b : Bool). if b then TooLarge else Body v) (sym past),
  λ small. let within : nat_lt 4194304 v ≡ false = le-ltb 4194304 v (omega arith) in
      let same : n ≡ v = omega arith in ap Body same ∙ ap (λ (b : Bool). if b then TooLarge else Body v) (sym within),
)

-- one good length
pub good_length : (method d : List ℕ) (lengths codings : List (List ℕ)) (n : ℕ) → Some d ≡ first_of lengths → nat_lt 1 (length lengths) ≡ false
    → is_number d ≡ true → n ≡ min (digits_value 10 d) 4194305 → codings ≡ []
    → (4194304 < n → TooLarge ≡ framing_by method lengths codings) × (n ≤ 4194304 → Body n ≡ framing_by method lengths codings)
good_length method d [] codings n first one number is none = absurd (cc)
good_length method d (e ∷ f ∷ lengths) codings n first one number is none = absurd (grind (arith, common_steps))
good_length method d (e ∷ []) codings n first one number is none =
    let same : e ≡ d = cc in
    let P : List ℕ × List (List ℕ) → Type 0 = λ p.
    (4194304 < n → TooLarge ≡ framing_by method (p.0 ∷ []) p.1) × (n ≤ 4194304 → Body n ≡ framing_by method (p.0 ∷ []) p.1) in
    let (large, small) = sized n (digits_value 10 d) is in
    subst P (λ i. (sym same i, sym none i)) (λ x. large x ∙ sym (single method d number), λ x. small x ∙ sym (single method d number))

-- no length
pub no_length : (method : List ℕ) (lengths codings : List (List ℕ)) → None ≡ first_of lengths → is_post method ≡ false → codings ≡ []
    → Body 0 ≡ framing_by method lengths codings
no_length method lengths codings first get none =
    let empty = none_first lengths first in
    let P : List (List ℕ) × List (List ℕ) → Type 0 = λ p. Body 0 ≡ framing_by method p.0 p.1 in
    subst P (λ i. (sym empty i, sym none i)) (ap (λ (b : Bool). if b && true then LengthRequired else Body 0) (sym get))

-- a body that is read is not too large
pub body_limit : (method : List ℕ) (fields : List FieldValue) (size : ℕ) → framing_of method fields ≡ Body size → size ≤ 4194304
body_limit method fields size says =
    by_tests (has_bad_length lengths) (requires_length method lengths codings) (cases_Bool (nat_lt 4194304 (length_of lengths))) says
  where
    lengths : List (List ℕ)
    lengths = values_of (codes "Content-Length") fields

    codings : List (List ℕ)
    codings = values_of (codes "Transfer-Encoding") fields

    by_tests : (bad required : Bool) → (nat_lt 4194304 (length_of lengths) ≡ true) ⊎ (nat_lt 4194304 (length_of lengths) ≡ false)
        → (if bad then BadLength else (if required then LengthRequired else (if nat_lt 4194304 (length_of lengths) then TooLarge else Body (length_of lengths)))) ≡ Body size
        → size ≤ 4194304
    by_tests true required large e = absurd (cc)
    by_tests false true large e = absurd (cc)
    by_tests false false (inl large) e =
        let no_way : TooLarge ≡ Body size = ap (λ (b : Bool). if b then TooLarge else Body (length_of lengths)) (sym large) ∙ e in absurd (cc)
    by_tests false false (inr small) e =
        let is : Body (length_of lengths) ≡ Body size = ap (λ (b : Bool). if b then TooLarge else Body (length_of lengths)) (sym small) ∙ e in
        let same : length_of lengths ≡ size = cc in
        let within = ltb-false 4194304 (length_of lengths) small in
        omega (arith, within, same)
