-- Rows by their fields, which are UTF-8 or not.
use Rattle.std.proofs.Common.{◌≡◌, ◌≢◌, ◌<◌, ℕ, zero, suc, Bool, true, false, List, [], ◌∷◌, length, Option, Some, None, option_map, option_and_then, Result, Ok, Err, MatchResult, Bor, inl, inr, refl, sym, ap, ◌∙◌, cond, arith, IsUtf8}
use Rattle.std.specs.List.{list_all}
use Rattle.std.specs.Result.{result_ok}
use Rattle.std.specs.Str.{is_utf8}
use Rattle.std.proofs.lemmas.Bool.{cases_Bool, and_left, and_right}
use Rattle.std.proofs.lemmas.Str.{is_utf8-from_IsUtf8, IsUtf8-from_is_utf8}
use Rattle.csv.specs.Records.{field_at}
use Rattle.cli_submit.specs.Rows.{ColumnTexts, columns_in, columns_of, text_of, text_at}
use Rattle.cli_submit.specs.declared.row.Columns.{Columns}

pub text_of-utf8 : (field : List ℕ) → IsUtf8 field → text_of field ≡ Some field
text_of-utf8 field is = rw (is_utf8-from_IsUtf8 field is) refl

pub text_of-other : (field : List ℕ) → ¬ (IsUtf8 field) → text_of field ≡ None
text_of-other field other =
    elim (cases_Bool (is_utf8 field)) [
      | inl is ↦ absurd (other (IsUtf8-from_is_utf8 field is))
      | inr not_utf8 ↦ rw not_utf8 refl
    ]

no_text : (field : List ℕ) (b : Bool) → cond b (Some field) None ≡ None → b ≡ false
no_text field true e = absurd (let none : ⊥ = cc in none)
no_text field false e = refl

-- a row with a field that is missing or is not UTF-8
pub not_all_text : (fields : List (List ℕ)) (i : ℕ) → i < length fields → None ≡ text_at i fields → list_all is_utf8 fields ≡ false
unfolding field_at
not_all_text [] i lt e = absurd (omega arith)
not_all_text (f ∷ fs) zero lt e = and_left (is_utf8 f) (list_all is_utf8 fs) (no_text f (is_utf8 f) (sym e))
not_all_text (f ∷ fs) (suc i) lt e = and_right (is_utf8 f) (list_all is_utf8 fs) (not_all_text fs i (omega arith) e)

pub no_columns : (fields : List (List ℕ)) → list_all is_utf8 fields ≡ false → columns_in fields ≡ None
no_columns [] e = refl
no_columns (a ∷ []) e = refl
no_columns (a ∷ b ∷ []) e = refl
no_columns (a ∷ b ∷ c ∷ []) e = refl
no_columns (a ∷ b ∷ c ∷ d ∷ []) e = refl
no_columns (a ∷ b ∷ c ∷ d ∷ f ∷ []) e = refl
no_columns (a ∷ b ∷ c ∷ d ∷ f ∷ g ∷ []) e = refl
no_columns (a ∷ b ∷ c ∷ d ∷ f ∷ g ∷ h ∷ []) e = refl
no_columns (a ∷ b ∷ c ∷ d ∷ f ∷ g ∷ h ∷ i ∷ []) e = rw e refl
no_columns (a ∷ b ∷ c ∷ d ∷ f ∷ g ∷ h ∷ i ∷ j ∷ rest) e = refl

-- a row of another length
pub other_length : (fields : List (List ℕ)) → length fields ≢ 8 → columns_in fields ≡ None
other_length [] apart = refl
other_length (a ∷ []) apart = refl
other_length (a ∷ b ∷ []) apart = refl
other_length (a ∷ b ∷ c ∷ []) apart = refl
other_length (a ∷ b ∷ c ∷ d ∷ []) apart = refl
other_length (a ∷ b ∷ c ∷ d ∷ f ∷ []) apart = refl
other_length (a ∷ b ∷ c ∷ d ∷ f ∷ g ∷ []) apart = refl
other_length (a ∷ b ∷ c ∷ d ∷ f ∷ g ∷ h ∷ []) apart = refl
other_length (a ∷ b ∷ c ∷ d ∷ f ∷ g ∷ h ∷ i ∷ []) apart = absurd (apart refl)
other_length (a ∷ b ∷ c ∷ d ∷ f ∷ g ∷ h ∷ i ∷ j ∷ rest) apart = refl

-- a row in which a field is missing
pub missing_text : (fields : List (List ℕ)) (i : ℕ) → length fields ≡ 8 → i < 8 → None ≡ text_at i fields → columns_in fields ≡ None
missing_text fields i eight lt e = no_columns fields (not_all_text fields i (rw eight lt) e)

-- a field that is a text
pub record IsText (field text : List ℕ) : Type 0 where
  pub utf8 : is_utf8 field ≡ true
  pub same : text ≡ field

is_text : (field text : List ℕ) (b : Bool) → is_utf8 field ≡ b → Some text ≡ cond b (Some field) None → IsText field text
is_text field text true is e = record { utf8 = is; same = (let same : text ≡ field = cc in same) }
is_text field text false is e = absurd (let none : ⊥ = cc in none)

-- a row of eight texts
pub columns_are : (fields : List (List ℕ)) (t : ColumnTexts) → length fields ≡ 8
    → Some t.routing ≡ text_at 0 fields → Some t.account ≡ text_at 1 fields → Some t.kind ≡ text_at 2 fields → Some t.prenote ≡ text_at 3 fields
    → Some t.cents ≡ text_at 4 fields → Some t.id ≡ text_at 5 fields → Some t.name ≡ text_at 6 fields → Some t.info ≡ text_at 7 fields
    → Some t ≡ columns_in fields
unfolding field_at
columns_are (a ∷ b ∷ c ∷ d ∷ f ∷ g ∷ h ∷ i ∷ []) t eight e0 e1 e2 e3 e4 e5 e6 e7 =
    let r0 = is_text a t.routing (is_utf8 a) refl e0 in
    let r1 = is_text b t.account (is_utf8 b) refl e1 in
    let r2 = is_text c t.kind (is_utf8 c) refl e2 in
    let r3 = is_text d t.prenote (is_utf8 d) refl e3 in
    let r4 = is_text f t.cents (is_utf8 f) refl e4 in
    let r5 = is_text g t.id (is_utf8 g) refl e5 in
    let r6 = is_text h t.name (is_utf8 h) refl e6 in
    let r7 = is_text i t.info (is_utf8 i) refl e7 in
    rw (r0.utf8, r1.utf8, r2.utf8, r3.utf8, r4.utf8, r5.utf8, r6.utf8, r7.utf8, ← r0.same, ← r1.same, ← r2.same, ← r3.same, ← r4.same, ← r5.same, ← r6.same, ← r7.same) refl
columns_are [] t eight e0 e1 e2 e3 e4 e5 e6 e7 = absurd (omega arith)
columns_are (a ∷ []) t eight e0 e1 e2 e3 e4 e5 e6 e7 = absurd (omega arith)
columns_are (a ∷ b ∷ []) t eight e0 e1 e2 e3 e4 e5 e6 e7 = absurd (omega arith)
columns_are (a ∷ b ∷ c ∷ []) t eight e0 e1 e2 e3 e4 e5 e6 e7 = absurd (omega arith)
columns_are (a ∷ b ∷ c ∷ d ∷ []) t eight e0 e1 e2 e3 e4 e5 e6 e7 = absurd (omega arith)
columns_are (a ∷ b ∷ c ∷ d ∷ f ∷ []) t eight e0 e1 e2 e3 e4 e5 e6 e7 = absurd (omega arith)
columns_are (a ∷ b ∷ c ∷ d ∷ f ∷ g ∷ []) t eight e0 e1 e2 e3 e4 e5 e6 e7 = absurd (omega arith)
columns_are (a ∷ b ∷ c ∷ d ∷ f ∷ g ∷ h ∷ []) t eight e0 e1 e2 e3 e4 e5 e6 e7 = absurd (omega arith)
columns_are (a ∷ b ∷ c ∷ d ∷ f ∷ g ∷ h ∷ i ∷ j ∷ rest) t eight e0 e1 e2 e3 e4 e5 e6 e7 = absurd (omega arith)

-- what a reading of a field as UTF-8 gives
pub read_text : {E : Type 0} (fields : List (List ℕ)) (place : ℕ) (field : List ℕ) (P : E → Type 0) (r : Result (Bor (List ℕ)) E) (o : Option (Bor (List ℕ)))
    → Some field ≡ field_at fields place → MatchResult r (λ s. (s.now ≡ field) × IsUtf8 field) (λ e. ¬ (IsUtf8 field) × P e) → o ≡ result_ok r
    → option_map (λ t. t.now) o ≡ text_at place fields
read_text fields place field P (Ok s) o at read is =
    ap (option_map (λ t. t.now)) is ∙ ap (λ (t : List ℕ). Some t) read.0 ∙ sym (text_of-utf8 field read.1) ∙ ap (option_and_then text_of) at
read_text fields place field P (Err e) o at read is = ap (option_map (λ t. t.now)) is ∙ sym (text_of-other field read.0) ∙ ap (option_and_then text_of) at

-- no columns of a row in which a field is missing
pub none_missing : (fields : List (List ℕ)) (i : ℕ) (o : Option Columns) → o ≡ None → length fields ≡ 8 → i < 8 → None ≡ text_at i fields → option_map columns_of o ≡ columns_in fields
none_missing fields i o none eight lt missing = ap (option_map columns_of) none ∙ sym (missing_text fields i eight lt missing)
