-- Bodies have no floats, and do not nest deep.
use Rattle.std.proofs.Common.{◌≡◌, ◌≤◌, ℕ, Bool, true, false, List, [], ◌∷◌, Option, Some, None, Result, Ok, Err, IfOk, IsUtf8, Vec, Global, refl, sym, ap, ◌∙◌, subst, arith}
use Rattle.std.specs.Str.{is_utf8}
use Rattle.std.proofs.lemmas.Str.{is_utf8-from_IsUtf8}
use Rattle.serde_json.specs.Data.{Data, Items, depth, items_depth}
use Rattle.serde_json.specs.Read.{max_depth, read}
use Rattle.serde_json.specs.Written.{compact_text, has_float, items_have_float}
use Rattle.cli_submit.specs.Bodies.{body_data, body_with, entry_data, entry_items}
use Rattle.cli_submit.specs.Options.{OptionTexts}
use Rattle.cli_submit.specs.Rows.{EntryTexts}

entry_float : (e : EntryTexts) (info : Option (List ℕ)) (p : Bool) → has_float (entry_data (record e { info = info; is_prenote = p })) ≡ false
entry_float e None false = refl
entry_float e None true = refl
entry_float e (Some i) false = refl
entry_float e (Some i) true = refl

items_float : (es : List EntryTexts) → items_have_float (entry_items es) ≡ false
items_float [] = refl
items_float (e ∷ es) = rw (entry_float e e.info e.is_prenote, items_float es) refl

pub body_float : (o : OptionTexts) (es : List EntryTexts) → has_float (body_data o es) ≡ false
body_float o es = rw (items_float es) refl

entry_depth : (e : EntryTexts) (info : Option (List ℕ)) (p : Bool) → depth (entry_data (record e { info = info; is_prenote = p })) ≡ 1
entry_depth e None false = refl
entry_depth e None true = refl
entry_depth e (Some i) false = refl
entry_depth e (Some i) true = refl

items_shallow : (es : List EntryTexts) → items_depth (entry_items es) ≤ 1
items_shallow [] = omega arith
items_shallow (e ∷ es) = let rest = items_shallow es in rw (entry_depth e e.info e.is_prenote) (omega (arith, items_shallow es))

pub body_shallow : (o : OptionTexts) (es : List EntryTexts) → depth (body_data o es) ≤ max_depth
body_shallow o es = let inner = items_shallow es in omega (arith, items_shallow es)

-- what was written for a body
pub written : {E : Type 0} (o : OptionTexts) (items : Items) (value : Data) (r : Result (Vec ℕ Global) E) → value ≡ body_with o items
    → IfOk r (λ b. has_float value ≡ false → b.items ≡ compact_text value)
    → IfOk r (λ b. (es : List EntryTexts) → items ≡ entry_items es → b.items ≡ compact_text (body_data o es))
written o items value (Err e) is h = tt
written o items value (Ok b) is h = λ es e.
    let all : value ≡ body_data o es = is ∙ ap (body_with o) e in
    h (ap has_float all ∙ body_float o es) ∙ ap compact_text all

-- and what is read of it
pub reads_back : {E : Type 0} (o : OptionTexts) (items : Items) (value : Data) (r : Result (Vec ℕ Global) E) → value ≡ body_with o items
    → IfOk r (λ b. IsUtf8 b.items) → IfOk r (λ b. depth value ≤ max_depth → read b.items ≡ Some value)
    → IfOk r (λ b. (es : List EntryTexts) → items ≡ entry_items es → (is_utf8 b.items ≡ true) × (read b.items ≡ Some (body_data o es)))
reads_back o items value (Err e) is utf8 h = tt
reads_back o items value (Ok b) is utf8 h = λ es e.
    let all : value ≡ body_data o es = is ∙ ap (body_with o) e in
    (is_utf8-from_IsUtf8 b.items utf8, h (subst (λ d. depth d ≤ max_depth) (sym all) (body_shallow o es)) ∙ ap (λ d. Some d) all)
