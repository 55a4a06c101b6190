-- A text and its fields by position.
use Rattle.std.proofs.Common.{◌≡◌, ℕ, ◌+◌, ◌≤◌, true, List, [], ◌∷◌, ◌++◌, map, length, take, drop, refl, sym, ap, ◌∙◌, arith, append_assoc, length-append, length-drop, take-append-drop}
use Rattle.std.specs.List.{sum_by}
use Rattle.std.proofs.lemmas.List.Sums.{sum_by-cons}
use Rattle.std.proofs.lemmas.List.{drop_all, drop-drop, length-take-le}
use Rattle.ach_records.specs.Layout.{Column, layout, part, fields_from, fields_of}
use Rattle.ach_records.specs.Record.{IsRecord, is_record_kind}
use Rattle.ach_records.specs.Laws.{widths, text_of_fields}
use Rattle.ach_records.specs.declared.Kind.{Kind}
use Rattle.ach_records.specs.declared.Kind.TheVariants as kinds
use Rattle.ach_records.proofs.Texts.{part_is}

abbrev widths_in : List Column → List ℕ
widths_in cs = map (λ c. c.width) cs

-- ---- fields that were joined are cut again

headed : (f : List ℕ) (fs : List (List ℕ)) (w : ℕ) (ws : List ℕ) → ◌≡◌ {A = List ℕ} (length f ∷ map length fs) (w ∷ ws) → (length f ≡ w) × (map length fs ≡ ws)
headed f fs w ws h = (cc, cc)

cut_after : (cs : List Column) (from : ℕ) (before : List ℕ) (fields : List (List ℕ)) → length before ≡ from → map length fields ≡ widths_in cs
    → fields_from from cs (before ++ text_of_fields fields) ≡ fields
cut_after [] from before [] e h = refl
cut_after [] from before (f ∷ fs) e h = absurd cc
cut_after (c ∷ cs) from before [] e h = absurd cc
cut_after (c ∷ cs) from before (f ∷ fs) e h =
    let p = headed f fs c.width (widths_in cs) h in
    let first : part from c.width (before ++ (f ++ text_of_fields fs)) ≡ f = part_is before f (text_of_fields fs) from c.width e p.0 in
    let on : length (before ++ f) ≡ from + c.width = length-append before f ∙ (λ i. e i + p.0 i) in
    let rest : fields_from (from + c.width) cs (before ++ (f ++ text_of_fields fs)) ≡ fs
    = ap (fields_from (from + c.width) cs) (sym (append_assoc before f (text_of_fields fs))) ∙ cut_after cs (from + c.width) (before ++ f) fs on p.1 in
    (λ i. first i ∷ rest i)

pub fields_cut : (kind : Kind) (fields : List (List ℕ)) → map length fields ≡ widths kind → fields_of kind (text_of_fields fields) ≡ fields
fields_cut kind fields h = cut_after (layout kind) 0 [] fields refl h

-- ---- fields that were cut are joined again

part_on : (from w : ℕ) (text : List ℕ) → part from w text ++ drop (from + w) text ≡ drop from text
unfolding part
part_on from w text = ap (λ (l : List ℕ). take w (drop from text) ++ l) (sym (drop-drop w from text)) ∙ take-append-drop w (drop from text)

join_from : (cs : List Column) (from : ℕ) (text : List ℕ) → from + sum_by (λ c. c.width) cs ≡ length text → text_of_fields (fields_from from cs text) ≡ drop from text
join_from [] from text e = sym (drop_all from text (omega (arith, e)))
join_from (c ∷ cs) from text e =
    let on : from + c.width + sum_by (λ c. c.width) cs ≡ length text = omega (arith, sum_by-cons (λ (d : Column). d.width) c cs, e) in
    ap (λ (l : List ℕ). part from c.width text ++ l) (join_from cs (from + c.width) text on) ∙ part_on from c.width text

part_long : (from w : ℕ) (text : List ℕ) → from + w ≤ length text → length (part from w text) ≡ w
unfolding part
part_long from w text le = length-take-le w (drop from text) (omega (arith, length-drop from text, le))

lengths_from : (cs : List Column) (from : ℕ) (text : List ℕ) → from + sum_by (λ c. c.width) cs ≡ length text → map length (fields_from from cs text) ≡ widths_in cs
lengths_from [] from text e = refl
lengths_from (c ∷ cs) from text e =
    let on : from + c.width + sum_by (λ c. c.width) cs ≡ length text = omega (arith, sum_by-cons (λ (d : Column). d.width) c cs, e) in
    (λ i. part_long from c.width text (omega (arith, on)) i ∷ lengths_from cs (from + c.width) text on i)

pub widths_sum : (kind : Kind) → is_record_kind kind ≡ true → sum_by (λ c. c.width) (layout kind) ≡ 94
widths_sum kinds.FileHeader h = refl
widths_sum kinds.BatchHeader h = refl
widths_sum kinds.Entry h = refl
widths_sum kinds.Addenda05 h = refl
widths_sum kinds.Change98 h = refl
widths_sum kinds.Return99 h = refl
widths_sum kinds.BatchControl h = refl
widths_sum kinds.FileControl h = refl
widths_sum kinds.Filler h = refl
widths_sum kinds.OtherAddenda h = absurd cc
widths_sum kinds.Other h = absurd cc

whole : (kind : Kind) (text : List ℕ) → IsRecord kind text → 0 + sum_by (λ c. c.width) (layout kind) ≡ length text
whole kind text r = omega (arith, widths_sum kind r.known, r.len)

pub fields_joined : (kind : Kind) (text : List ℕ) → IsRecord kind text → text_of_fields (fields_of kind text) ≡ text
fields_joined kind text r = join_from (layout kind) 0 text (whole kind text r)

pub fields_lengths : (kind : Kind) (text : List ℕ) → IsRecord kind text → map length (fields_of kind text) ≡ widths kind
fields_lengths kind text r = lengths_from (layout kind) 0 text (whole kind text r)
