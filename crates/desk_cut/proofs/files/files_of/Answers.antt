use Rattle.std.proofs.Common.{◌≡◌, ◌<◌, ◌+◌, ◌-◌, ◌++◌, length, get_or, map, ℕ, List, [], ◌∷◌, take, drop, ap, ◌∙◌, sym, refl, arith}
use Rattle.std.proofs.lemmas.Grind.{common_steps}
use Rattle.std.proofs.lemmas.List.{drop_more, take-map, drop-map, drop-drop}
use Rattle.std.proofs.lemmas.Option.{get_or_from_slice_get}
use Rattle.desk_plan.specs.Modifiers.{modifiers, modifier_at, most_files}
use Rattle.desk_plan.specs.Runs.{in_runs}
use Rattle.desk_history.specs.Files as files
use Rattle.desk_cut.specs.Sent.{batch_in, file_in}
use Rattle.desk_cut.specs.declared.batches.NumberedBatch.{NumberedBatch}
use Rattle.desk_cut.specs.declared.files.File.{File}
use Rattle.desk_cut.proofs.Plain.{pushed}
use Rattle.desk_cut.proofs.files.files_of.Goals as goal

-- the files of the sizes and the batches that are left
abbrev left : ℕ → ℕ → List ℕ → List NumberedBatch → List files.File
left day made sizes bs = files.files_from day made (in_runs sizes (map batch_in bs))

abbrev here : ℕ → ℕ → List NumberedBatch → files.File
here day made bs = record { day = day; modifier = modifier_at made; batches = map batch_in bs }

-- begin with the next
next : (day made size : ℕ) (sizes : List ℕ) (from : ℕ) (bs : List NumberedBatch)
    → left day made (size ∷ sizes) (drop from bs) ≡ here day made (take size (drop from bs)) ∷ left day (made + 1) sizes (drop (from + size) bs)
next day made size sizes from bs = λ i.
    record { day = day; modifier = modifier_at made; batches = take-map batch_in size (drop from bs) i }
    ∷ files.files_from day (made + 1) (in_runs sizes ((drop-map batch_in size (drop from bs) ∙ ap (λ (l : List NumberedBatch). map batch_in l) (drop-drop size from bs)) i))

-- one file more
made_more : (day made index from : ℕ) (sizes : List ℕ) (bs : List NumberedBatch) (done : List File) (f : File) → index < length sizes
    → file_in f ≡ here day (made + index) (take (get_or sizes index 0) (drop from bs))
    → map file_in (done ++ f ∷ []) ++ left day (made + (index + 1)) (drop (index + 1) sizes) (drop (from + get_or sizes index 0) bs)
    ≡ map file_in done ++ left day (made + index) (drop index sizes) (drop from bs)
made_more day made index from sizes bs done f more is =
    let size : ℕ = get_or sizes index 0 in
    let next_number : made + (index + 1) ≡ made + index + 1 = omega arith in
    (λ i. map file_in (done ++ f ∷ []) ++ left day (next_number i) (drop (index + 1) sizes) (drop (from + size) bs))
    ∙ pushed file_in done f (here day (made + index) (take size (drop from bs))) (left day (made + index + 1) (drop (index + 1) sizes) (drop (from + size) bs)) is
    ∙ ap (λ (l : List files.File). map file_in done ++ l) (sym (next day (made + index) size (drop (index + 1) sizes) from bs))
    ∙ ap (λ (l : List ℕ). map file_in done ++ left day (made + index) l (drop from bs)) (sym (drop_more sizes index 0 more))

pub unwrap-modifier-requires : goal.unwrap-modifier-requires
unwrap-modifier-requires c =
    let room : c.args.made + c.loop-index.index < most_files = omega arith in
    rw (c.modifier.ensures ∙ c.modifiers_of_a_day.ensures.some (c.args.made + c.loop-index.index) room) refl

pub loop-index-preserved : goal.loop-index-preserved
loop-index-preserved c =
    let size : ℕ = get_or c.args.sizes.now c.loop-index.index 0 in
    let run : c.loop-index.from + size - c.loop-index.from ≡ size = omega arith in
    let named = get_or_from_slice_get modifiers (c.args.made + c.loop-index.index) c.unwrap-modifier.result 0 (sym c.modifier.ensures ∙ c.unwrap-modifier.ensures) in
    record {
      files = ap (λ (l : List File). map file_in l ++ left c.args.day (c.args.made + (c.loop-index.index + 1)) (drop (c.loop-index.index + 1) c.args.sizes.now) (drop (c.loop-index.from + size) c.args.batches.now)) c.in_ok-extend_from_slice.ensures.items
          ∙ made_more c.args.day c.args.made c.loop-index.index c.loop-index.from c.args.sizes.now c.args.batches.now c.loop-index.files.items _ c.loop-index-test.true
          (λ i. record { day = c.args.day; modifier = sym named i; batches = map batch_in (take (run i) (drop c.loop-index.from c.args.batches.now)) })
          ∙ c.loop-index.invariant.files;
      rest = grind (arith, common_steps);
    }
