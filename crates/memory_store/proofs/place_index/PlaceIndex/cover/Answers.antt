use Rattle.std.proofs.Common.{◌≡◌, ◌∙◌, ℕ, ◌+◌, ◌<◌, ◌++◌, Option, ap, sym, get_or, length, map, refl, arith}
use Rattle.std.proofs.lemmas.List.{get_or-map, length-map}
use Rattle.memory_store.specs.Kept.{row_in}
use Rattle.memory_store.specs.Placed.{key_in, listed_under, place_under}
use Rattle.memory_store.specs.declared.row_key.RowKey.{RowKey}
use Rattle.memory_store.proofs.Placed.{placed_more, placed_alike, placed_whole}
use Rattle.memory_store.proofs.place_index.PlaceIndex.cover.Goals as goal

pub loop-at-preserved : goal.loop-at-preserved
loop-at-preserved c = record {
  covered = refl;
  right = λ held.
      let kept = c.args.kept.now in
      let rows = map row_in kept in
      let index = c.loop-at.self in
      let one = c.index-kept-at.result in
      let here : index.indexed ≡ c.loop-at.at = c.loop-at.invariant.covered in
      let within : index.indexed < length kept = omega (arith, here, c.loop-at-test.true) in
      let some : index.indexed < length rows = omega (arith, length-map kept row_in, within) in
      let stands : one ≡ get_or kept index.indexed one = c.index-kept-at.is ∙ ap (λ (n : ℕ). get_or kept n one) (sym here) in
      let is : row_in one ≡ get_or rows index.indexed (row_in one) = ap row_in stands ∙ sym (get_or-map row_in kept index.indexed one (row_in one) within) in
      placed_more c.args.kind.now rows index _ (row_in one) some is
      (λ k. c.in_ok-add.ensures.ok k
      ∙ ap (λ (key : Option RowKey). listed_under k index ++ place_under k key c.loop-at.at) c.key_of-key.ensures
      ∙ ap (λ (n : ℕ). listed_under k index ++ place_under k (key_in c.args.kind.now (row_in one)) n) (sym here))
      (ap (λ (n : ℕ). n + 1) (sym here)) (c.loop-at.invariant.right held);
}

pub returns-in_err-add-clause-right : goal.returns-in_err-add-clause-right
returns-in_err-add-clause-right c = λ held.
    placed_alike c.args.kind.now (map row_in c.args.kept.now) c.loop-at.self c.add.new.self c.in_err-add.ensures.err c.in_err-add.ensures.indexed (c.loop-at.invariant.right held)

pub returns-clause-whole : goal.returns-clause-whole
returns-clause-whole c = λ held.
    let rows = map row_in c.args.kept.now in
    let right = c.loop-at.invariant.right held in
    placed_whole c.args.kind.now rows c.loop-at.self right (omega (arith, length-map c.args.kept.now row_in, right.within, c.loop-at.invariant.covered))
