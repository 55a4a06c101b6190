use Rattle.std.proofs.Common.{rules, ◌∙◌, ◌++◌, ◌∷◌, [], List, ℕ, Option, Some, cond, ap, sym, subst}
use Rattle.std.specs.Prelude.{option_map, unwrap_or, IsSome}
use Rattle.std.specs.BTreeMap.{get, is_at}
use Rattle.memory_store.specs.Placed.{listed_under, place_under}
use Rattle.memory_store.specs.RowKeys.{key_cmp}
use Rattle.memory_store.specs.declared.row_key.RowKey.{RowKey}
use Rattle.memory_store.proofs.Placed.{one_more_under, as_many_under}
use Rattle.memory_store.proofs.place_index.PlaceIndex.add.Goals as goal

pub returns-in_err-push-clause-err : goal.returns-in_err-push-clause-err
returns-in_err-push-clause-err c =
    let list = c.push.new.self in
    let there = c.in-Some-get_mut.ensures.value in
    let put = (c.get_mut.follows.holds list).3 (subst (λ o. IsSome o) there (search rules)) in
    let same = as_many_under (λ v. v.items) (get key_cmp c.args.self.now.places) (get key_cmp (c.get_mut.follows.lender list)) c.in-Some.key list put.0
    (c.in_err-push.ensures.items ∙ ap (λ o. unwrap_or (option_map (λ v. v.items) o) []) there) in
    search (rules, same)

pub returns-in-Some-get_mut-clause-ok : goal.returns-in-Some-get_mut-clause-ok
returns-in-Some-get_mut-clause-ok c =
    let list = c.push.new.self in
    let there = c.in-Some-get_mut.ensures.value in
    let put = (c.get_mut.follows.holds list).3 (subst (λ o. IsSome o) there (search rules)) in
    let more = one_more_under (λ v. v.items) (get key_cmp c.args.self.now.places) (get key_cmp (c.get_mut.follows.lender list)) c.in-Some.key list c.args.place put.0
    (c.in_ok-push.ensures.items ∙ ap (λ o. unwrap_or (option_map (λ v. v.items) o) [] ++ c.args.place ∷ []) there) in
    (λ k. more k ∙ ap (λ (key : Option RowKey). listed_under k c.args.self.now ++ place_under k key c.args.place) (sym c.in-Some.is))

pub returns-clause-ok : goal.returns-clause-ok
returns-clause-ok c =
    let old = c.args.self.now.places in
    let list = c.push-2.new.self in
    let put = c.in_ok-insert.ensures.updates in
    let more = one_more_under (λ v. v.items) (get key_cmp old) (get key_cmp c.insert.new.self) c.in-Some.key list c.args.place
    (λ k. put.0 k ∙ ap (λ m. cond (is_at (key_cmp c.in-Some.key) k) (Some list) (get key_cmp m k)) c.get_mut.follows.holds-at-none)
    (c.in_ok-push-2.ensures.items ∙ ap (λ (ps : List ℕ). ps ++ c.args.place ∷ []) (c.new-places.ensures.items ∙ ap (λ o. unwrap_or (option_map (λ v. v.items) o) []) c.in_default-get_mut.ensures.value)) in
    (λ k. more k ∙ ap (λ (key : Option RowKey). listed_under k c.args.self.now ++ place_under k key c.args.place) (sym c.in-Some.is))
