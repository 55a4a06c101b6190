use Rattle.std.proofs.Common.{◌≡◌, ◌∙◌, List, [], ◌∷◌, ap, map, refl, zip}
use Rattle.desk_book.specs.OnIntake.{named_entry_on, traced_entries}
use Rattle.desk_intake.proofs.named_entries.found_items.Goals as goal

-- each with what a function makes of it
beside : {X Y : Type 0} (f : X → Y) (xs : List X) → zip xs (map f xs) ≡ map (λ x. (x, f x)) xs
beside f [] = refl
beside f (x ∷ xs) = ap (λ l. (x, f x) ∷ l) (beside f xs)

pub returns : goal.returns
returns g c =
    record {
      before = c.traced_entries.ensures.before;
      read = λ clean b held.
          let items = c.args.items.now in
          let read = c.in_ok-named.ensures.read clean b held in
          let named = c.deref-2.ensures.value ∙ read.0 ∙ ap (λ traces. traced_entries traces b) c.deref.ensures.value ∙ c.in_ok-traces.ensures b in
          (c.in_ok-found.ensures ∙ ap (zip items) named ∙ beside (named_entry_on b) items, read.1);
      left = c.traced_entries.ensures.left;
    }
