-- The items judged one by one.
use Rattle.std.proofs.Common.{◌≡◌, ◌∙◌, ap, sym, refl, ℕ, ◌+◌, ◌<◌, List, [], ◌∷◌, ◌++◌, length, map, zip, drop, get_or, append_assoc}
use Rattle.std.specs.Prelude.{Option, Result}
use Rattle.std.proofs.lemmas.List.{drop_more, map-append}
use Rattle.ach_files.specs.declared.facts.ItemFacts.{ItemFacts}
use Rattle.desk_history.specs.declared.operations.SuspenseReason.{SuspenseReason}
use Rattle.desk_history.specs.declared.sent_entry.SentEntry.{SentEntry}
use Rattle.desk_history.specs.Resolve.{ResolvedItem}
use Rattle.desk_book.specs.declared.named_entry.NamedEntry.{NamedEntry}
use Rattle.desk_book.specs.OnIntake.{resolution_after, resolutions_after, entries_returned_by}
use Rattle.desk_intake.specs.declared.found_item.FoundItem.{FoundItem}
use Rattle.desk_intake.specs.declared.judged_item.JudgedItem.{JudgedItem}
use Rattle.desk_intake.specs.declared.matched_item.MatchedItem.{MatchedItem}
use Rattle.desk_intake.specs.Resolutions.{found_item_as, resolution_as, judged_as, judged_after}

-- one item more is judged
pub judged_more : (before after : List JudgedItem) (came : List SentEntry) (fs : List FoundItem) (i : ℕ) (f : FoundItem) (o : Result MatchedItem SuspenseReason) (whole : List (ItemFacts × Result ResolvedItem SuspenseReason))
    → i < length fs → f ≡ get_or fs i f → resolution_as o ≡ resolution_after came f.item (found_item_as f).1
    → after ≡ before ++ record { item = f.item; outcome = o } ∷ []
    → map judged_as before ++ judged_after came (map found_item_as (drop i fs)) ≡ whole
    → map judged_as after ++ judged_after (entries_returned_by (resolution_as o) ++ came) (map found_item_as (drop (i + 1) fs)) ≡ whole
judged_more before after came fs i f o whole within is judged pushed so_far =
    let more : List (ItemFacts × Option NamedEntry) = map found_item_as (drop (i + 1) fs) in
    let here : drop i fs ≡ f ∷ drop (i + 1) fs = drop_more fs i f within ∙ ap (λ (x : FoundItem). x ∷ drop (i + 1) fs) (sym is) in
    ap (λ (js : List JudgedItem). map judged_as js ++ judged_after (entries_returned_by (resolution_as o) ++ came) more) pushed
    ∙ ap (λ (ps : List (ItemFacts × Result ResolvedItem SuspenseReason)). ps ++ judged_after (entries_returned_by (resolution_as o) ++ came) more) (map-append judged_as before (record { item = f.item; outcome = o } ∷ []))
    ∙ append_assoc (map judged_as before) ((f.item, resolution_as o) ∷ []) (judged_after (entries_returned_by (resolution_as o) ++ came) more)
    ∙ (λ j. map judged_as before ++ (f.item, judged j) ∷ judged_after (entries_returned_by (judged j) ++ came) more)
    ∙ ap (λ (xs : List FoundItem). map judged_as before ++ judged_after came (map found_item_as xs)) (sym here)
    ∙ so_far

-- what is judged is each item with its outcome
pub judged_zip : (came : List SentEntry) (xs : List (ItemFacts × Option NamedEntry))
    → judged_after came xs ≡ zip (map (λ x. x.0) xs) (resolutions_after came xs)
judged_zip came [] = refl
judged_zip came (x ∷ xs) =
    let o = resolution_after came x.0 x.1 in
    ap (λ (ps : List (ItemFacts × Result ResolvedItem SuspenseReason)). (x.0, o) ∷ ps) (judged_zip (entries_returned_by o ++ came) xs)

pub judged_outcomes : (came : List SentEntry) (xs : List (ItemFacts × Option NamedEntry))
    → map (λ x. x.1) (judged_after came xs) ≡ resolutions_after came xs
judged_outcomes came [] = refl
judged_outcomes came (x ∷ xs) =
    let o = resolution_after came x.0 x.1 in
    ap (λ (os : List (Result ResolvedItem SuspenseReason)). o ∷ os) (judged_outcomes (entries_returned_by o ++ came) xs)
