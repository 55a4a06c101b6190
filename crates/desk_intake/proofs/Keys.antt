-- A set of keys has one key more after an entry is added.
use Rattle.std.proofs.Common.{◌≡◌, ◌∙◌, ap, refl, List, ◌∷◌, Bool, true, false, ◌||◌, cond}
use Rattle.std.specs.Prelude.{if◌then◌else◌, not}
use Rattle.std.specs.Bool.{OnFalse}
use Rattle.std.specs.HashSet.{HashSet, Updates, contains}
use Rattle.std.specs.List.{list_any}
use Rattle.desk_history.specs.declared.sent_entry.SentEntry.{SentEntry}
use Rattle.desk_book.specs.OnIntake.{is_same_entry}
use Rattle.desk_intake.specs.EntryKeys.{is_same_key, same_key_equiv}
use Rattle.desk_intake.specs.ReturnedEntries.{key_of}
use Rattle.desk_intake.specs.declared.returned_entries.EntryKey.{EntryKey}

either : (p q : Bool) → cond p true q ≡ (p || q)
either true q = refl
either false q = refl

added : {S : Type 0} (before after : HashSet EntryKey S) (e : SentEntry) (es : List SentEntry) → Updates is_same_key before after (key_of e) true
    → ((x : SentEntry) → contains is_same_key before (key_of x) ≡ list_any (is_same_entry x) es)
    → (x : SentEntry) → contains is_same_key after (key_of x) ≡ (is_same_entry x e || list_any (is_same_entry x) es)
added before after e es updates has x =
    updates.0 (key_of x)
    ∙ (λ i. cond (same_key_equiv.symm (key_of e) (key_of x) i) true (has x i))
    ∙ either (is_same_entry x e) (list_any (is_same_entry x) es)

-- a key is new exactly if its entry is, and only then there is one more
pub adds : {S : Type 0} (before after : HashSet EntryKey S) (e : SentEntry) (es : List SentEntry) (is_new : Bool)
    → is_new ≡ not (contains is_same_key before (key_of e)) → Updates is_same_key before after (key_of e) true → OnFalse is_new (after.keys ≡ before.keys)
    → ((x : SentEntry) → contains is_same_key before (key_of x) ≡ list_any (is_same_entry x) es)
    → (is_new ≡ not (list_any (is_same_entry e) es)) × ((x : SentEntry) → contains is_same_key after (key_of x) ≡ list_any (is_same_entry x) (if is_new then e ∷ es else es))
adds before after e es true added_it updates same has = (added_it ∙ ap not (has e), added before after e es updates has)
adds before after e es false added_it updates same has =
    (added_it ∙ ap not (has e), λ x. ap (λ ks. list_any (is_same_key (key_of x)) ks) same ∙ has x)
