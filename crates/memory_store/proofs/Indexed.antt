-- What the indexes of traces and of settlements find, as entries are added and covered.
use Rattle.std.proofs.Common.{◌≡◌, ℕ, ◌+◌, ◌<◌, ◌%◌, ◌==◌, Bool, List, [], ◌∷◌, ◌++◌, take, length, get_or, Option, Some, ap, sym, subst, ◌∙◌, arith}
use Rattle.std.specs.Prelude.{find, if◌then◌else◌}
use Rattle.std.specs.BTreeMap.{get, Updates}
use Rattle.std.specs.Cmp.{unsigned_tied}
use Rattle.std.specs.Ordering.{nat_cmp}
use Rattle.std.proofs.Math.Seq.{take-length}
use Rattle.std.proofs.lemmas.List.{reverse-append, take_more, take-append-le, length-append}
use Rattle.desk_history.specs.declared.sent_entry.SentEntry.{SentEntry}
use Rattle.memory_store.specs.declared.settlement_index.SettlementIndex.{SettlementIndex}
use Rattle.memory_store.specs.declared.trace_index.TraceIndex.{TraceIndex}
use Rattle.memory_store.specs.Indexed.{IsIndexed, AreSettled, ends_in, youngest_ending, settlement_of}
use Rattle.memory_store.proofs.Latest.{settled_more}

-- the youngest with one more entry
youngest_more : (sent : List SentEntry) (e : SentEntry) (digits : ℕ) → youngest_ending (sent ++ e ∷ []) digits ≡ (if e.sequence % 10_000_000 == digits then Some e else youngest_ending sent digits)
youngest_more sent e digits = ap (λ (es : List SentEntry). find (ends_in digits) es) (reverse-append sent (e ∷ []))

-- one more entry
pub covers_more : (sent : List SentEntry) (old new : TraceIndex) (e : SentEntry) → old.indexed < length sent → e ≡ get_or sent old.indexed e
    → Updates nat_cmp old.youngest new.youngest (e.sequence % 10_000_000) (Some e) → new.indexed ≡ old.indexed + 1 → IsIndexed sent old → IsIndexed sent new
covers_more sent old new e some is put one held = record {
  within = omega arith;
  youngest = λ digits.
      let before : List SentEntry = take old.indexed sent in
      let more : take new.indexed sent ≡ before ++ e ∷ [] = ap (λ (n : ℕ). take n sent) one ∙ take_more sent old.indexed e some ∙ ap (λ (x : SentEntry). before ++ x ∷ []) (sym is) in
      put.0 digits
      ∙ ap (λ (t : Bool). if t then Some e else get nat_cmp old.youngest digits) (unsigned_tied (e.sequence % 10_000_000) digits)
      ∙ ap (λ (o : Option SentEntry). if e.sequence % 10_000_000 == digits then Some e else o) (held.youngest digits)
      ∙ sym (youngest_more before e digits)
      ∙ ap (λ (es : List SentEntry). youngest_ending es digits) (sym more);
}

-- entries that come later are not covered
pub indexed_behind : (sent more : List SentEntry) (index : TraceIndex) → IsIndexed sent index → IsIndexed (sent ++ more) index
indexed_behind sent more index held = record {
  within = omega (arith, length-append sent more, held.within);
  youngest = λ digits. held.youngest digits ∙ ap (λ (es : List SentEntry). youngest_ending es digits) (sym (take-append-le index.indexed sent more held.within));
}

-- one that covers all finds the youngest of all
pub found_whole : (sent : List SentEntry) (index : TraceIndex) → IsIndexed sent index → index.indexed ≡ length sent → (digits : ℕ) → get nat_cmp index.youngest digits ≡ youngest_ending sent digits
found_whole sent index held whole digits =
    held.youngest digits ∙ ap (λ (es : List SentEntry). youngest_ending es digits) (ap (λ (n : ℕ). take n sent) whole ∙ take-length sent)

-- the same index is right of the same entries
pub indexed_as : (sent found : List SentEntry) (old new : TraceIndex) → found ≡ sent → new ≡ old → IsIndexed sent old → IsIndexed found new
indexed_as sent found old new same kept held =
    subst (λ (es : List SentEntry). IsIndexed es new) (sym same) (subst (λ (t : TraceIndex). IsIndexed sent t) (sym kept) held)

-- ---- the index of settlements

-- one more entry
pub settles_more : (sent : List SentEntry) (old new : SettlementIndex) (e : SentEntry) → old.indexed < length sent → e ≡ get_or sent old.indexed e
    → Updates nat_cmp old.settled new.settled e.sequence (Some e.settled) → new.indexed ≡ old.indexed + 1 → AreSettled sent old → AreSettled sent new
settles_more sent old new e some is put one held = record {
  within = omega arith;
  settled = λ s.
      let before : List SentEntry = take old.indexed sent in
      let more : take new.indexed sent ≡ before ++ e ∷ [] = ap (λ (n : ℕ). take n sent) one ∙ take_more sent old.indexed e some ∙ ap (λ (x : SentEntry). before ++ x ∷ []) (sym is) in
      put.0 s
      ∙ ap (λ (t : Bool). if t then Some e.settled else get nat_cmp old.settled s) (unsigned_tied e.sequence s)
      ∙ ap (λ (o : Option ℕ). if e.sequence == s then Some e.settled else o) (held.settled s)
      ∙ settled_more before e s
      ∙ ap (λ (es : List SentEntry). settlement_of es s) (sym more);
}

-- entries that come later are not covered
pub settled_behind : (sent more : List SentEntry) (index : SettlementIndex) → AreSettled sent index → AreSettled (sent ++ more) index
settled_behind sent more index held = record {
  within = omega (arith, length-append sent more, held.within);
  settled = λ s. held.settled s ∙ ap (λ (es : List SentEntry). settlement_of es s) (sym (take-append-le index.indexed sent more held.within));
}

-- one that covers all finds the settlement of the youngest of all
pub settled_whole : (sent : List SentEntry) (index : SettlementIndex) → AreSettled sent index → index.indexed ≡ length sent → (s : ℕ) → get nat_cmp index.settled s ≡ settlement_of sent s
settled_whole sent index held whole s =
    held.settled s ∙ ap (λ (es : List SentEntry). settlement_of es s) (ap (λ (n : ℕ). take n sent) whole ∙ take-length sent)

-- the same index is right of the same entries
pub settled_as : (sent found : List SentEntry) (old new : SettlementIndex) → found ≡ sent → new ≡ old → AreSettled sent old → AreSettled found new
settled_as sent found old new same kept held =
    subst (λ (es : List SentEntry). AreSettled es new) (sym same) (subst (λ (t : SettlementIndex). AreSettled sent t) (sym kept) held)
