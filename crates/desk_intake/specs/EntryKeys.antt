-- Entries by their company, their submission's reference and their number in it.
use Rattle.std.specs.Prelude.{◌≡◌, ◌==◌, ◌&&◌, ◌++◌, Bool, true, bytes_eq}
use Rattle.std.proofs.Common.{sym}
use Rattle.std.proofs.lemmas.Bool.{and_parts, eqb-true}
use Rattle.std.specs.Hash as fed
use Rattle.std.specs.Cmp.{IsEquivalence, and_equiv, on_equiv, nat_eq_equiv}
use Rattle.std.specs.Cmp.Lexicographic.{nat_list_eq_equiv, same_text}
use Rattle.desk_intake.specs.declared.returned_entries.EntryKey.{EntryKey}

abbrev pub is_same_key : EntryKey → EntryKey → Bool
is_same_key k l = bytes_eq k.company l.company && bytes_eq k.reference l.reference && k.index == l.index

pub same_key_equiv : IsEquivalence is_same_key
same_key_equiv = and_equiv (and_equiv (on_equiv (λ k. k.company) nat_list_eq_equiv) (on_equiv (λ k. k.reference) nat_list_eq_equiv)) (on_equiv (λ k. k.index) nat_eq_equiv)

pub same_key_hash : (k l : EntryKey) → is_same_key k l ≡ true
    → (fed.slice fed.u8 k.company ++ fed.slice fed.u8 k.reference ++ fed.u64 k.index) ≡ (fed.slice fed.u8 l.company ++ fed.slice fed.u8 l.reference ++ fed.u64 l.index)
same_key_hash k l same =
    let both = and_parts (bytes_eq k.company l.company && bytes_eq k.reference l.reference) (k.index == l.index) same in
    let texts = and_parts (bytes_eq k.company l.company) (bytes_eq k.reference l.reference) both.0 in
    λ i. fed.slice fed.u8 (same_text k.company l.company (sym texts.0) i) ++ fed.slice fed.u8 (same_text k.reference l.reference (sym texts.1) i) ++ fed.u64 (eqb-true k.index l.index both.1 i)
