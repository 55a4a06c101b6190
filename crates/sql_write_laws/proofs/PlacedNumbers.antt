-- The number of one more sent entry.
use Rattle.std.proofs.Common.{◌≡◌, ℕ, ◌+◌, ◌==◌, cond, List, [], ◌∷◌, ◌++◌, length, Some, refl, sym, ap, ◌∙◌}
use Rattle.std.proofs.lemmas.Bool.{eqb-true}
use Rattle.desk_history.specs.declared.sent_entry.SentEntry.{SentEntry}
use Rattle.sql_tables.specs.CutTables.{has_sequence, with_number}
use Rattle.sql_tables.specs.Description.{key_cmp}
use Rattle.sql_tables.specs.DeskTables as the
use Rattle.sql_tables.specs.Encodes.{AreYoungest, place_of_number}
use Rattle.sql_tables.specs.declared.records.NumberRecord.{NumberRecord}
use Rattle.sql_tables.proofs.YoungestNumbers.{youngest_more}
use Rattle.sql_write_laws.proofs.Upserts.{put_found}

number_placed : (q k : ℕ) (ns : List NumberRecord) (s : ℕ) → place_of_number (with_number q k ns) s ≡ cond (q == s) (Some k) (place_of_number ns s)
number_placed q k ns s =
    put_found (key_cmp the.sequences) has_sequence (λ n. n.place) (λ a b. a == b) q (record { sequence = q; place = k }) (λ n. record n { place = k }) k
    (λ j. refl) (λ j n. refl) refl (λ n. refl) (λ j n is. ap (λ m. m == j) (eqb-true n.sequence q is)) (λ j is n. ap (λ m. n.sequence == m) (sym (eqb-true q j is))) ns s

-- the youngest entry of each sequence, with one more
pub youngest_placed : (n : ℕ) (e : SentEntry) (ns : List NumberRecord) (sent : List SentEntry) → AreYoungest ns sent → n ≡ length sent + 1 → AreYoungest (with_number e.sequence n ns) (sent ++ e ∷ [])
youngest_placed n e ns sent is at s = number_placed e.sequence n ns s ∙ (λ i. cond (e.sequence == s) (Some (at i)) (is s i)) ∙ sym (youngest_more sent e s)
