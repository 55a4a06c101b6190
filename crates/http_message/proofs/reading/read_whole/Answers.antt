use Rattle.std.proofs.Common.{◌≤◌, ◌+◌, ◌++◌, ℕ, List, length, take, arith, subst, sym, refl, length-append}
use Rattle.std.proofs.lemmas.List.{length-take}
use Rattle.std.proofs.KnownBytes.{Consumes-trans}
use Rattle.std.specs.Io.KnownBytes.{Consumes}
use Rattle.http_message.proofs.UnreadLemmas.{more_filled}
use Rattle.http_message.proofs.reading.read_whole.Goals as goal

-- the bytes at the start and the first bytes of the piece after them are in the room
filled_within : (room piece after : List ℕ) (n count : ℕ) → n ≤ length room → count ≤ length piece
    → n + count ≤ length (take n room ++ (piece ++ after))
filled_within room piece after n count within few = simp (length-append, length-take) (omega (arith, within, few))

pub loop-filled-preserved : goal.loop-filled-preserved
loop-filled-preserved g c =
    let inside = c.loop-filled.invariant.within in
    let few = c.in_ok-count.ensures.bound.0 in
    let filled = more_filled c.loop-filled.room c.read_with_retries.new.buf _ c.loop-filled.filled c.in_ok-count.count _ inside few refl in
    record {
      within = filled_within c.loop-filled.room c.read_with_retries.new.buf _ c.loop-filled.filled c.in_ok-count.count inside few;
      takes = subst (Consumes _ _) (sym filled) (Consumes-trans _ _ _ _ _ c.loop-filled.invariant.takes c.in_ok-count.ensures.bytes.0);
    }
