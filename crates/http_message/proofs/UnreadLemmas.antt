-- Bytes at the start of a room, which a read fills further.
use Rattle.std.proofs.Common.{◌≡◌, ℕ, ◌+◌, ◌≤◌, List, [], ◌++◌, length, take, sym, ap, ◌∙◌, arith, Option, Some, None, Result, Ok, Err}
use Rattle.std.proofs.Math.Seq.{take-append-add}
use Rattle.std.proofs.lemmas.List.{take-append-le, length-take}
use Rattle.std.proofs.lemmas.Grind.{common_steps}
use Rattle.std.specs.Prelude.{OnErr}
use Rattle.std.specs.Io.KnownBytes.{Consumes, Keeps}

-- what is known of a fault
pub on_err : {A E : Type 0} {P : Type 0} (r : Result A E) → P → OnErr r P
on_err (Ok a) p = tt
on_err (Err e) p = p

-- nothing was taken
pub none_taken : (a b : Option (List ℕ)) → Keeps a b → Consumes a b []
none_taken None b k = tt
none_taken (Some x) None k = absurd k
none_taken (Some x) (Some y) k = sym k

-- the bytes at the start and the first bytes of the piece after them
pub more_filled : (room piece after : List ℕ) (n count m : ℕ) → n ≤ length room → count ≤ length piece → m ≡ n + count
    → take m (take n room ++ (piece ++ after)) ≡ take n room ++ take count piece
more_filled room piece after n count m within small is =
    let size : length (take n room) ≡ n = simp length-take (omega arith) in
    let at : m ≡ length (take n room) + count = omega arith in
    ap (λ k. take k (take n room ++ (piece ++ after))) at ∙ take-append-add (take n room) (piece ++ after) count
    ∙ ap (λ l. take n room ++ l) (take-append-le count piece after small)

-- the bytes at the start alone
pub none_filled : (room after : List ℕ) (n m : ℕ) → n ≤ length room → m ≡ n → take m (take n room ++ after) ≡ take n room
none_filled room after n m within is =
    let size : length (take n room) ≡ n = simp length-take (omega arith) in
    let at : m ≤ length (take n room) = omega arith in
    take-append-le m (take n room) after at ∙ ap (λ k. take k (take n room)) (is ∙ sym size) ∙ all (take n room)
  where
    all : (l : List ℕ) → take (length l) l ≡ l
    all l = grind (arith, common_steps)
