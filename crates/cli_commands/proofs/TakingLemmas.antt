-- Bytes that are taken from an input of which at most so many are read.
use Rattle.std.proofs.Common.{◌≡◌, ◌≤◌, ◌+◌, ◌-◌, ℕ, List, [], ◌++◌, length, take, Option, Some, None, option_map, sym, ap, ◌∙◌, append-nil, length-append, arith}
use Rattle.std.proofs.Math.Seq.{take-append-add}
use Rattle.std.proofs.lemmas.List.{length-take}
use Rattle.std.proofs.lemmas.Grind.{common_steps}
use Rattle.std.specs.Io.KnownBytes.{Consumes, IsAtEnd, Keeps}
use Rattle.cli_commands.specs.Inputs.{bounded, most_piece, most_read, MayHave}

-- what is read of an input and what is left of that
pub Consumes-bounded : (old new : Option (List ℕ)) (taken : List ℕ) (left : ℕ) → Consumes old new taken → length taken + left ≡ most_read
    → Consumes (bounded old) (option_map (take left) new) taken
Consumes-bounded None new taken left takes size = tt
Consumes-bounded (Some o) None taken left takes size = absurd takes
Consumes-bounded (Some o) (Some n) taken left takes size =
    ap (λ k. take k o) (sym size) ∙ ap (take (length taken + left)) takes ∙ take-append-add taken n left

pub Consumes-all : (old new : Option (List ℕ)) (done : List ℕ) → Consumes old new done → IsAtEnd new → MayHave old done
Consumes-all None new done takes end = tt
Consumes-all (Some o) None done takes end = absurd takes
Consumes-all (Some o) (Some n) done takes end = takes ∙ ap (λ l. done ++ l) end ∙ append-nil done

-- nothing is left at the end of the input, and where no more is read
none_of : (n : ℕ) (xs : List ℕ) → xs ≡ [] → take n xs ≡ []
none_of n xs none = rw none (grind (arith, common_steps))

pub at_end : (new : Option (List ℕ)) (left : ℕ) → IsAtEnd new → IsAtEnd (option_map (take left) new)
at_end None left end = tt
at_end (Some n) left end = none_of left n end

none_at : (n : ℕ) (xs : List ℕ) → n ≡ 0 → take n xs ≡ []
none_at n xs none = rw none (grind (arith, common_steps))

pub at_bound : (new : Option (List ℕ)) (left : ℕ) → left ≡ 0 → IsAtEnd (option_map (take left) new)
at_bound None left none = tt
at_bound (Some n) left none = none_at left n none

-- a read of nothing keeps what is left
pub none_lost : (mid new : Option (List ℕ)) (n : ℕ) (piece : List ℕ) → Consumes mid new (take n piece) → n ≡ 0 → Keeps mid new
none_lost None new n piece lost none = tt
none_lost (Some m) None n piece lost none = absurd lost
none_lost (Some m) (Some k) n piece lost none = sym (lost ∙ ap (λ l. l ++ k) (none_at n piece none))

-- so many bytes at the start of a piece, and what is then left to be read
size_of : (n : ℕ) (piece : List ℕ) → n ≤ length piece → length (take n piece) ≡ n
size_of n piece within = simp length-take (omega (arith, within))

pub rest_of : (left n : ℕ) (piece : List ℕ) → n ≤ left → n ≤ length piece → length (take n piece) + (left - n) ≡ left
rest_of left n piece few within = let size = size_of n piece within in omega (arith, size, few)

pub little_of : (n : ℕ) (piece : List ℕ) → n ≤ length piece → length piece ≤ most_piece → length (take n piece) ≤ most_piece
little_of n piece within little = let size = size_of n piece within in omega (arith, size, within, little)

pub few_more : (left n : ℕ) (bytes piece : List ℕ) → length bytes + left ≡ most_read → n ≤ left → n ≤ length piece
    → length (bytes ++ take n piece) ≤ most_read
few_more left n bytes piece sum few within =
    let size = size_of n piece within in
    simp length-append (omega (arith, size, sum, few))
