-- Bytes that an input loses and a reader takes.
use Rattle.std.proofs.Common.{◌≡◌, ◌≤◌, ◌+◌, inl, inr, ℕ, List, [], ◌++◌, length, take, Option, Some, None, option_map, refl, sym, ap, ◌∙◌, subst, append_assoc, append-nil, length-append, arith}
use Rattle.std.specs.Io.KnownBytes.{Consumes, IsAtEnd, Keeps}
use Rattle.std.proofs.KnownBytes.{Consumes-kept, Consumes-nil, Consumes-trans}
use Rattle.ach_files.specs.Has.{HasRead}
use Rattle.ach_files.specs.FirstFault.{Tells, fault, early_fault}
use Rattle.ach_files.specs.declared.fault.Fault.{Fault}
use Rattle.ach_files.specs.declared.reader.Reader.{Reader}
use Rattle.cli_commands.specs.Feeding.{FeedsToFault}
use Rattle.cli_commands.specs.Inputs.{bounded, most_piece, most_read, MayHave}
use Rattle.cli_commands.proofs.TakingLemmas.{Consumes-all, Consumes-bounded}

-- a fault among the first bytes is that of all
abbrev pub FaultsStand : Type 0
FaultsStand = (bytes rest : List ℕ) (f : Fault) → early_fault bytes ≡ Some f → fault (bytes ++ rest) ≡ Some f

-- the reader has taken what the input lost, of which so many bytes are left to be read
abbrev pub Feeds : (old new : Option (List ℕ)) → (left : ℕ) → (before after : Reader) → Type 0
Feeds old new left before after =
    (bytes : List ℕ) → HasRead before bytes
    → (done : List ℕ) × HasRead after (bytes ++ done) × Consumes old new done × (length done + left ≡ most_read)

pub Feeds-nothing : (known : Option (List ℕ)) (r : Reader) → Feeds known known most_read r r
Feeds-nothing known r bytes h = ([], subst (HasRead r) (sym (append-nil bytes)) h, Consumes-nil known, refl)

pub Feeds-more : (old mid new : Option (List ℕ)) (left rest : ℕ) (r s t : Reader) (piece : List ℕ) → Feeds old mid left r s
    → ((bytes : List ℕ) → HasRead s bytes → HasRead t (bytes ++ piece)) → Consumes mid new piece → length piece + rest ≡ left → Feeds old new rest r t
Feeds-more old mid new left rest r s t piece feeds step lost size bytes h =
    let (done, has, takes, sum) = feeds bytes h in (
      done ++ piece,
      subst (HasRead t) (append_assoc bytes done piece) (step (bytes ++ done) has),
      Consumes-trans old mid new done piece takes lost,
      simp length-append (omega (arith, sum, size)),
    )

-- an input that lost nothing more
pub Feeds-kept : (old mid new : Option (List ℕ)) (left : ℕ) (r s : Reader) → Feeds old mid left r s → Keeps mid new → Feeds old new left r s
Feeds-kept old mid new left r s feeds kept bytes h =
    let (done, has, takes, sum) = feeds bytes h in (done, has, Consumes-kept old mid new done takes kept, sum)

pub Feeds-all : (old new : Option (List ℕ)) (left : ℕ) (r s : Reader) → Feeds old new left r s → IsAtEnd (option_map (take left) new)
    → (bytes : List ℕ) → HasRead r bytes → (rest : List ℕ) × MayHave (bounded old) rest × HasRead s (bytes ++ rest)
Feeds-all old new left r s feeds end bytes h =
    let (done, has, takes, sum) = feeds bytes h in
    (done, Consumes-all (bounded old) (option_map (take left) new) done (Consumes-bounded old new done left takes sum) end, has)

Tells-all : (bytes rest : List ℕ) (f : Fault) → FaultsStand → Tells f (early_fault bytes) → Tells f (fault (bytes ++ rest))
Tells-all bytes rest f stands (inl e) = inl e
Tells-all bytes rest f stands (inr e) = inr (stands bytes rest f e)

Tells-within : (old new : Option (List ℕ)) (bytes done piece : List ℕ) (f : Fault) → FaultsStand
    → Consumes old new (done ++ piece) → Tells f (early_fault ((bytes ++ done) ++ piece))
    → (rest : List ℕ) × MayHave old rest × Tells f (fault (bytes ++ rest))
Tells-within None new bytes done piece f stands p t = (
  done ++ piece,
  tt,
  subst (λ l. Tells f (fault l)) (append-nil ((bytes ++ done) ++ piece) ∙ append_assoc bytes done piece)
      (Tells-all ((bytes ++ done) ++ piece) [] f stands t),
)
Tells-within (Some o) None bytes done piece f stands p t = elim p [ ]
Tells-within (Some o) (Some n) bytes done piece f stands p t = (
  o,
  refl,
  subst (λ l. Tells f (fault l))
      (append_assoc (bytes ++ done) piece n ∙ append_assoc bytes done (piece ++ n) ∙ ap (λ l. bytes ++ l) (sym (append_assoc done piece n) ∙ sym p))
      (Tells-all ((bytes ++ done) ++ piece) n f stands t),
)

pub Feeds-fault : (old mid new : Option (List ℕ)) (left rest : ℕ) (r s : Reader) (piece : List ℕ) (f : Fault) → FaultsStand
    → Feeds old mid left r s → ((bytes : List ℕ) → HasRead s bytes → Tells f (early_fault (bytes ++ piece))) → Consumes mid new piece → length piece + rest ≡ left
    → (bytes : List ℕ) → HasRead r bytes → (all : List ℕ) × MayHave (bounded old) all × Tells f (fault (bytes ++ all))
Feeds-fault old mid new left rest r s piece f stands feeds tells lost size bytes h =
    let (done, has, takes, sum) = feeds bytes h in
    let both : length (done ++ piece) + rest ≡ most_read = simp length-append (omega (arith, sum, size)) in
    Tells-within (bounded old) (option_map (take rest) new) bytes done piece f stands
    (Consumes-bounded old new (done ++ piece) rest (Consumes-trans old mid new done piece takes lost) both) (tells (bytes ++ done) has)

-- what was read before the first fault
pub taken_fine : (old new : Option (List ℕ)) (left : ℕ) (r s : Reader) → Feeds old new left r s → FeedsToFault r old new
taken_fine old new left r s feeds bytes h =
    let (done, has, takes, sum) = feeds bytes h in record {
      fine = done;
      last = [];
      takes = subst (Consumes old new) (sym (append-nil done)) takes;
      few = simp append-nil (omega (arith, sum));
      little = omega arith;
      none = has.has.fine;
    }

-- and the piece that has it
pub taken_last : (old mid new : Option (List ℕ)) (left rest : ℕ) (r s : Reader) (piece : List ℕ) → Feeds old mid left r s → Consumes mid new piece
    → length piece + rest ≡ left → length piece ≤ most_piece → FeedsToFault r old new
taken_last old mid new left rest r s piece feeds lost size little bytes h =
    let (done, has, takes, sum) = feeds bytes h in record {
      fine = done;
      last = piece;
      takes = Consumes-trans old mid new done piece takes lost;
      few = simp length-append (omega (arith, sum, size));
      little = little;
      none = has.has.fine;
    }

-- a read that failed says nothing
pub MayHave-some : (old : Option (List ℕ)) → (rest : List ℕ) × MayHave old rest × Unit {0}
MayHave-some None = ([], tt, tt)
MayHave-some (Some o) = (o, refl, tt)
