-- The clauses of a store that remembers, from those of the store that it is around.
use Rattle.std.proofs.Common.{◌⊎◌, inl, inr}
use Rattle.std.specs.Prelude.{Result, Ok, Err}
use Rattle.desk_book.specs.Book.{Book}
use Rattle.desk_book.specs.Steps.{Step}
use Rattle.desk_store.specs.declared.store.StoreFault.{StoreFault}
use Rattle.desk_store.specs.Words.{Reads, LeavesWrite}
use Rattle.remembering_store.specs.Known.{IsNumbered, KnowsRight, HoldsKnown, Learns, KeepsNumbered}
use Rattle.remembering_store.specs.declared.known.Known.{Known}

-- a step that leaves submissions numbered
abbrev pub LeavesNumbered : Step → Type 0
LeavesNumbered step = (b : Book) → IsNumbered b → IsNumbered (step.after b)

-- where it was made, what is known follows
pub made : (old new : Book → Type 0) (m n : Known) (step : Step) → LeavesNumbered step → ((b : Book) → KnowsRight m b → KnowsRight n (step.after b))
    → ((b : Book) → old b → step.Admits b → new (step.after b)) → (b : Book) → HoldsKnown old m b → step.Admits b → HoldsKnown new n (step.after b)
made old new m n step numbered follows writes b held admits = record {
  held = writes b held.held admits;
  numbered = numbered b held.numbered;
  known = follows b held.known;
}

-- where it was not, nothing changes
pub not_made : (old new : Book → Type 0) (m : Known) → ((b : Book) → old b → new b) → (b : Book) → HoldsKnown old m b → HoldsKnown new m b
not_made old new m stays b held = record { held = stays b held.held; numbered = held.numbered; known = held.known }

-- what a crash leaves
pub left_numbered : {Kept : Type 0} (keeps : Kept → Book → Type 0) (old : Book → Type 0) (m : Known) (before after : Kept → Type 0) (result : Result (Unit {0}) StoreFault) (step : Step)
    → LeavesNumbered step → LeavesWrite keeps old before result step after → LeavesWrite (KeepsNumbered keeps) (HoldsKnown old m) before result step after
left_numbered keeps old m before after (Ok done) step numbered leaves = λ b k held admits new. (leaves b k held.held admits new, numbered b held.numbered)
left_numbered {Kept} keeps old m before after (Err fault) step numbered leaves = λ b k held admits new. by b k (numbered b held.numbered) (leaves b k held.held admits new) where
  by : (b : Book) (k : Kept) → IsNumbered (step.after b) → before k ⊎ keeps k (step.after b) → before k ⊎ KeepsNumbered keeps k (step.after b)
  by b k are (inl was) = inl was
  by b k are (inr is) = inr (is, are)

-- more is learnt, and then more
pub learnt_more : {S Kept : Type 0} (is_clean : S → Type 0) (holds : S → Book → Type 0) (may_leave : S → Kept → Type 0) (r s t : S) (k m n : Known)
    → Learns is_clean holds may_leave r s k m → Learns is_clean holds may_leave s t m n → Learns is_clean holds may_leave r t k n
learnt_more is_clean holds may_leave r s t k m n first next = record {
  before = λ clean. first.before (next.before clean);
  read = λ clean b held. next.read clean b (first.read (next.before clean) b held);
  left = λ clean left new. first.left (next.before clean) left (next.left clean left new);
}

-- a read after which more may be known
pub read_known : {A : Type 0} (old mid new : Book → Type 0) (m n : Known) (result : Result A StoreFault) (value : Book → A)
    → ((b : Book) → HoldsKnown old m b → HoldsKnown mid n b) → Reads mid result value new → Reads (HoldsKnown old m) result value (HoldsKnown new n)
read_known old mid new m n (Ok x) value first reads = λ b held.
    let h = first b held in
    let got = reads b h.held in
    (got.0, record { held = got.1; numbered = h.numbered; known = h.known })
read_known old mid new m n (Err fault) value first reads = λ b held.
    let h = first b held in
    record { held = reads b h.held; numbered = h.numbered; known = h.known }
