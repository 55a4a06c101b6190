-- Each history that may be found has the answered messages.
use Rattle.std.proofs.Common.{◌≡◌, refl, sym, subst, ℕ, suc, List, [], ◌∷◌, arith}
use Rattle.std.specs.Prelude.{Any, Option, Some}
use Rattle.std.specs.List.{AllByRecursion}
use Rattle.desk_book.specs.Book.{Book}
use Rattle.desk_store.specs.declared.store.Store.{Ghosts}
use Rattle.http_message.specs.Message.{MessageValue}
use Rattle.http_session.specs.Exchanges.{Exchange, Follows, StandsAfter}
use Rattle.http_history.specs.History.{taken_by, Pair}
use Rattle.http_history.specs.Versions.{Present, Version}
use Rattle.desk_http.specs.Keeping.{DeskHistory, StandsBehind, IsAnsweredBy, KeptHistory, MayBeFound, StandsKept, Takes, TakesBy}
use Rattle.desk_http.specs.Receipts.{HasReceipt, HasReceipts, IsReceived, ReceiptsAreKept}
use Rattle.desk_http.proofs.Growing.{follows_keeps, found_keeps, found_told}

any_later : (P : Pair → Type 0) (x : Pair) (xs : List Pair) → Any P xs → Any P (x ∷ xs)
any_later P x xs some = (suc some.0, some.1, omega (arith, some.2), some.3, some.4)

-- a history only grows
module _ (P : Pair → Type 0) (version : Version) where
  abbrev Has : DeskHistory → Type 0
  Has h = Any P h.pairs

  answered_keeps : (h : DeskHistory) (v : MessageValue) (bytes : List ℕ) (after : DeskHistory) → IsAnsweredBy version h v bytes after → Has h → Has after
  answered_keeps h v bytes after a has =
      subst Has (sym a.more) (any_later P (record { origin = taken_by version v; answer = bytes; means = a.means }) h.pairs has)

  pub received_later : (was : KeptHistory) (xs : List Exchange) (now : KeptHistory) → Follows (TakesBy version) was xs now → Has was.history → Has now.history
  received_later = follows_keeps version Has answered_keeps

  pub received_found : (b : KeptHistory) (found : DeskHistory) → MayBeFound version b found → Has b.history → Has found
  received_found = found_keeps version Has answered_keeps

abbrev pub Says : Version → MessageValue → List ℕ → Pair → Type 0
Says version v bytes p = (p.origin ≡ taken_by version v) × (p.answer ≡ bytes)

module _ (version : Version) where
  first_received : (was : KeptHistory) (x : Exchange) (now : KeptHistory) → TakesBy version was x.message x.answer now → HasReceipt version now.history x
  first_received was x now takes bytes is = go (subst (λ (said : Option (List ℕ)). TakesBy version was x.message said now) is takes)
    where
      go : TakesBy version was x.message (Some bytes) now → IsReceived version now.history x.message bytes
      go taken =
          subst (λ (h : DeskHistory). IsReceived version h x.message bytes) (sym taken.answered.more)
          (0, record { origin = taken_by version x.message; answer = bytes; means = taken.answered.means }, omega arith, refl, (refl, refl))

  -- each message that was answered is in the history that follows
  pub are_received : (was : KeptHistory) (xs : List Exchange) (now : KeptHistory) (found : DeskHistory) → Follows (TakesBy version) was xs now
      → ((v : MessageValue) (bytes : List ℕ) → IsReceived version now.history v bytes → IsReceived version found v bytes) → AllByRecursion (HasReceipt version found) xs
  are_received was [] now found same within = tt
  are_received was (x ∷ xs) now found goes within = (
    (λ bytes is. within x.message bytes (received_later (Says version x.message bytes) version goes.0 xs now goes.2 (first_received was x goes.0 goes.1 bytes is))),
    are_received goes.0 xs now found goes.2 within,
  )

-- whatever a crash leaves keeps the book of a history with them
pub kept_receipts : {Kept : Type 0} (holds : Book → Type 0) (keeps : Kept → Book → Type 0) (may_leave : Kept → Type 0) (clean : Type 0) (stood : KeptHistory → Type 0)
    (b : KeptHistory) (xs : List Exchange) (k : Kept) → StandsAfter Takes clean stood (StandsKept holds keeps may_leave) xs → clean → stood b → may_leave k
    → (found : DeskHistory) × HasReceipts b.history xs found × StandsBehind (keeps k) found
kept_receipts holds keeps may_leave clean stood b xs k after is_clean was leaves =
    let (now, goes, stands) = after is_clean b was in
    let (found, may, kept) = stands.left k leaves in (
      found,
      record {
        new = are_received Present b xs now found goes (λ v bytes is. received_found (Says Present v bytes) Present now found may is);
        old = λ version v bytes is. received_found (Says version v bytes) Present now found may (received_later (Says version v bytes) Present b xs now goes is);
      },
      record { history = found_told Present now found may stands.stands.history; book = kept },
    )

pub receipts_are_kept : {S : Type 0} (g : Ghosts S) → ReceiptsAreKept g
receipts_are_kept g old new b exchanges k after clean was leaves =
    kept_receipts (g.holds new) g.keeps (g.may_leave new) (g.is_clean new) (StandsKept (g.holds old) g.keeps (g.may_leave old)) b exchanges k after clean was leaves
