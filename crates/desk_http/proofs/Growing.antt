-- If each answer keeps a property of a history, each history that may be found has it.
use Rattle.std.proofs.Common.{sym, subst, ℕ, List, [], ◌∷◌, inl, inr}
use Rattle.std.specs.Prelude.{Option, Some, None}
use Rattle.http_message.specs.Message.{MessageValue}
use Rattle.http_session.specs.Exchanges.{Exchange, Follows}
use Rattle.http_history.specs.History.{taken_by, IsHistory}
use Rattle.http_history.specs.Versions.{Version}
use Rattle.http_history.proofs.Answered.{right_answer}
use Rattle.desk_http.specs.Keeping.{DeskHistory, IsAnsweredBy, KeptHistory, MayBeFound, TakesBy}

module _ (version : Version) (Is : DeskHistory → Type 0)
    (answered : (h : DeskHistory) (v : MessageValue) (bytes : List ℕ) (after : DeskHistory) → IsAnsweredBy version h v bytes after → Is h → Is after) where
  takes_keeps : (was : KeptHistory) (v : MessageValue) (answer : Option (List ℕ)) (now : KeptHistory) → TakesBy version was v answer now → Is was.history → Is now.history
  takes_keeps was v None now same is = subst (λ (b : KeptHistory). Is b.history) (sym same) is
  takes_keeps was v (Some bytes) now taken is = answered was.history v bytes now.history taken.answered is

  pub follows_keeps : (was : KeptHistory) (xs : List Exchange) (now : KeptHistory) → Follows (TakesBy version) was xs now → Is was.history → Is now.history
  follows_keeps was [] now same is = subst (λ (b : KeptHistory). Is b.history) (sym same) is
  follows_keeps was (x ∷ xs) now goes is = follows_keeps goes.0 xs now goes.2 (takes_keeps was x.message x.answer goes.0 goes.1 is)

  pub found_keeps : (b : KeptHistory) (found : DeskHistory) → MayBeFound version b found → Is b.history → Is found
  found_keeps b found (inl same) is = subst Is (sym same) is
  found_keeps b found (inr one) is = answered b.history one.message one.answer found one.answered is

-- ---- that it is a history

abbrev pub IsTold : DeskHistory → Type 0
IsTold h = IsHistory h.identity h.key h.pairs

answered_told : (version : Version) (h : DeskHistory) (v : MessageValue) (bytes : List ℕ) (after : DeskHistory) → IsAnsweredBy version h v bytes after → IsTold h → IsTold after
answered_told version h v bytes after a is =
    subst IsTold (sym a.more) (a.read, right_answer h.identity h.key h.pairs (taken_by version v) a.means bytes a.said, is)

pub found_told : (version : Version) (b : KeptHistory) (found : DeskHistory) → MayBeFound version b found → IsTold b.history → IsTold found
found_told version b found may is = found_keeps version IsTold (answered_told version) b found may is

pub told_after : (version : Version) (was : KeptHistory) (xs : List Exchange) (now : KeptHistory) → Follows (TakesBy version) was xs now → IsTold was.history → IsTold now.history
told_after version was xs now follows is = follows_keeps version IsTold (answered_told version) was xs now follows is
