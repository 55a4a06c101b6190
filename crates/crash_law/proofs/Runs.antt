-- Which history a desk represents after messages, and what a crash may leave then.
use Rattle.std.proofs.Common.{◌≡◌, refl, sym, subst, ℕ, List, [], ◌∷◌}
use Rattle.desk_book.specs.Book.{Book}
use Rattle.desk_book.specs.OnMessages.{BookTells}
use Rattle.desk_book.specs.Writes.{ReadsLeave}
use Rattle.http_message.specs.Message.{MessageValue}
use Rattle.http_session.specs.Exchanges.{Exchange}
use Rattle.http_history.specs.Laws.{AreOfFirst, CallsAreHistory, OneMeaning}
use Rattle.http_history.specs.Versions.{First, Present}
use Rattle.desk_http.specs.Keeping.{DeskHistory, settled, IsAnsweredBy}
use Rattle.desk_http.proofs.Growing.{follows_keeps, found_keeps, found_told, told_after}
use Rattle.desk_http.proofs.Steps.{step}
use Rattle.crash_law.specs.Crashes.{AnswersSurvive, IsFirstHistory, StandsAfterCrash, StandsAfterLives, StandsAfterMigration, StandsAt}
use Rattle.crash_law.specs.Runs.{MayBeFoundAfter, MayBeFoundLater}

-- ---- messages

module _ (tells : BookTells) (leave : ReadsLeave) (one : OneMeaning) (are : CallsAreHistory) {S Kept : Type 0} (holds : S → Book → Type 0) (keeps : Kept → Book → Type 0) (may_leave : S → Kept → Type 0) where
  pub answers_survive : AnswersSurvive holds keeps may_leave
  answers_survive version b start end [] is same = (b, refl, subst (λ (s : S). StandsAt holds keeps may_leave version b s) same is)
  answers_survive version b start end (x ∷ xs) is (mid, lead, rest) =
      let (next, takes, there) = step tells leave are keeps (holds start) (holds mid) (may_leave start) (may_leave mid) one version x.message x.answer lead.goes lead.left b is in
      let (after, follows, stands) = answers_survive version next mid end xs there rest in
      (after, (next, takes, follows), stands)

-- ---- after a crash

module _ {S Kept : Type 0} (holds : S → Book → Type 0) (keeps : Kept → Book → Type 0) (may_leave : S → Kept → Type 0) where
  pub stands_after_crash : AnswersSurvive holds keeps may_leave → StandsAfterCrash holds keeps may_leave
  stands_after_crash law version h start end now xs k is lead leaves reopened =
      let (b, follows, stands) = law version (settled h) start end xs is lead in
      let (found, may, kept) = stands.left k leaves in
      (found, (b, follows, may), reopened version found (record { history = found_told version b found may stands.stands.history; book = kept }))

  pub stands_after_lives : StandsAfterCrash holds keeps may_leave → StandsAfterLives holds keeps may_leave
  stands_after_lives law version h start now [] is same = (h, refl, subst (λ (s : S). StandsAt holds keeps may_leave version (settled h) s) same is)
  stands_after_lives law version h start now (xs ∷ lives) is (end, k, begun, lead, leaves, reopened, lived) =
      let (mid, may, there) = law version h start end begun xs k is lead leaves reopened in
      let (found, later, stands) = stands_after_lives law version mid begun now lives there lived in
      (found, (mid, may, later), stands)

-- ---- after a migration

answered_first : (h : DeskHistory) (v : MessageValue) (bytes : List ℕ) (after : DeskHistory) → IsAnsweredBy First h v bytes after → AreOfFirst h.pairs → AreOfFirst after.pairs
answered_first h v bytes after a is = subst (λ (h : DeskHistory). AreOfFirst h.pairs) (sym a.more) (tt, is)

-- what may be found of a desk of version 1 is a history of it
first_after : (h : DeskHistory) (xs : List Exchange) (found : DeskHistory) → MayBeFoundAfter First h xs found → IsFirstHistory h → IsFirstHistory found
first_after h xs found (b, follows, may) is =
    let Is : DeskHistory → Type 0 = λ h. AreOfFirst h.pairs in record {
      history = found_told First b found may (told_after First (settled h) xs b follows is.history);
      first = found_keeps First Is answered_first b found may (follows_keeps First Is answered_first (settled h) xs b follows is.first);
    }

first_later : (h : DeskHistory) (lives : List (List Exchange)) (found : DeskHistory) → MayBeFoundLater First h lives found → IsFirstHistory h → IsFirstHistory found
first_later h [] found same is = subst IsFirstHistory (sym same) is
first_later h (xs ∷ lives) found (begun, may, later) is = first_later begun lives found later (first_after h xs begun may is)

module _ {F FirstKept S Kept : Type 0}
    (first_holds : F → Book → Type 0) (first_keeps : FirstKept → Book → Type 0) (first_may_leave : F → FirstKept → Type 0)
    (holds : S → Book → Type 0) (keeps : Kept → Book → Type 0) (may_leave : S → Kept → Type 0) where
  pub stands_after_migration : AnswersSurvive first_holds first_keeps first_may_leave → AnswersSurvive holds keeps may_leave
      → StandsAfterMigration first_holds first_keeps first_may_leave holds keeps may_leave
  stands_after_migration before after h start now earlier last lives first is (begun, end, k, migrated, lived, lead, leaves, moved, since) =
      let (was, earlier_may, there) = stands_after_lives first_holds first_keeps first_may_leave (stands_after_crash first_holds first_keeps first_may_leave before) First h start begun earlier is lived in
      let (b, follows, stands) = before First (settled was) begun end last there lead in
      let (left, may, kept) = stands.left k leaves in
      let last_may : MayBeFoundAfter First was last left = (b, follows, may) in
      let told : IsFirstHistory h = record { history = is.stands.history; first = first } in
      let of_first = first_after was last left last_may (first_later h earlier was earlier_may told) in
      let (found, later, now_stands) = stands_after_lives holds keeps may_leave (stands_after_crash holds keeps may_leave after) Present left migrated now lives (moved left of_first kept) since in
      (was, left, found, earlier_may, last_may, later, now_stands)
