-- The answers that a session of a desk writes to companies.
use Rattle.std.proofs.Common.{ℕ, List, [], ◌∷◌, ◌++◌, refl, sym, ap, ◌∙◌, subst, append_assoc}
use Rattle.std.specs.Prelude.{Option, Some, Result}
use Rattle.http_message.specs.Message.{MessageValue}
use Rattle.http_session.specs.declared.sessions.Ended.{Ended}
use Rattle.http_session.specs.declared.sessions.SessionFault.{SessionFault}
use Rattle.http_session.specs.Exchanges.{Exchange, Follows}
use Rattle.http_session.specs.Session.{SessionRan}
use Rattle.isolated_runs.specs.Sessions.{SpeaksFromParts}

module _ {Behind : Type 0} (step : Behind → MessageValue → (answer : Option (List ℕ)) → Behind → Type 0) where
  -- a run in two parts
  pub parted : (xs ys : List Exchange) (start end : Behind) → Follows step start (xs ++ ys) end → (mid : Behind) × Follows step start xs mid × Follows step mid ys end
  parted [] ys start end follows = (start, refl, follows)
  parted (x ∷ xs) ys start end (next, here, more) = let (mid, first, rest) = parted xs ys next end more in (mid, (next, here, first), rest)

  -- a run that goes on
  pub joined : (xs ys : List Exchange) (start now end : Behind) → Follows step start xs now → Follows step now ys end → Follows step start (xs ++ ys) end
  joined [] ys start now end first more = subst (λ (b : Behind). Follows step b ys end) first more
  joined (x ∷ xs) ys start now end first more = (first.0, first.1, joined xs ys first.0 now end first.2 more)

pub speaks : {Behind : Type 0} (begins : (odfi key : List ℕ) → Behind → Type 0) (step : Behind → MessageValue → (answer : Option (List ℕ)) → Behind → Type 0) (is_clean : Type 0)
    (stood stands : Behind → Type 0) (before after old new : Option (List ℕ)) (result : Result Ended SessionFault)
    → SessionRan step is_clean stood stands before after old new result → SpeaksFromParts begins step is_clean stood before after old new result
speaks begins step is_clean stood stands before after old new result ran law odfi key start now run clean begun follows stood_for =
    let done = ran.2 clean now stood_for in
    let whole = joined step run ran.0 start now done.0 follows done.1 in (
      ran.0,
      ran.1,
      λ xs ys v bytes c is to.
          let x : Exchange = record { message = v; answer = Some bytes } in
          let (mid, first, (after, here, rest)) = parted step (run ++ xs) (x ∷ ys) start done.0
          (subst (λ (l : List Exchange). Follows step start l done.0) (ap (λ (l : List Exchange). run ++ l) is ∙ sym (append_assoc run xs (x ∷ ys))) whole) in
          law.own odfi key start after (run ++ xs) v bytes c begun (joined step (run ++ xs) (x ∷ []) start mid after first (after, here, refl)) to,
    )
