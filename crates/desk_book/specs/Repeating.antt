-- Each submission, retry and incoming file is accepted once: one that is sent again changes nothing.
use Rattle.std.specs.Prelude.{◌≡◌, ◌⊎◌, ℕ, true, IsTrue, List, ◌∷◌, ◌++◌, Result, Ok}
use Rattle.ach_files.specs.declared.fault.Fault.{Fault}
use Rattle.ach_files.specs.Facts.{FileFacts}
use Rattle.desk_rules.specs.declared.bodies.submission.Retry.{Retry}
use Rattle.desk_rules.specs.declared.bodies.submission.Submission.{Submission}
use Rattle.desk_rules.specs.declared.refusals.refusal.Refusal.{Refusal}
use Rattle.desk_rules.specs.Retry.{retry_of}
use Rattle.desk_rules.specs.SameContent.{same_retry, same_submission}
use Rattle.desk_rules.specs.Submission.{submission_of}
use Rattle.desk_history.specs.declared.answer.Answer.{Answer}
use Rattle.desk_history.specs.declared.identity.Identity.{Identity}
use Rattle.desk_history.specs.Message.{Message, Of, TakeFile, Pair, is_accepted}
use Rattle.desk_history.specs.Operator.{answer_to, next_pair, IsHistory}
use Rattle.desk_history.specs.Repeated.{acts_once}
use Rattle.desk_history.specs.Request as request
use Rattle.desk_book.specs.Book.{book_of}

-- ---- what is the same again

-- the drafts are two submissions with the same content, their references among it
abbrev pub AreSameSubmissions : (first again : Result Submission Refusal) → Type 0
AreSameSubmissions (Ok s) (Ok t) = IsTrue (same_submission s t)
AreSameSubmissions first again = ⊥

-- the drafts are two retries under one reference with the same content
abbrev pub AreSameRetries : (first again : Result Retry Refusal) → Type 0
AreSameRetries (Ok r) (Ok q) = (r.reference ≡ q.reference) × IsTrue (same_retry r q)
AreSameRetries first again = ⊥

-- the files have one key and one digest
abbrev pub AreSameFiles : (first again : Result FileFacts Fault) → Type 0
AreSameFiles (Ok f) (Ok g) = (f.key ≡ g.key) × (f.digest ≡ g.digest)
AreSameFiles first again = ⊥

-- The messages are of one company with the same content, whatever their drafts say beside it, or of files alike.
abbrev pub HaveSameContent : (first again : Message) → Type 0
HaveSameContent (Of c (request.Submit d)) (Of k (request.Submit e)) = (c ≡ k) × AreSameSubmissions (submission_of d) (submission_of e)
HaveSameContent (Of c (request.Retry d)) (Of k (request.Retry e)) = (c ≡ k) × AreSameRetries (retry_of d) (retry_of e)
HaveSameContent (TakeFile first) (TakeFile again) = AreSameFiles first again
HaveSameContent first again = ⊥

-- a message is sent again: the same message, or another with its content
abbrev pub IsRepeated : (first again : Message) → Type 0
IsRepeated first again = (first ≡ again) ⊎ HaveSameContent first again

-- ---- the law

-- a message after a history has this answer, and the book stays as it was
pub record ActsNoMore (identity : Identity) (key : List ℕ) (H : List Pair) (answer : Answer) (m : Message) : Type 0 where
  pub answered : answer_to identity H m ≡ answer
  pub book : book_of identity key (next_pair identity H m ∷ H) ≡ book_of identity key H

-- What was accepted once, at whatever place of the history, has its first answer and acts no more when it is sent again.
abbrev pub TwiceActsOnce : Type 0
TwiceActsOnce = (identity : Identity) (key : List ℕ) (later : List Pair) (first : Pair) (earlier : List Pair) (again : Message)
    → IsHistory identity (later ++ first ∷ earlier) → acts_once first.message ≡ true → is_accepted first.answer ≡ true
    → IsRepeated first.message again
    → ActsNoMore identity key (later ++ first ∷ earlier) first.answer again
