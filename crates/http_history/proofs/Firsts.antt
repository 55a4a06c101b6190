-- The calls of a desk of version 1 are those that its messages spell, without the key `authorized`.
use Rattle.std.proofs.Common.{◌≡◌, ℕ, List, [], ◌∷◌, ◌++◌, map, Bool, true, false, refl, sym, ap, ◌∙◌, subst, if◌then◌else◌, Option, Some, None, option_map, option_to_list}
use Rattle.desk_history.specs.declared.identity.Identity.{Identity}
use Rattle.desk_history.specs.Authorizations.{message_without_authorization, without_authorizations, HaveNoAuthorizations, AuthorizationsLeftOut}
use Rattle.desk_history.specs.Message as core
use Rattle.desk_history.specs.Message.{Message, Of}
use Rattle.desk_history.specs.Operator.{answer_to}
use Rattle.desk_book.specs.Book.{book_of}
use Rattle.http_message.specs.Message.{MessageValue}
use Rattle.http_history.specs.Verdict.{verdict_on}
use Rattle.http_history.specs.Versions.{First, Present}
use Rattle.http_history.specs.History.{Origin, taken_by, from_first, from_facts, Pair, is_lost, call_at, with_call, calls_of, text, IsReadAs, IsHistory}
use Rattle.http_history.specs.Laws.{OneMeaning, IsOfFirst, AreOfFirst, as_present, AreSpelled, IsSpelled, FirstCalls}
use Rattle.http_history.proofs.Answered.{right_text}
use Rattle.http_history.proofs.Calls.{calls_of-more, calls_of-none}

-- ---- lists of pairs

abbrev messages_in : List core.Pair → List Message
messages_in G = map (λ x. x.message) G

messages_without : (G : List core.Pair) → messages_in (without_authorizations G) ≡ map message_without_authorization (messages_in G)
messages_without [] = refl
messages_without (x ∷ G) = ap (λ ms. message_without_authorization x.message ∷ ms) (messages_without G)

-- pairs are their messages and their answers
same_pairs : (K L : List core.Pair) → messages_in K ≡ messages_in L → map (λ x. x.answer) K ≡ map (λ x. x.answer) L → K ≡ L
same_pairs [] [] ms answers = refl
same_pairs [] (y ∷ L) ms answers = cc
same_pairs (x ∷ K) [] ms answers = cc
same_pairs (x ∷ K) (y ∷ L) ms answers =
    let message : x.message ≡ y.message = cc in
    let answer : x.answer ≡ y.answer = cc in
    let later : messages_in K ≡ messages_in L = cc in
    let answered : map (λ x. x.answer) K ≡ map (λ x. x.answer) L = cc in
    let rest = same_pairs K L later answered in
    (λ i. record { message = message i; answer = answer i } ∷ rest i)

-- ---- one message of a desk of version 1

-- the message that its bytes spell, and the one that it was read as
record IsFirstRead (identity : Identity) (key : List ℕ) (G : List core.Pair) (origin : Origin) (means : Option Message) : Type 0 where
  spelled : Option Message
  reads : IsReadAs identity key G (as_present origin) spelled
  left : means ≡ option_map message_without_authorization spelled

first_read : (identity : Identity) (key : List ℕ) (G : List core.Pair) (origin : Origin) (means : Option Message) → IsOfFirst origin → IsReadAs identity key G origin means
    → IsFirstRead identity key G origin means
first_read identity key G (taken_by First v) means first (spelled, is, left) = record { spelled = spelled; reads = is; left = left }
first_read identity key G (taken_by Present v) means first is = absurd first
first_read identity key G from_facts means first is = absurd first

-- the call that was spelled, with the answer that was given
abbrev spelled_call : Identity → List core.Pair → Option Message → List core.Pair → List core.Pair
spelled_call identity K None G = G
spelled_call identity K (Some m) G = record { message = m; answer = answer_to identity K (message_without_authorization m) } ∷ G

spelled_messages : (identity : Identity) (K : List core.Pair) (spelled : Option Message) (G : List core.Pair)
    → messages_in (spelled_call identity K spelled G) ≡ option_to_list spelled ++ messages_in G
spelled_messages identity K None G = refl
spelled_messages identity K (Some m) G = refl

spelled_answers : (identity : Identity) (K : List core.Pair) (spelled : Option Message) (G : List core.Pair) → map (λ x. x.answer) G ≡ map (λ x. x.answer) K
    → map (λ x. x.answer) (spelled_call identity K spelled G) ≡ map (λ x. x.answer) (with_call identity (option_map message_without_authorization spelled) K)
spelled_answers identity K None G same = same
spelled_answers identity K (Some m) G same = ap (λ answers. answer_to identity K (message_without_authorization m) ∷ answers) same

called_messages : (identity : Identity) (K : List core.Pair) (spelled : Option Message) (ms : List Message) → messages_in K ≡ map message_without_authorization ms
    → messages_in (with_call identity (option_map message_without_authorization spelled) K) ≡ map message_without_authorization (option_to_list spelled ++ ms)
called_messages identity K None ms same = same
called_messages identity K (Some m) ms same = ap (λ ms. message_without_authorization m ∷ ms) same

-- what is lost has no key to leave out
still : (lost : Bool) (m : Message) → message_without_authorization m ≡ m
    → (if lost then None else Some m) ≡ option_map message_without_authorization (if lost then None else Some m)
still true m same = refl
still false m same = ap Some (sym same)

call_without : (identity : Identity) (K : List core.Pair) (x : Pair) (spelled : Option Message)
    → call_at identity K x (option_map message_without_authorization spelled) ≡ option_map message_without_authorization (call_at identity K x spelled)
call_without identity K x None = refl
call_without identity K x (Some (Of c r)) = refl
call_without identity K x (Some m) = still (is_lost identity K x m) m refl

module _ (one : OneMeaning) (left_out : AuthorizationsLeftOut) where
  -- ---- a history for any messages

  taken : (identity : Identity) (key : List ℕ) (vs : List MessageValue) → (H : List Pair) × IsHistory identity key H × (map (λ x. x.origin) H ≡ map from_first vs)
  taken identity key [] = ([], tt, refl)
  taken identity key (v ∷ vs) =
      let before = taken identity key vs in
      let spelled = one.some (verdict_on (book_of identity key (calls_of identity before.0)) v) in
      let means = option_map message_without_authorization spelled.0 in (
        record { origin = from_first v; answer = text identity key before.0 (from_first v) means; means = means } ∷ before.0,
        ((spelled.0, spelled.1, refl), right_text identity key (from_first v) means before.0, before.1),
        ap (λ (origins : List Origin). from_first v ∷ origins) before.2,
      )

  -- ---- its calls

  spelled_calls : (identity : Identity) (key : List ℕ) (H : List Pair) → IsHistory identity key H → AreOfFirst H → (G : List core.Pair) × IsSpelled identity key H G
  spelled_calls identity key [] is first = ([], record { messages = refl; answers = ap (map (λ x. x.answer)) (sym (calls_of-none identity)) })
  spelled_calls identity key (x ∷ H) is first =
      let before = spelled_calls identity key H is.2 first.1 in
      let read = first_read identity key (calls_of identity H) x.origin x.means first.0 is.0 in
      let call = call_at identity (calls_of identity H) x read.spelled in (
        spelled_call identity (calls_of identity H) call before.0,
        record {
          messages = (read.spelled, messages_in before.0, read.reads, before.1.messages, spelled_messages identity (calls_of identity H) call before.0);
          answers = spelled_answers identity (calls_of identity H) call before.0 before.1.answers
              ∙ ap (λ (call : Option Message). map (λ x. x.answer) (with_call identity call (calls_of identity H)))
              (sym (call_without identity (calls_of identity H) x read.spelled) ∙ ap (call_at identity (calls_of identity H) x) (sym read.left))
              ∙ ap (map (λ x. x.answer)) (sym (calls_of-more identity x H));
        },
      )

  same_spelled : (identity : Identity) (key : List ℕ) (G : List core.Pair) (origin : Origin) (a b : Option Message) → IsOfFirst origin
      → IsReadAs identity key G (as_present origin) a → IsReadAs identity key G (as_present origin) b → a ≡ b
  same_spelled identity key G (taken_by version v) a b first here there = one.only (verdict_on (book_of identity key G) v) a b here there
  same_spelled identity key G from_facts a b first here there = absurd first

  without_key : (identity : Identity) (key : List ℕ) (H : List Pair) (ms : List Message) → IsHistory identity key H → AreOfFirst H → AreSpelled identity key H ms
      → messages_in (calls_of identity H) ≡ map message_without_authorization ms
  without_key identity key [] ms is first spelled = ap messages_in (calls_of-none identity) ∙ ap (map message_without_authorization) (sym spelled)
  without_key identity key (x ∷ H) ms is first (spelled, before, reads, rest, all) =
      let read = first_read identity key (calls_of identity H) x.origin x.means first.0 is.0 in
      let same = same_spelled identity key (calls_of identity H) x.origin read.spelled spelled first.0 read.reads reads in
      ap messages_in (calls_of-more identity x H)
      ∙ ap (λ (call : Option Message). messages_in (with_call identity call (calls_of identity H)))
      (ap (call_at identity (calls_of identity H) x) (read.left ∙ ap (option_map message_without_authorization) same) ∙ call_without identity (calls_of identity H) x spelled)
      ∙ called_messages identity (calls_of identity H) (call_at identity (calls_of identity H) x spelled) before (without_key identity key H before is.2 first.1 rest)
      ∙ ap (map message_without_authorization) (sym all)

  calls_without : (identity : Identity) (key : List ℕ) (H : List Pair) (G : List core.Pair) → IsHistory identity key H → AreOfFirst H → IsSpelled identity key H G
      → calls_of identity H ≡ without_authorizations G
  calls_without identity key H G is first spelled =
      same_pairs (calls_of identity H) (without_authorizations G)
      (without_key identity key H (messages_in G) is first spelled.messages ∙ sym (messages_without G))
      (sym (left_out.answers G ∙ spelled.answers))

  unauthorized : (identity : Identity) (key : List ℕ) (H : List Pair) → IsHistory identity key H → AreOfFirst H → HaveNoAuthorizations (calls_of identity H)
  unauthorized identity key H is first =
      let spelled = spelled_calls identity key H is first in
      subst HaveNoAuthorizations (sym (calls_without identity key H spelled.0 is first spelled.1)) (left_out.none spelled.0)

  pub first_calls : FirstCalls
  first_calls = record { taken = taken; spelled = spelled_calls; calls = calls_without; unauthorized = unauthorized }
