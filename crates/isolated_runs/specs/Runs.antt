-- Runs: messages with their answers. A message that was answered 503 has none.
use Rattle.std.specs.Prelude.{◌≡◌, ℕ, List, [], ◌∷◌, ◌++◌, Option, Some, option_and_then}
use Rattle.std.specs.List.{fold}
use Rattle.desk_history.specs.Part.{Event}
use Rattle.http_message.specs.Message.{MessageValue}
use Rattle.http_session.specs.Exchanges.{Exchange, Follows}
use Rattle.desk_http.specs.Keeping.{KeptHistory}
use Rattle.http_history.specs.Reply.{answer_from}
use Rattle.http_history.specs.Texts.{is_success}
use Rattle.isolation.specs.World.{World, nothing, told}
use Rattle.isolation.specs.Alone.{IsAlone, IsFew}
use Rattle.isolation.specs.Heard.{Reading, company_of, message_heard, LookAlike, IsDesks}

module _ (reading : Reading) (odfi key : List ℕ) where
  -- what a desk keeps after an answer; 503 changes nothing, and 200 or 201 accepts
  abbrev pub after : World → MessageValue → (answer : Option (List ℕ)) → World
  after w v answer = told odfi reading.due w (option_and_then (λ bytes. message_heard reading key w (is_success bytes) v) answer)

  -- and after a run
  abbrev pub after_run : World → List Exchange → World
  after_run w xs = fold (λ w x. after w x.message x.answer) w xs

  -- the company's part of a run, from its beginning
  abbrev pub part_of_run : List Exchange → (company : List ℕ) → List Event
  part_of_run xs c = (after_run nothing xs).parts c

-- a new desk of this bank, whose operator's key has this digest
pub record Begins (odfi key : List ℕ) (start : KeptHistory) : Type 0 where
  pub bank : start.history.identity.odfi ≡ odfi
  pub operator : start.history.key ≡ key
  pub empty : start.history.pairs ≡ []
  pub none_pending : start.pending ≡ []

module _ {Behind : Type 0} (begins : (odfi key : List ℕ) → Behind → Type 0) (step : Behind → MessageValue → (answer : Option (List ℕ)) → Behind → Type 0) where
  -- A part has nothing of others: a desk that serves the company alone has the same.
  abbrev pub PartsAreAlone : Reading → Type 0
  PartsAreAlone reading =
      (odfi key : List ℕ) (start end : Behind) (xs : List Exchange) (c : List ℕ) → begins odfi key start → Follows step start xs end
      → IsFew (after_run reading odfi key nothing xs) c → IsAlone odfi reading.due c (part_of_run reading odfi key xs c)

  -- In every run of a desk, each answer on a company's path is one reply, made of the company's part of the run so far and
  -- of the message and of nothing else; without the company's key it is made of the message alone. The state of the desk (`Behind`) and the way it answers (`step`) are parameters.
  pub record RunsFromParts : Type 0 where
    pub reading : Reading
    pub reply : MessageValue → (part : List Event) → List ℕ
    pub own : (odfi key : List ℕ) (start end : Behind) (xs : List Exchange) (v : MessageValue) (bytes : List ℕ) (c : List ℕ)
        → begins odfi key start → Follows step start (xs ++ record { message = v; answer = Some bytes } ∷ []) end → company_of v ≡ Some c
        → bytes ≡ reply v (part_of_run reading odfi key xs c)
    pub closed : (v : MessageValue) (c : List ℕ) (P Q : List Event) → company_of v ≡ Some c → LookAlike c v P Q → reply v P ≡ reply v Q
    pub alone : PartsAreAlone reading

  -- That reply is the answer of the definitions, by the desk's reading of requests and by what its cuts send.
  pub record RunsAreRight : Type 0 where
    pub reading : Reading
    pub reads : IsDesks reading
    pub own : (odfi key : List ℕ) (start end : Behind) (xs : List Exchange) (v : MessageValue) (bytes : List ℕ) (c : List ℕ)
        → begins odfi key start → Follows step start (xs ++ record { message = v; answer = Some bytes } ∷ []) end → company_of v ≡ Some c
        → bytes ≡ answer_from v (part_of_run reading odfi key xs c)

  -- In two runs of desks, also of different banks, a company with equal parts has the same answers. Without its key every
  -- message on its path is answered the same, whatever its parts.
  pub record TwoRuns : Type 0 where
    pub reading : Reading
    pub alike : (odfi key other_odfi other_key : List ℕ) (start end other_start other_end : Behind) (xs ys : List Exchange) (v : MessageValue) (here there : List ℕ) (c : List ℕ)
        → begins odfi key start → Follows step start (xs ++ record { message = v; answer = Some here } ∷ []) end
        → begins other_odfi other_key other_start → Follows step other_start (ys ++ record { message = v; answer = Some there } ∷ []) other_end
        → company_of v ≡ Some c → LookAlike c v (part_of_run reading odfi key xs c) (part_of_run reading other_odfi other_key ys c)
        → here ≡ there
    pub alone : PartsAreAlone reading
