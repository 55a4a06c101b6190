-- A company is answered from its own part of a run.
use Rattle.std.proofs.Common.{◌≡◌, ℕ, List, [], ◌∷◌, ◌++◌, refl, sym, ap, ◌∙◌, subst}
use Rattle.std.specs.Prelude.{Option, Some, None, option_map}
use Rattle.desk_history.specs.declared.identity.Identity.{Identity}
use Rattle.desk_history.specs.Part.{Event}
use Rattle.http_message.specs.Message.{MessageValue}
use Rattle.http_session.specs.Exchanges.{Exchange, Follows}
use Rattle.http_history.specs.History.{from_message, Pair, calls_of, IsHistory}
use Rattle.http_history.specs.Texts.{is_success}
use Rattle.http_history.specs.Versions.{Present}
use Rattle.http_history.proofs.Answered.{right_answer}
use Rattle.desk_http.specs.Keeping.{KeptHistory, Takes}
use Rattle.isolation.specs.World.{World, Step, Asks, Does, nothing, told}
use Rattle.isolation.specs.Alone.{IsAlone, IsFew}
use Rattle.isolation.specs.Calls.{IsWorldOf}
use Rattle.isolation.specs.Heard.{Reading, company_of, message_heard}
use Rattle.isolation.specs.Told.{step_at, world_of}
use Rattle.isolation.specs.Laws.{ReplyOfPart}
use Rattle.isolated_runs.specs.Kept.{RunsOfDesks}
use Rattle.isolated_runs.specs.Runs.{Begins, after, after_run, part_of_run, PartsAreAlone, RunsFromParts, RunsAreRight, TwoRuns}
use Rattle.isolated_runs.proofs.Sessions.{parted}

present : (o : Option Step) → option_map (step_at Present) o ≡ o
present None = refl
present (Some (Asks c r)) = refl
present (Some (Does m)) = refl

module _ (law : ReplyOfPart) where
  abbrev reading : Reading
  reading = law.isolated.reading

  -- ---- what a run comes to

  module _ (identity : Identity) (key : List ℕ) where
    abbrev from : List Pair → (pending : List MessageValue) → KeptHistory
    from H pending = record { history = record { identity = identity; key = key; pairs = H }; pending = pending }

    -- a history whose world is that of the run
    abbrev Reached : World → List Exchange → KeptHistory → Type 0
    Reached w xs end =
        (G : List Pair) × (pending : List MessageValue) × (end ≡ from G pending) × IsHistory identity key G
        × (world_of reading identity.odfi key G ≡ after_run reading identity.odfi key w xs)

    one_more : (u : MessageValue) (answer : Option (List ℕ)) (xs : List Exchange) (H : List Pair) (pending : List MessageValue) (mid end : KeptHistory) → IsHistory identity key H
        → Takes (from H pending) u answer mid → Follows Takes mid xs end
        → ((G : List Pair) (left : List MessageValue) → IsHistory identity key G → Follows Takes (from G left) xs end → Reached (world_of reading identity.odfi key G) xs end)
        → Reached (after reading identity.odfi key (world_of reading identity.odfi key H) u answer) xs end
    one_more u None xs H pending mid end history step rest next = next H (u ∷ pending) history (subst (λ (h : KeptHistory). Follows Takes h xs end) step rest)
    one_more u (Some said) xs H pending mid end history step rest next =
        let G : List Pair = record { origin = from_message u; answer = said; means = step.answered.means } ∷ H in
        let now : mid ≡ from G mid.pending = λ i. record { history = step.answered.more i; pending = mid.pending } in
        subst (λ (w : World). Reached w xs end)
        (ap (λ (s : Option Step). told identity.odfi reading.due (world_of reading identity.odfi key H) s) (present (message_heard reading key (world_of reading identity.odfi key H) (is_success said) u)))
        (next G mid.pending (step.answered.read, right_answer identity key H (from_message u) step.answered.means said step.answered.said, history)
        (subst (λ (h : KeptHistory). Follows Takes h xs end) now rest))

    reached : (xs : List Exchange) (H : List Pair) (pending : List MessageValue) (end : KeptHistory) → IsHistory identity key H → Follows Takes (from H pending) xs end
        → Reached (world_of reading identity.odfi key H) xs end
    reached [] H pending end history follows = (H, pending, follows, history, refl)
    reached (x ∷ xs) H pending end history follows =
        one_more x.message x.answer xs H pending follows.0 end history follows.1 follows.2 (λ G left more rest. reached xs G left end more rest)

  -- a desk that begins has no pair
  begun : (odfi key : List ℕ) (start : KeptHistory) → Begins odfi key start
      → start ≡ record { history = record { identity = start.history.identity; key = start.history.key; pairs = [] }; pending = start.pending }
  begun odfi key start begins = λ i. record { history = record { identity = start.history.identity; key = start.history.key; pairs = begins.empty i }; pending = start.pending }

  -- a run leads to a history with its world
  after_all : (odfi key : List ℕ) (start end : KeptHistory) (xs : List Exchange) → Begins odfi key start → Follows Takes start xs end
      → (G : List Pair) × (pending : List MessageValue) × (end ≡ from start.history.identity start.history.key G pending) × IsHistory start.history.identity start.history.key G
      × (world_of reading start.history.identity.odfi start.history.key G ≡ after_run reading odfi key nothing xs)
  after_all odfi key start end xs begins follows =
      let (G, pending, is, history, same) = reached start.history.identity start.history.key xs [] start.pending end tt
      (subst (λ (b : KeptHistory). Follows Takes b xs end) (begun odfi key start begins) follows) in
      (G, pending, is, history, same ∙ (λ i. after_run reading (begins.bank i) (begins.operator i) nothing xs))

  own : (odfi key : List ℕ) (start end : KeptHistory) (xs : List Exchange) (v : MessageValue) (bytes : List ℕ) (c : List ℕ)
      → Begins odfi key start → Follows Takes start (xs ++ record { message = v; answer = Some bytes } ∷ []) end → company_of v ≡ Some c
      → bytes ≡ law.isolated.reply v (part_of_run reading odfi key xs c)
  own odfi key start end xs v bytes c begins follows to =
      let (mid, first, (next, takes, last)) = parted Takes xs (record { message = v; answer = Some bytes } ∷ []) start end follows in
      let (G, pending, is, history, same) = after_all odfi key start mid xs begins first in
      let taken : Takes (from start.history.identity start.history.key G pending) v (Some bytes) next = subst (λ (b : KeptHistory). Takes b v (Some bytes) next) is takes in
      law.isolated.own start.history.identity.odfi start.history.key G c v bytes
      (record { identity = start.history.identity; bank = refl; means = taken.answered.means; meant = record { history = history; read = taken.answered.read }; said = taken.answered.said }) to
      ∙ ap (λ (w : World). law.isolated.reply v (w.parts c)) same

  alone : PartsAreAlone Begins Takes reading
  alone odfi key start end xs c begins follows few =
      let (G, pending, is, history, same) = after_all odfi key start end xs begins follows in
      subst (λ (bank : List ℕ). IsAlone bank reading.due c (part_of_run reading odfi key xs c)) begins.bank
      (subst (λ (w : World). IsAlone start.history.identity.odfi reading.due c (w.parts c)) same
      (law.alone start.history.identity start.history.key G c history (subst (λ (w : World). IsFew w c) (sym same) few)))

  worlds : (odfi key : List ℕ) (start end : KeptHistory) (xs : List Exchange) → Begins odfi key start → Follows Takes start xs end
      → IsWorldOf odfi (calls_of end.history.identity end.history.pairs) (after_run reading odfi key nothing xs)
  worlds odfi key start end xs begins follows =
      let (G, pending, is, history, same) = after_all odfi key start end xs begins follows in
      subst (λ (b : KeptHistory). IsWorldOf odfi (calls_of b.history.identity b.history.pairs) (after_run reading odfi key nothing xs)) (sym is)
      (subst (λ (bank : List ℕ). IsWorldOf bank (calls_of start.history.identity G) (after_run reading odfi key nothing xs)) begins.bank
      (subst (IsWorldOf start.history.identity.odfi (calls_of start.history.identity G)) same (law.worlds start.history.identity start.history.key G history)))

  pub runs_from_parts : RunsFromParts Begins Takes
  runs_from_parts = record { reading = reading; reply = law.isolated.reply; own = own; closed = law.isolated.closed; alone = alone }

  pub runs_are_right : RunsAreRight Begins Takes
  runs_are_right = record {
    reading = reading;
    reads = law.reads;
    own = λ odfi key start end xs v bytes c begins follows to.
        own odfi key start end xs v bytes c begins follows to ∙ law.replies v (part_of_run reading odfi key xs c);
  }

  pub runs_of_desks : RunsOfDesks
  unfolding runs_from_parts
  runs_of_desks = record { law = runs_from_parts; worlds = worlds }

-- two runs
pub two_runs : {Behind : Type 0} (begins : (odfi key : List ℕ) → Behind → Type 0) (step : Behind → MessageValue → (answer : Option (List ℕ)) → Behind → Type 0) → RunsFromParts begins step → TwoRuns begins step
two_runs begins step law = record {
  reading = law.reading;
  alike = λ odfi key other_odfi other_key start end other_start other_end xs ys v here there c b follows d other_follows to same.
      law.own odfi key start end xs v here c b follows to
      ∙ law.closed v c (part_of_run law.reading odfi key xs c) (part_of_run law.reading other_odfi other_key ys c) to same
      ∙ sym (law.own other_odfi other_key other_start other_end ys v there c d other_follows to);
  alone = law.alone;
}
