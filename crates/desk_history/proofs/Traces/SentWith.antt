-- The entries that a cut adds to the sent ones.
use Rattle.std.proofs.Common.{◌≡◌, ℕ, List, [], ◌∷◌, map, reverse, Bool, true, false, refl, filter, zip, unwrap_or}
use Rattle.std.specs.List.{flat_map, enumerate_from, AllByRecursion}
use Rattle.desk_plan.specs.Sequences.{ranges_of}
use Rattle.desk_rules.specs.declared.bodies.company.Company.{Company}
use Rattle.desk_history.specs.declared.sent_entry.SentEntry.{SentEntry}
use Rattle.desk_history.specs.Part.{Event, CutMade}
use Rattle.desk_history.specs.Accepted.{AcceptedSubmission, settlement_day, is_sent_next}
use Rattle.desk_history.specs.Acceptance.{submissions}
use Rattle.desk_history.specs.Message.{Message, Cut}
use Rattle.desk_history.specs.Sendings.{Sending, NumberedBatch, entries_in, plan_of, sent_entry, batch_entries, sent_sequence, batch_of, batches, with_sendings}
use Rattle.desk_history.specs.History.{sendings_of, sendings, sent_entries_after}
use Rattle.desk_history.proofs.Basics.Each.{each-all, each-append, each-map, each-filter, each-flat_map, each-reverse, each-zip}

-- what the next cut sends of a company, given one of its submissions
abbrev pub sent_of : (List ℕ → List Event) → Company → AcceptedSubmission → Sending
sent_of parts k a = record { company = k; order = a.order; content = a.content; settled = unwrap_or (settlement_day (CutMade ∷ parts k.id) a) 0 }

-- a fact on each submission that a cut sends
pub each-sending : (P : Sending → Type 0) (parts : List ℕ → List Event) (ks : List Company)
    → AllByRecursion (λ k. AllByRecursion (λ a. is_sent_next (parts k.id) a ≡ true → P (sent_of parts k a)) (submissions (parts k.id))) ks
    → AllByRecursion P (sendings parts ks)
each-sending P parts [] h = tt
each-sending P parts (k ∷ ks) h =
    let next = is_sent_next (parts k.id) in
    let all = submissions (parts k.id) in
    each-append P (sendings_of parts k) (sendings parts ks)
    (each-map P (sent_of parts k) (filter next all) (each-filter (λ a. P (sent_of parts k a)) next all h.0))
    (each-sending P parts ks h.1)

-- a fact on the entries of each batch
pub each-sent_with : (P : SentEntry → Type 0) (sent : List SentEntry) (sendings : List Sending)
    → AllByRecursion P sent → AllByRecursion (λ b. AllByRecursion P (batch_entries b)) (batches sent sendings) → AllByRecursion P (with_sendings sent sendings)
each-sent_with P sent sendings before new =
    each-append P (reverse (flat_map batch_entries (batches sent sendings))) sent
    (each-reverse P (flat_map batch_entries (batches sent sendings)) (each-flat_map P batch_entries (batches sent sendings) new))
    before

-- a fact on each submission that is sent, of its batch
pub each-batches : (P : Sending → Type 0) (sent : List SentEntry) (sendings : List Sending) → AllByRecursion P sendings → AllByRecursion (λ (b : NumberedBatch). P b.sending) (batches sent sendings)
each-batches P sent sendings h =
    let ranges = ranges_of (map sent_sequence sent) (map plan_of sendings) in
    each-map (λ (b : NumberedBatch). P b.sending) batch_of (zip ranges sendings) (each-zip P ranges sendings h)

-- the entries of a batch are of its company
pub each-of_company : (P : List ℕ → Type 0) (b : NumberedBatch) → P b.sending.company.id → AllByRecursion (λ e. P e.company) (batch_entries b)
each-of_company P b h =
    each-map (λ (e : SentEntry). P e.company) (λ x. sent_entry b x.0 x.1) (enumerate_from 1 (entries_in b.sending))
    (each-all (λ _. P b.sending.company.id) (λ _. h) (enumerate_from 1 (entries_in b.sending)))

-- what holds of the entries before a message and of those of a cut holds after it
pub sent_after-keeps : (P : List SentEntry → Type 0) (ok : Bool) (m : Message) (sent : List SentEntry) (parts : List ℕ → List Event) (ks : List Company)
    → P sent → (ok ≡ true → m ≡ Cut → P (with_sendings sent (sendings parts ks))) → P (sent_entries_after ok m sent parts ks)
sent_after-keeps P true Cut sent parts ks before new = new refl refl
sent_after-keeps P false m sent parts ks before new = before
sent_after-keeps P true m sent parts ks before new = before
