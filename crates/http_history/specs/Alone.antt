-- The history over bytes of a desk that serves one company alone.
use Rattle.std.specs.Prelude.{ℕ, List, [], ◌∷◌, Option, Some, Ok}
use Rattle.desk_history.specs.declared.identity.Identity.{Identity}
use Rattle.desk_history.specs.Alone.{file_for}
use Rattle.desk_history.specs.Message.{Message, TakeFile}
use Rattle.desk_history.specs.Part as events
use Rattle.http_history.specs.History.{Origin, from_facts, Pair, calls_of, text}
use Rattle.http_history.specs.Part.{Event, core_events, events_at}

-- a message with its text, after these pairs
abbrev pub with_text : Identity → (key : List ℕ) → Origin → Option Message → List Pair → List Pair
with_text identity key origin means A = record { origin = origin; answer = text identity key A origin means; means = means } ∷ A

-- a file for each of these events, the newest first
abbrev pub with_files : Identity → (key : List ℕ) → (company : List ℕ) → List events.Event → List Pair → List Pair
with_files identity key c [] A = A
with_files identity key c (e ∷ es) A =
    let before = with_files identity key c es A in
    with_text identity key from_facts (Some (TakeFile (Ok (file_for identity c (calls_of identity before) e)))) before

-- a message that gave these events, or files in the place of a file
abbrev pub with_message : Identity → (key : List ℕ) → (company : List ℕ) → Origin → Option Message → List Event → List Pair → List Pair
with_message identity key c origin means [] A = A
with_message identity key c origin (Some (TakeFile file)) es A = with_files identity key c (core_events es) A
with_message identity key c origin means es A = with_text identity key origin means A

-- A new desk takes the messages that gave the company's events, in their order, and no others.
abbrev pub alone : Identity → (key : List ℕ) → (company : List ℕ) → List Pair → List Pair
alone identity key c [] = []
alone identity key c (x ∷ H) = with_message identity key c x.origin x.means (events_at identity H x c) (alone identity key c H)
