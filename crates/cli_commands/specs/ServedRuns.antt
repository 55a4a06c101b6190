-- The promises of a command that serves on a port: what was bound, how many connections were served, and what was printed.
-- `n` has the facts of a network's listeners, `p` those of the writer; the others are those of `http_session.specs.Serving`.
use Rattle.std.specs.Prelude.{◌≡◌, ◌⊎◌, ℕ, Bool, true, ◌*◌, List, [], ◌++◌, codes, Result, Ok, Err}
use Rattle.std.specs.Duration.{as_nanos}
use Rattle.std.specs.Fmt.{decimal}
use Rattle.std.specs.declared.time.Duration.{Duration}
use Rattle.io_retries.specs.Written.{IsCutOff, IsWritten, IsWrittenOrCutOff}
use Rattle.io_retries.specs.declared.sink.Sink as sink
use Rattle.io_retries.specs.declared.source.Source as source
use Rattle.desk_store.specs.declared.store.Store as store
use Rattle.http_session.specs.Exchanges.{Exchange, StandsAfter}
use Rattle.http_session.specs.Serving.{ServesAll, all_messages}
use Rattle.http_session.specs.declared.connection.Connection as connection
use Rattle.http_session.specs.declared.listener.Listener as listener
use Rattle.http_session.specs.declared.network.Network as network
use Rattle.http_session.specs.declared.serving.ServeFault.{ServeFault}
use Rattle.http_session.specs.declared.serving.ServeFault.TheVariants.{Accept}
use Rattle.desk_http.specs.Keeping.{StandsIn, Takes}
use Rattle.cli_words.specs.declared.serve_options.ServeOptions.{ServeOptions}
use Rattle.cli_commands.specs.Printing.{unavailable, with_line_feed, SaysUnavailable}
use Rattle.cli_commands.specs.declared.status.Status.{Status}
use Rattle.cli_commands.specs.declared.status.Status.TheVariants.{Done, Refused, Failed}

-- where it listens
abbrev pub listening_text : (port : ℕ) → List ℕ
listening_text port = codes "listening on 127.0.0.1:" ++ decimal port

abbrev pub listening_answer : (port : ℕ) → Bool × List ℕ
listening_answer port = with_line_feed (true, listening_text port)

module _ {L S : Type 0} (l : listener.Ghosts L S) (c : connection.Ghosts S) (r : source.Ghosts S) (w : sink.Ghosts S)
    {P : Type 0} (p : sink.Ghosts P) (options : ServeOptions) (Stands : List Exchange → Type 0) where
  -- The number of connections in the options was served, with their patience, or fewer until one could not be accepted. The
  -- answerer represents all messages of these sessions.
  pub record ServesAsTold (old new : L) (result : Result (Unit {0}) ServeFault) : Type 0 where
    pub patience : Duration
    pub sessions : List (List Exchange)
    pub waits : as_nanos patience ≡ options.patience * 1000000000
    pub serves : ServesAll l c r w patience options.connections old new result sessions
    pub stands : Stands (all_messages sessions)

  -- How a bound port was served, by the status. The line with its address was printed first; if a write of it failed, no
  -- connection was accepted.
  abbrev pub TellsServed : (line : List ℕ) → (old new : L) → (was printed : P) → Status → Type 0
  TellsServed line old new was printed Done = IsWritten line p was printed × ServesAsTold old new (Ok tt)
  TellsServed line old new was printed Refused = ⊥
  TellsServed line old new was printed Failed =
      (IsCutOff line p was printed × (new ≡ old) × Stands [])
      ⊎ (IsWrittenOrCutOff (line ++ unavailable) p was printed × ((served : ℕ) × ServesAsTold old new (Err (Accept served))))

module _ {N L S : Type 0} (n : network.Ghosts N L S) (l : listener.Ghosts L S) (c : connection.Ghosts S)
    (r : source.Ghosts S) (w : sink.Ghosts S) {P : Type 0} (p : sink.Ghosts P)
    (options : ServeOptions) (Stands : List Exchange → Type 0) where
  -- the port of the options was bound, served so, and given back as that left it
  pub record ServesPort (old new : N) (was printed : P) (status : Status) : Type 0 where
    pub mid : N
    pub bound : L
    pub left : L
    pub binds : n.binds old options.port bound mid
    pub told : TellsServed l c r w p options Stands (listening_answer options.port).1 bound left was printed status
    pub unbinds : n.unbinds mid left new

  -- That was so; or the port could not be had or memory was refused before, and nothing was bound or served.
  abbrev pub TellsPort : (old new : N) → (was printed : P) → Status → Type 0
  TellsPort old new was printed status =
      ServesPort old new was printed status
      ⊎ ((status ≡ Failed) × SaysUnavailable p was printed × ((new ≡ old) ⊎ n.cannot_bind old options.port new) × Stands [])

-- If the returned store is clean, it represents each history that it represented before, with these messages. Whatever a crash
-- then leaves keeps its book, or its book with one message more that was not answered since it last wrote.
abbrev pub IsServedBy : {S : Type 0} → (g : store.Ghosts S) → (store back : S) → List Exchange → Type 0
IsServedBy g store back exchanges =
    StandsAfter Takes (g.is_clean back) (StandsIn g store) (StandsIn g back) exchanges
