-- Worked values: runs whose part the checker computes, and instances of the relations over runs that hold and that do not.
use Rattle.std.proofs.Common.{◌≡◌, ℕ, List, [], ◌∷◌, Bool, true, false, ◌&&◌, inl, refl, sym, ap}
use Rattle.std.specs.Prelude.{if◌then◌else◌, Option, Some, None, codes, bytes_eq}
use Rattle.std.proofs.lemmas.Slice.Eq.{bytes_eq-Decides}
use Rattle.sha2.specs.Sha256.{sha256}
use Rattle.desk_history.specs.declared.identity.Identity.{Identity}
use Rattle.desk_history.specs.Part.{CutMade}
use Rattle.desk_history.specs.Request.{Returns}
use Rattle.http_message.specs.declared.message.Version.TheVariants.{Http11}
use Rattle.http_message.specs.Message.{MessageValue, bad_head, asked}
use Rattle.http_session.specs.Exchanges.{Exchange, Follows}
use Rattle.http_history.specs.Texts.{is_success}
use Rattle.desk_http.specs.Keeping.{DeskHistory, new_history, settled}
use Rattle.isolation.specs.World.{Cut, Step, Does, nothing, told}
use Rattle.isolation.specs.Heard.{Reading}
use Rattle.isolation.specs.Others.{OthersLeave}
use Rattle.isolated_runs.specs.Runs.{Begins, TwoRuns, part_of_run}
use Rattle.isolated_runs.specs.Leaks.{begins_with_none, counts}
use Rattle.isolated_runs.proofs.Leaks.{asks, on_path, on_other_path, apart}

-- ---- the part of a run

-- any request reads the returns, any command cuts, and nothing is due
abbrev reading : Reading
reading = record { request = λ r. Some Returns; command = λ r. Some Cut; due = λ P. [] }

abbrev cuts : (key : List ℕ) → MessageValue
cuts key = asked (record { method = codes "POST"; target = codes "/ops/cut"; version = Http11; fields = (codes "X-Desk-Key", key) ∷ []; body = []; is_last = false })

same : (bs : List ℕ) → bytes_eq bs bs ≡ true
same bs = (bytes_eq-Decides bs bs).1 refl

an_accepted_cut : (key c : List ℕ) → part_of_run reading [] (sha256 key) (record { message = cuts key; answer = Some (codes "HTTP/1.1 200 OK") } ∷ []) c ≡ CutMade ∷ []
unfolding is_success
an_accepted_cut key c = ap (λ (b : Bool). let step : Option Step = if b && true then Some (Does Cut) else None in (told [] (λ P. []) nothing step).parts c) (same (sha256 key))

a_refused_cut : (key c : List ℕ) → part_of_run reading [] (sha256 key) (record { message = cuts key; answer = Some (codes "HTTP/1.1 409 Conflict") } ∷ []) c ≡ []
unfolding is_success
a_refused_cut key c = ap (λ (b : Bool). let step : Option Step = if b && false then Some (Does Cut) else None in (told [] (λ P. []) nothing step).parts c) (same (sha256 key))

a_cut_without_an_answer : (key c : List ℕ) → part_of_run reading [] (sha256 key) (record { message = cuts key; answer = None } ∷ []) c ≡ []
a_cut_without_an_answer key c = refl

-- ---- relations

a_new_desk_begins : (identity : Identity) (key : List ℕ) → Begins identity.odfi key (settled (new_history identity key))
a_new_desk_begins identity key = record { bank = refl; operator = refl; empty = refl; none_pending = refl }

-- a desk that owes an answer does not
not_begun : (odfi key : List ℕ) (h : DeskHistory) → Begins odfi key (record { history = h; pending = bad_head ∷ [] }) → ⊥
not_begun odfi key h begins = let no = begins.none_pending in cc

one_answer_follows : (v : MessageValue) → Follows counts 0 (record { message = v; answer = Some [] } ∷ []) 1
one_answer_follows v = (1, (refl, refl), refl)

nothing_does_not_count : Follows counts 0 [] 1 → ⊥
nothing_does_not_count follows = cc

-- two runs with equal parts, and a desk that answers them differently
two_runs_leak : OthersLeave → TwoRuns begins_with_none counts → ⊥
unfolding asks
two_runs_leak others law =
    let v = asks (codes "/c/MILL01/returns") in
    let other : Exchange = record { message = asks (codes "/c/BAKE01/returns"); answer = Some [] } in
    let parts : part_of_run law.reading [] [] [] (codes "MILL01") ≡ part_of_run law.reading [] [] (other ∷ []) (codes "MILL01") =
    sym (others.messages law.reading [] [] nothing (is_success []) (asks (codes "/c/BAKE01/returns")) (codes "MILL01") (codes "BAKE01") on_other_path apart) in
    let both : [] ≡ (let bytes : List ℕ = 0 ∷ [] in bytes) =
    law.alike [] [] [] [] 0 1 0 2 [] (other ∷ []) v [] (0 ∷ []) (codes "MILL01") refl (1, (refl, refl), refl) refl (1, (refl, refl), (2, (refl, refl), refl)) on_path (inl parts) in
    cc
