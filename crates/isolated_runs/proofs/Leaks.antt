-- That the law of runs says something.
use Rattle.std.proofs.Common.{◌≡◌, ◌≢◌, ℕ, List, [], ◌∷◌, true, false, refl, sym, ap, ◌∙◌}
use Rattle.std.specs.Prelude.{Some, bytes_eq, codes}
use Rattle.http_message.specs.Message.{MessageValue, asked}
use Rattle.http_message.specs.declared.message.Version.TheVariants.{Http11}
use Rattle.http_session.specs.Exchanges.{Exchange}
use Rattle.http_history.specs.History.{from_message, text}
use Rattle.http_history.specs.Laws.{OneMeaning}
use Rattle.http_history.specs.Texts.{is_success}
use Rattle.http_history.specs.Verdict.{verdict_on}
use Rattle.http_history.specs.Versions.{Present}
use Rattle.desk_http.specs.Keeping.{KeptHistory, Takes, book_after, pending_after, with_taken, writes}
use Rattle.isolation.specs.Heard.{company_of}
use Rattle.isolation.specs.World.{nothing}
use Rattle.isolation.specs.Others.{OthersLeave}
use Rattle.isolated_runs.specs.Runs.{part_of_run}
use Rattle.isolated_runs.specs.Leaks.{RunsExist, LeakIsRefuted}

pub runs_exist : OneMeaning → RunsExist Takes
runs_exist one b [] = ([], b, refl, refl, refl)
runs_exist one b (v ∷ vs) =
    let h = b.history in
    let means = (one.some (verdict_on (book_after h) v)).0 in
    let bytes = text h.identity h.key h.pairs (from_message v) means in
    let next : KeptHistory = record {
      history = with_taken Present h v bytes means;
      pending = pending_after (writes (book_after h) means) b.pending;
    } in
    let more = runs_exist one next vs in (
      record { message = v; answer = Some bytes } ∷ more.0,
      more.1,
      (
        next,
        record { answered = record { means = means; read = (one.some (verdict_on (book_after h) v)).1; said = refl; more = refl }; pending = refl },
        more.2,
      ),
      ap (λ (l : List MessageValue). v ∷ l) more.3,
      more.4,
    )

-- what a company asks
unfoldable pub asks : (target : List ℕ) → MessageValue
asks target = asked (record { method = codes "GET"; target = target; version = Http11; fields = []; body = []; is_last = false })

pub on_path : company_of (asks (codes "/c/MILL01/returns")) ≡ Some (codes "MILL01")
unfolding asks
on_path = refl

pub on_other_path : company_of (asks (codes "/c/BAKE01/returns")) ≡ Some (codes "BAKE01")
unfolding asks
on_other_path = refl

pub apart : codes "BAKE01" ≢ codes "MILL01"
apart is = let no : true ≡ false = ap (bytes_eq (codes "BAKE01")) is in cc

pub leak_is_refuted : OthersLeave → LeakIsRefuted
leak_is_refuted others law =
    let asked_alone = law.own [] [] 0 1 [] (asks (codes "/c/MILL01/returns")) [] (codes "MILL01") refl (1, (refl, refl), refl) on_path in
    let other : Exchange = record { message = asks (codes "/c/BAKE01/returns"); answer = Some [] } in
    let asked_after = law.own [] [] 0 2 (other ∷ []) (asks (codes "/c/MILL01/returns")) (0 ∷ []) (codes "MILL01") refl (1, (refl, refl), (2, (refl, refl), refl)) on_path in
    let same : part_of_run law.reading [] [] (other ∷ []) (codes "MILL01") ≡ [] =
    others.messages law.reading [] [] nothing (is_success []) (asks (codes "/c/BAKE01/returns")) (codes "MILL01") (codes "BAKE01") on_other_path apart in
    let both : (let bytes : List ℕ = 0 ∷ [] in bytes) ≡ [] = asked_after ∙ ap (law.reply (asks (codes "/c/MILL01/returns"))) same ∙ sym asked_alone in
    cc
