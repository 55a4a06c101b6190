use Rattle.std.proofs.Common.{rules, sym, ◌∙◌, subst}
use Rattle.desk_http.specs.Keeping.{StandsIn}
use Rattle.cli_commands.specs.StoreRuns.{RanFrom}
use Rattle.cli_commands.proofs.SessionRuns.{broken_off_from}
use Rattle.cli_commands.proofs.store_session.answer_by_store.Goals as goal

pub returns : goal.returns
returns g c =
    let behind = λ (s : g.row.S.Denot). StandsIn g.S.Store s in
    let Ran = λ (was now : g.row.S.Denot). RanFrom (g.S.Store.is_clean now) (behind was) (behind now)
    g.R.Source c.args.reader.now c.session.new.reader g.W.Sink c.args.writer.now c.session.new.writer c.session.result in
    let ran : Ran c.new-desk.result.desk c.session.new.desk.desk = (c.session.ensures.left, c.session.ensures.ran) in
    let here : Ran c.args.store c.session.new.desk.desk = subst (λ s. Ran s c.session.new.desk.desk) (c.new-desk.ensures ∙ c.new-2.ensures) ran in
    let given : Ran c.args.store c.into_store.result = subst (λ s. Ran c.args.store s) (sym (c.into_store.ensures ∙ c.into_desk.ensures)) here in record {
      before = search rules;
      answered = λ fine. (c.session.result, c.status_of_session-status.ensures, given);
      failed = λ failed.
          broken_off_from g.R.Source _ _ g.W.Sink _ _ (g.S.Store.is_clean c.into_store.result) (behind c.args.store) (behind c.into_store.result) c.session.result
          (sym c.status_of_session-status.ensures ∙ failed) given;
    }
