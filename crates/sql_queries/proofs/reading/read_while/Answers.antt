use Rattle.std.proofs.Common.{◌≡◌, false, [], ◌∷◌, option_map, refl, subst, ◌∙◌, rules, arith}
use Rattle.sqlite.specs.Given.{Advances}
use Rattle.sqlite.specs.Held.{state}
use Rattle.sqlite.specs.State.{State, HasCleanDisk, Survives}
use Rattle.sqlite.specs.Values.{bound}
use Rattle.sqlite.proofs.StateLemmas.{survives_then}
use Rattle.sqlite_keyed.proofs.ListLemmas.{all-append}
use Rattle.sql_statements.proofs.Queries.{fails_same, stays_rolled_back}
use Rattle.sql_statements.proofs.SelectTexts.{select_returns_none}
use Rattle.sql_queries.proofs.FirstRows.{begun_select, select_survives, goes_on, while_ended, while_stopped}
use Rattle.sql_query_laws.specs.Shows.{ReadsWhile}
use Rattle.sql_queries.proofs.reading.read_while.Goals as goal

survives_both : (a b c : State) → Survives a b (λ _. ⊥) → Survives b c (λ _. ⊥) → Survives a c (λ _. ⊥)
survives_both a b c = survives_then a b c _ _ _ (λ _ db made. made) (λ _ db made. made)

pub returns-in_err-rows-clause-stays : goal.returns-in_err-rows-clause-stays
returns-in_err-rows-clause-stays g c clean =
    let held = rw c.in_err-rows.was at c.query.follows.holds-at-none in
    stays_rolled_back (state g.S.Store c.args.conn.now) (state g.S.Store c.query.follows.lender-at-none) (search rules)
    (fails_same c.args.sql.now (bound c.args.params.now) _ _ c.in_err-rows.field-0.0 (select_returns_none c.args.sql.now c.requires) (held.err clean))

pub returns-in_err-rows-clause-survives : goal.returns-in_err-rows-clause-survives
returns-in_err-rows-clause-survives g c =
    let held = rw c.in_err-rows.was at c.query.follows.holds-at-none in
    select_survives c.args.sql.now (bound c.args.params.now) (state g.S.Store c.args.conn.now) (state g.S.Store c.query.follows.lender-at-none) (select_returns_none c.args.sql.now c.requires) held.survives

pub rows-init : goal.rows-init
rows-init g c =
    let bare = select_returns_none c.args.sql.now c.requires in
    let made = c.in_ok-rows.ensures in
    record {
      same_reference = refl;
      survives = select_survives c.args.sql.now (bound c.args.params.now) (state g.S.Store c.args.conn.now) (state g.S.Store c.in_ok-rows.rows.conn.now) bare made.survives;
      pass = rw c.new-values.ensures.items tt;
      fit = rw c.new-values.ensures.items tt;
      read = λ clean. rw c.new-values.ensures.items (begun_select g.S.Store c.args.sql.now (bound c.args.params.now) c.args.conn.now c.in_ok-rows.rows.conn.now bare (made.begun clean));
    }

pub returns-in_default-clause-answer : goal.returns-in_default-clause-answer
returns-in_default-clause-answer g c clean =
    let mid = c.rows.rows.conn.now in
    let new = c.next_of.new.rows.conn.now in
    let late : HasCleanDisk (state g.S.Store new) = search rules in
    let was = c.rows.invariant.read (omega (arith, c.next_of.ensures.survives.clean, late)) in
    let more = subst (λ o. Advances g.S.Store mid new (option_map g.T.FromRow.stored_row o)) c.in_default.is (c.in_ok-value.ensures.advances late) in
    let read = while_ended g.S.Store g.T.FromRow.stored_row c.args.sql.now (bound c.args.params.now) (state g.S.Store c.args.conn.now) mid new _ was (c.in_ok-value.ensures.same late) (g.P.RowTest.passes c.args.test.now) c.rows.invariant.pass (select_returns_none c.args.sql.now c.requires) more in
    search rules

pub returns-then-not-goes_on-clause-answer : goal.returns-then-not-goes_on-clause-answer
returns-then-not-goes_on-clause-answer g c clean =
    let mid = c.rows.rows.conn.now in
    let new = c.next_of.new.rows.conn.now in
    let late : HasCleanDisk (state g.S.Store new) = search rules in
    let was = c.rows.invariant.read (omega (arith, c.next_of.ensures.survives.clean, late)) in
    let more = subst (λ o. Advances g.S.Store mid new (option_map g.T.FromRow.stored_row o)) c.in-Some.is (c.in_ok-value.ensures.advances late) in
    let fails : g.P.RowTest.passes c.args.test.now c.in-Some.value ≡ false = search rules in
    let read = while_stopped g.S.Store g.T.FromRow.stored_row c.args.sql.now (bound c.args.params.now) (state g.S.Store c.args.conn.now) mid new _ was (c.in_ok-value.ensures.same late) (g.P.RowTest.passes c.args.test.now) c.rows.invariant.pass c.in-Some.value fails more in
    let same = (c.next_of.ensures.same_reference ∙ c.rows.invariant.same_reference) ∙ c.in_ok-rows.ensures.same_reference in
    subst (λ s. ReadsWhile c.args.sql.now (bound c.args.params.now) g.T.FromRow.stored_row (g.P.RowTest.passes c.args.test.now) (state g.S.Store c.args.conn.now) s c.rows.values.items) (search rules) read

pub returns-then-not-goes_on-clause-survives : goal.returns-then-not-goes_on-clause-survives
returns-then-not-goes_on-clause-survives g c =
    let kept = survives_both (state g.S.Store c.args.conn.now) (state g.S.Store c.rows.rows.conn.now) (state g.S.Store c.next_of.new.rows.conn.now) c.rows.invariant.survives c.next_of.ensures.survives in
    search rules

pub returns-in_err-push-clause-survives : goal.returns-in_err-push-clause-survives
returns-in_err-push-clause-survives g c =
    let kept = survives_both (state g.S.Store c.args.conn.now) (state g.S.Store c.rows.rows.conn.now) (state g.S.Store c.next_of.new.rows.conn.now) c.rows.invariant.survives c.next_of.ensures.survives in
    search rules

pub rows-preserved : goal.rows-preserved
rows-preserved g c =
    let mid = c.rows.rows.conn.now in
    let new = c.next_of.new.rows.conn.now in
    let fits = c.in_ok-value.ensures.fits in
    record {
      same_reference = c.next_of.ensures.same_reference ∙ c.rows.invariant.same_reference;
      survives = survives_both (state g.S.Store c.args.conn.now) (state g.S.Store mid) (state g.S.Store new) c.rows.invariant.survives c.next_of.ensures.survives;
      fit = rw c.in_ok-push.ensures.items (all-append _ c.rows.values.items (c.in-Some.value ∷ []) c.rows.invariant.fit (rw c.in-Some.is at fits, tt));
      pass = rw c.in_ok-push.ensures.items (all-append _ c.rows.values.items (c.in-Some.value ∷ []) c.rows.invariant.pass (search rules, tt));
      read = λ clean.
          let was = c.rows.invariant.read (omega (arith, c.next_of.ensures.survives.clean, clean)) in
          let more = subst (λ o. Advances g.S.Store mid new (option_map g.T.FromRow.stored_row o)) c.in-Some.is (c.in_ok-value.ensures.advances clean) in
          rw c.in_ok-push.ensures.items (goes_on g.S.Store g.T.FromRow.stored_row c.args.sql.now (bound c.args.params.now) (state g.S.Store c.args.conn.now) mid new _ was (c.in_ok-value.ensures.same clean) c.in-Some.value more);
    }
