use Rattle.std.proofs.Common.{rules, ◌-◌, arith}
use Rattle.cli_commands.proofs.FeedingLemmas.{Feeds-all, Feeds-fault, Feeds-kept, Feeds-more, Feeds-nothing, MayHave-some, taken_fine, taken_last}
use Rattle.cli_commands.proofs.TakingLemmas.{at_bound, at_end, little_of, none_lost, rest_of}
use Rattle.cli_commands.proofs.file_feed.feed_all.Goals as goal

pub loop-left-init : goal.loop-left-init
loop-left-init g c = λ bytes h. Feeds-nothing _ _ bytes h

pub returns-in-Err-clause-fed : goal.returns-in-Err-clause-fed
returns-in-Err-clause-fed g c = λ bytes h. MayHave-some _

pub returns-in-Err-clause-taken : goal.returns-in-Err-clause-taken
returns-in-Err-clause-taken g c = taken_fine _ _ _ _ _ (Feeds-kept _ _ _ _ _ _ c.loop-left.invariant c.in-Err.ensures.bytes)

pub returns-then-count-eq0-clause-fed : goal.returns-then-count-eq0-clause-fed
returns-then-count-eq0-clause-fed g c =
    Feeds-all _ _ _ _ _ (Feeds-kept _ _ _ _ _ _ c.loop-left.invariant (none_lost _ _ _ _ c.in-Ok.ensures.bytes.0 c.if-count-eq0.true))
    (at_end _ _ (c.in-Ok.ensures.bytes.1 c.if-count-eq0.true (search rules)))

pub returns-then-count-eq0-clause-taken : goal.returns-then-count-eq0-clause-taken
returns-then-count-eq0-clause-taken g c =
    taken_fine _ _ _ _ _ (Feeds-kept _ _ _ _ _ _ c.loop-left.invariant (none_lost _ _ _ _ c.in-Ok.ensures.bytes.0 c.if-count-eq0.true))

pub returns-in-Err-feed-clause-fed : goal.returns-in-Err-feed-clause-fed
returns-in-Err-feed-clause-fed g c =
    Feeds-fault _ _ _ _ (c.loop-left.left - c.in-Ok.count) _ _ _ _ c.faults_stand.ensures c.loop-left.invariant (λ bytes h. (c.in-Err-feed.ensures.read bytes h).0)
    c.in-Ok.ensures.bytes.0 (rest_of _ _ _ c.in-Ok.ensures.few c.in-Ok.ensures.bound.0)

pub returns-in-Err-feed-clause-taken : goal.returns-in-Err-feed-clause-taken
returns-in-Err-feed-clause-taken g c =
    taken_last _ _ _ _ (c.loop-left.left - c.in-Ok.count) _ _ _ c.loop-left.invariant c.in-Ok.ensures.bytes.0
    (rest_of _ _ _ c.in-Ok.ensures.few c.in-Ok.ensures.bound.0) (little_of _ _ c.in-Ok.ensures.bound.0 (search rules))

pub loop-left-preserved : goal.loop-left-preserved
loop-left-preserved g c =
    Feeds-more _ _ _ _ (c.loop-left.left - c.in-Ok.count) _ _ _ _ c.loop-left.invariant (λ bytes h. (c.in_default.ensures.read bytes h).1)
    c.in-Ok.ensures.bytes.0 (rest_of _ _ _ c.in-Ok.ensures.few c.in-Ok.ensures.bound.0)

pub returns-clause-fed : goal.returns-clause-fed
returns-clause-fed g c = Feeds-all _ _ _ _ _ c.loop-left.invariant (at_bound _ _ (omega (arith, c.loop-left-test.false)))

pub returns-clause-taken : goal.returns-clause-taken
returns-clause-taken g c = taken_fine _ _ _ _ _ c.loop-left.invariant
