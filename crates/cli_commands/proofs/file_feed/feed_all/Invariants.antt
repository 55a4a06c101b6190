use Rattle.cli_commands.proofs.FeedingLemmas.{Feeds}
use Rattle.cli_commands.proofs.file_feed.feed_all.Given as goal

abbrev pub invariant-loop-left : goal.invariant-loop-left
invariant-loop-left g l =
    Feeds (g.R.Source.remaining l.initial.input) (g.R.Source.remaining l.input) l.left l.initial.reader l.reader

abbrev pub decreases-loop-left : goal.decreases-loop-left
decreases-loop-left g l = l.left
