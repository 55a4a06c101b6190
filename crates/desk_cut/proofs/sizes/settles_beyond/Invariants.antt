use Rattle.std.proofs.Common.{◌≡◌, drop}
use Rattle.desk_cut.specs.Sizes.{any_beyond, sent_sizes}
use Rattle.desk_cut.proofs.sizes.settles_beyond.Given as goal

-- what the rest tells, all tell
abbrev pub invariant-loop-one : goal.invariant-loop-one
invariant-loop-one l = any_beyond (sent_sizes l.holidays l.day (drop l.one-index l.sizes)) ≡ any_beyond (sent_sizes l.holidays l.day l.sizes)
