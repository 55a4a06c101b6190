use Rattle.std.proofs.Common.{refl}
use Rattle.ach_files.specs.SoFar.{file_so_far}
use Rattle.ach_files.specs.Layout.{layout}
use Rattle.ach_files.specs.FirstFault.{first_fault}
use Rattle.ach_files.proofs.recogniser.Recogniser.new.Goals as goal

pub returns : goal.returns
unfolding layout file_so_far first_fault
returns c = record {
  has = record {
    taken = refl;
    layout = record {
      place = refl;
      records = record { count = refl; stage = refl; facts = c.new-2.ensures.items; digest = c.new.ensures };
    };
  };
  fine = refl;
}
