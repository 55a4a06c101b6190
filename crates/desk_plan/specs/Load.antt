-- The load of a file: the sums over its batches.
use Rattle.std.specs.Prelude.{◌+◌, Bool, ◌&&◌, nat_le, if◌then◌else◌, List, length, sum_by, Option, Some, None}
use Rattle.ach_fields.specs.Cents.{most_cents}
use Rattle.desk_plan.specs.declared.batch.Batch.{Batch}
use Rattle.desk_plan.specs.declared.load.Load.{Load}
use Rattle.desk_plan.specs.Files.{most_batches, most_records}

abbrev pub load : List Batch → Load
load run = record {
  debits = sum_by (λ b. b.debits) run;
  credits = sum_by (λ b. b.credits) run;
  batches = length run;
  records = sum_by (λ b. b.records) run;
}

-- with one batch more
abbrev pub plus : Load → Batch → Load
plus l b = record { debits = l.debits + b.debits; credits = l.credits + b.credits; batches = l.batches + 1; records = l.records + b.records }

-- whether a file may hold so much
abbrev pub is_within : Load → Bool
is_within l = nat_le l.debits most_cents && nat_le l.credits most_cents && nat_le l.batches most_batches && nat_le l.records most_records

-- this load, if a file may hold it
abbrev pub if_within : Load → Option Load
if_within l = if is_within l then Some l else None
