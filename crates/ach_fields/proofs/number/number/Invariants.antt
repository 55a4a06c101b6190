use Rattle.std.proofs.Common.{◌≡◌, ◌<◌, ◌^◌, take}
use Rattle.ach_fields.specs.Digits.{number}
use Rattle.ach_fields.proofs.number.number.Given as goal

abbrev pub invariant-loop-digit : goal.invariant-loop-digit
invariant-loop-digit l = record { value : l.number ≡ number (take l.digit-index l.digits); bound : l.number < 10 ^ l.digit-index }
