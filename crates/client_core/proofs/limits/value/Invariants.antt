use Rattle.std.proofs.Common.{◌≡◌, ◌<◌, ◌^◌, take}
use Rattle.std.specs.Str.Parse.{digits_value}
use Rattle.client_core.proofs.limits.value.Given as goal

-- the digits so far write the value, which has no more of them
abbrev pub invariant-loop-digit : goal.invariant-loop-digit
invariant-loop-digit l = record { reads : l.value ≡ digits_value 10 (take l.digit-index l.digits); below : l.value < 10 ^ l.digit-index }
