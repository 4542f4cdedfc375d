use Rattle.std.proofs.Common.{◌≡◌, take}
use Rattle.volume_tests.proofs.volumes.push_each.Given as goal

-- so many were pushed, to the same volume
abbrev pub invariant-loop-payload : goal.invariant-loop-payload
invariant-loop-payload g l = record {
  volume : l.loading.volume ≡ l.fn.loading.volume;
  payloads : l.loading.payloads ≡ take l.payload-index l.fn.payloads;
}
