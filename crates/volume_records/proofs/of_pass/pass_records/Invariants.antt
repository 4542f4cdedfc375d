use Rattle.std.proofs.Common.{◌≡◌, ◌≤◌, ◌-◌, length}
use Rattle.edit_overlay.specs.CountedVolume.{RisesAtMost}
use Rattle.volume_loading.specs.PassedFile.{HasReadOn}
use Rattle.volume_records.specs.OfPass.{HasRecords, IsSameFile}
use Rattle.volume_records.proofs.of_pass.pass_records.Given as goal

-- the traces so far have their records, at a look each
abbrev pub invariant-turns : goal.invariant-turns
invariant-turns l = record {
  records : HasRecords l.fn.fields.pairs l.passing;
  on : HasReadOn l.fn.passing.read l.passing.read;
  same : IsSameFile l.fn.passing l.passing;
  looks : RisesAtMost l.fn.passing.looks l.passing.looks (length l.passing.traces);
  unfailed : l.passing.failures ≡ l.fn.passing.failures;
  memory : l.initial.room ≤ l.room;
}

abbrev pub decreases-turns : goal.decreases-turns
decreases-turns l = l.passing.size - l.passing.at
