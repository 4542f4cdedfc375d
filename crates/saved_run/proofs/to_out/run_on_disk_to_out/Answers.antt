use Rattle.std.proofs.Common.{true, option_map}
use Rattle.std.specs.Io.Buffered.{writer_contents}
use Rattle.safe_save.specs.Saving.{beside_bytes}
use Rattle.line_texts.specs.Devices.{device_of}
use Rattle.saved_run.proofs.HeldLemmas.{held, on_ok}
use Rattle.saved_run.proofs.to_out.run_on_disk_to_out.Goals as goal

pub returns-clause-run : goal.returns-clause-run
returns-clause-run g c = on_ok c.run_on_disk-run.result.volume _ _ (λ volume runs agreed. record {
  out = device_of (writer_contents (option_map beside_bytes)) c.run_on_disk-run.new.out;
  runs = rw c.new-out.ensures at (runs agreed);
  ends = record {
    fits = c.end_out-folder.ensures.fits;
    stands = rw c.into_inner.ensures at c.end_out-folder.ensures.stands;
    cause = rw c.into_inner.ensures at c.end_out-folder.ensures.cause;
    any_moment = rw c.into_inner.ensures at c.end_out-folder.ensures.any_moment;
  };
}) c.run_on_disk-run.ensures.run

pub returns-clause-saved : goal.returns-clause-saved
returns-clause-saved g c =
    on_ok c.run_on_disk-run.result.volume _ _ (λ volume ran agreed empty done.
    held true c.args.options c.args.mode _ _ _ _ _ c.run_on_disk-run.result.end c.end_out-folder.result.1 _ empty done (ran agreed)) (returns-clause-run g c)
