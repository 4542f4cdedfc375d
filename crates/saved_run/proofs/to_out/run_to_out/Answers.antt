use Rattle.std.proofs.Common.{false, option_map}
use Rattle.std.specs.Io.Buffered.{writer_contents}
use Rattle.safe_save.specs.Saving.{beside_bytes}
use Rattle.line_texts.specs.Devices.{device_of}
use Rattle.saved_run.proofs.HeldLemmas.{held}
use Rattle.saved_run.proofs.to_out.run_to_out.Goals as goal

pub returns-clause-run : goal.returns-clause-run
returns-clause-run g c = record {
  out = device_of (writer_contents (option_map beside_bytes)) c.run-end.new.out;
  runs = rw c.new-out.ensures at c.run-end.ensures.run;
  ends = record {
    fits = c.end_out-folder.ensures.fits;
    stands = rw c.into_inner.ensures at c.end_out-folder.ensures.stands;
    cause = rw c.into_inner.ensures at c.end_out-folder.ensures.cause;
    any_moment = rw c.into_inner.ensures at c.end_out-folder.ensures.any_moment;
  };
}

pub returns-clause-saved : goal.returns-clause-saved
returns-clause-saved g c = λ empty done. held false c.args.options c.args.mode _ _ _ _ _ c.run-end.result c.end_out-folder.result.1 _ empty done (returns-clause-run g c)
