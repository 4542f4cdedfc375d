use Rattle.std.proofs.Common.{[], refl}
use Rattle.trace_seq.proofs.thinning.settle.Goals as goal

pub loop-k-init : goal.loop-k-init
loop-k-init c = record {
  settled = record {
    front = [];
    empty = [];
    rest = c.args.chunks.now;
    parts = refl;
    kept_is = refl;
    passed_is = refl;
    filled = tt;
    thick = tt;
    none = tt;
    roomy = c.requires.roomy;
  };
  same = record { ids = refl; long = refl };
}
