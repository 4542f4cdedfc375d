use Rattle.std.proofs.Common.{sym}
use Rattle.bench_core.proofs.ChangeLemmas.{no_slice, same_kept}
use Rattle.bench_core.proofs.bench.Bench.ask.Goals as goal

pub returns : goal.returns
returns c =
    let other = no_slice c.args.query.now c.in_default.not-Slice in
    rw (← c.self.view_is) (record {
      reply = c.ask.ensures.reply;
      unchanged = c.ask.ensures.unchanged;
      reads = c.ask.ensures.reads;
      reads_tell = c.ask.ensures.reads_tell;
      loaded = c.ask.ensures.loaded;
      looks = rw (other.0 c.self.inside.volume.state _) c.ask.ensures.looks;
      kept = sym (same_kept c.ask.result (other.1 _));
      kept_slice = λ k is kept. absurd (c.in_default.not-Slice k is);
      memory = c.ask.ensures.memory;
    })
