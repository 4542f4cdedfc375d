use Rattle.std.proofs.Common.{◌≡◌, ◌∙◌, Bool, true, false, Some, None, if◌then◌else◌, ap, sym}
use Rattle.bench_rules.specs.declared.refusal.Refusal.TheVariants.{DoesNotFit, Frame, NoPlace, OutOfMemory}
use Rattle.bench_rules.proofs.NoReadLemmas.{set_bin_free, some_free}
use Rattle.bench_rules.proofs.ReadTellLemmas.{no_read_tells}
use Rattle.live_volume.proofs.live_volume.LiveVolume.set_bin.Goals as goal

-- three checks, of which each refuses for a reason of its own
others : (a b c : Bool) → (if a then Some NoPlace else if b then Some DoesNotFit else if c then Some Frame else None) ≡ Some OutOfMemory → ⊥
others true b c e = cc
others false true c e = cc
others false false true e = cc
others false false false e = cc

pub returns-in-Some-set_bin_refusal-clause-other : goal.returns-in-Some-set_bin_refusal-clause-other
returns-in-Some-set_bin_refusal-clause-other c = λ e. others _ _ _ (sym c.set_bin_refusal.ensures ∙ c.in-Some-set_bin_refusal.is ∙ ap Some e)

pub returns-in-Some-set_bin_refusal-clause-reads_tell : goal.returns-in-Some-set_bin_refusal-clause-reads_tell
returns-in-Some-set_bin_refusal-clause-reads_tell c =
    let refusal = c.in-Some-set_bin_refusal.refusal in
    let reads = c.args.self.now.reads in
    no_read_tells reads reads refusal (some_free _ refusal (sym c.set_bin_refusal.ensures ∙ c.in-Some-set_bin_refusal.is) (set_bin_free (Some c.in-Some.place) _))
