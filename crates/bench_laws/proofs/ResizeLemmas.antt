-- Another number of samples of a trace leaves its first samples and all else as they were.
use Rattle.std.proofs.Common.{◌≡◌, ℕ, ℤ, ◌-◌, ◌<◌, List, [], length, None, refl, sym, ap, subst, ◌∙◌, arith}
use Rattle.std.specs.Prelude.{nat_abs}
use Rattle.std.proofs.lemmas.List.{get_or-set_same}
use Rattle.frame_cut.specs.Cuts.{IsCut}
use Rattle.frame_cut.specs.Traces.{trace_at, with_trace}
use Rattle.frame_cut.specs.Volume.{Volume, bytes_of}
use Rattle.frame_cut.proofs.OneCutLemmas.{at_most_one_cut}
use Rattle.trace_view.specs.Values.{sample_bytes, samples_of}
use Rattle.bench_rules.specs.declared.edit.Edit.TheVariants.{Resize}
use Rattle.bench_rules.specs.Refused.{first_refusal}
use Rattle.bench_rules.specs.State.{State}
use Rattle.bench_rules.specs.TraceEdits.{bytes_after_resize, resized}
use Rattle.bench_rules.proofs.ResizeLemmas.{resize_accepted, resize_done}
use Rattle.bench_rules.proofs.SetLemmas.{whole_trace}
use Rattle.bench_laws.specs.EditLaws.{LeavesOthers}
use Rattle.bench_laws.specs.NumberLaws.{ResizeKeepsBytes, ResizeKeepsSamples, ResizeLeavesTheRest}
use Rattle.bench_laws.proofs.ReadsSetLemmas.{leaves}
use Rattle.bench_laws.proofs.ResizedSampleLemmas.{sample_bytes-resized, samples_of-resized}

-- the volume with m samples in trace p
abbrev pub with_resized : Volume → ℕ → ℕ → Volume
with_resized v p m = with_trace v p (resized v.head (trace_at v p) m)

-- it is the volume that is read from the new bytes
is_resized : (s : State) (p : ℕ) (m : ℤ) (v : Volume) → IsCut (bytes_of s.volume) s.reading s.limits s.volume → first_refusal s (Resize p m) ≡ None
    → IsCut (bytes_after_resize s.volume p (nat_abs m)) s.reading s.limits v → v ≡ with_resized s.volume p (nat_abs m)
is_resized s p m v cut none after =
    let w : Volume = with_resized s.volume p (nat_abs m) in
    at_most_one_cut (bytes_after_resize s.volume p (nat_abs m)) s.reading s.limits v w after (resize_done s p m w _ cut none refl refl).volume

pub resize_keeps_bytes : ResizeKeepsBytes
resize_keeps_bytes s p m v cut none after =
    let a = resize_accepted s p m none in
    let old : Volume = s.volume in
    let n : ℕ = nat_abs m in
    let t : List ℕ = trace_at old p in
    let there : p - 1 < length old.traces = omega (arith, a.place.first, a.place.last) in
    ap (λ (w : Volume). sample_bytes w.head (trace_at w p)) (is_resized s p m v cut none after)
    ∙ ap (sample_bytes old.head) (get_or-set_same old.traces (p - 1) (resized old.head t n) [] there)
    ∙ sample_bytes-resized old.head n t (whole_trace s p cut a.place.first a.place.last) a.can

pub resize_keeps_samples : ResizeKeepsSamples
resize_keeps_samples s p m v f reads cut none after =
    let a = resize_accepted s p m none in
    let old : Volume = s.volume in
    let n : ℕ = nat_abs m in
    let t : List ℕ = trace_at old p in
    let there : p - 1 < length old.traces = omega (arith, a.place.first, a.place.last) in
    ap (λ (w : Volume). samples_of w.head (trace_at w p)) (is_resized s p m v cut none after)
    ∙ ap (samples_of old.head) (get_or-set_same old.traces (p - 1) (resized old.head t n) [] there)
    ∙ samples_of-resized old.head f n t reads (whole_trace s p cut a.place.first a.place.last) a.can

pub resize_leaves_the_rest : ResizeLeavesTheRest
resize_leaves_the_rest s p m v cut none after =
    let a = resize_accepted s p m none in
    subst (λ (w : Volume). LeavesOthers s.volume w p) (sym (is_resized s p m v cut none after))
    (leaves s.volume p (resized s.volume.head (trace_at s.volume p) (nat_abs m)) a.place.first)
