use Rattle.std.proofs.Common.{◌≡◌, ◌+◌, ◌<◌, ◌++◌, [], ℕ, List, length, get_or, take, drop, refl, ap, ◌∙◌, arith, length-append, Option}
use Rattle.std.proofs.lemmas.List.{take_all}
use Rattle.std.proofs.lemmas.Result.{err_from_is_err_and}
use Rattle.std.specs.List.{concat}
use Rattle.edit_overlay.specs.Saving.{Progress, progress}
use Rattle.trace_store.specs.Stores.{traces_of}
use Rattle.trace_store.proofs.FallLemmas.{IsReread-refl, IsReread-trans}
use Rattle.edit_overlay.proofs.SavingLemmas.{comes_on, comes_over, nothing, read_refused, refused_at, same_come, stops_over, sure_then, trace_reread, traces_next, traces_split}
use Rattle.edit_overlay.proofs.StandingLemmas.{lends_still}
use Rattle.edit_overlay.proofs.writing_out.write_traces.Goals as goal

pub loop-at-init : goal.loop-at-init
loop-at-init g c = record {
  same = IsReread-refl c.args.store.now;
  failures = refl;
  inside = c.requires.inside;
  count = omega arith;
  comes = λ _. nothing _ _;
}

pub write_trace-requires-clause-last : goal.write_trace-requires-clause-last
write_trace-requires-clause-last g c =
    let s = c.args.store.now in
    omega (arith, c.count-at-end.ensures.traces, ap (λ (ts : List (List ℕ)). length ts) c.loop-at.invariant.same.traces)

pub write_trace-requires-clause-lends : goal.write_trace-requires-clause-lends
write_trace-requires-clause-lends g c = lends_still c.args.store.now.loaded c.loop-at.store.loaded c.loop-at.invariant.same.loaded c.requires.lends

pub write_trace-requires-clause-bounded : goal.write_trace-requires-clause-bounded
write_trace-requires-clause-bounded g c = rw c.loop-at.invariant.same.loaded.bytes c.requires.bounded

pub write_trace-requires-clause-inside : goal.write_trace-requires-clause-inside
write_trace-requires-clause-inside g c = rw c.loop-at.invariant.same.loaded.bytes c.loop-at.invariant.inside

pub write_trace-requires-clause-small : goal.write_trace-requires-clause-small
write_trace-requires-clause-small g c =
    let s = c.args.store.now in
    let i = c.loop-at.invariant in
    let ts : List (List ℕ) = traces_of s in
    let at : ℕ = c.loop-at.at in
    let there : at < length ts = omega (arith, c.count-at-end.ensures.traces) in
    omega (
      arith,
      c.requires.small,
      i.count,
      ap (λ (x : List ℕ). length x) (trace_reread s c.loop-at.store at i.same),
      ap (λ (x : List ℕ). length x) (traces_split ts at there),
      length-append (concat (take at ts) ++ get_or ts at []) (concat (drop (at + 1) ts)),
      length-append (concat (take at ts)) (get_or ts at []),
    )

pub loop-at-preserved : goal.loop-at-preserved
loop-at-preserved g c =
    let s = c.args.store.now in
    let file : List ℕ = s.loaded.bytes in
    let i = c.loop-at.invariant in
    let e = c.in_ok-write_trace.ensures in
    let ts : List (List ℕ) = traces_of s in
    let at : ℕ = c.loop-at.at in
    let there : at < length ts = omega (arith, c.count-at-end.ensures.traces) in
    let w_0 : Option (List ℕ) = g.W.Write.contents c.args.writer.now.inner in
    let w_1 : Option (List ℕ) = g.W.Write.contents c.loop-at.writer.inner in
    let w_2 : Option (List ℕ) = g.W.Write.contents c.write_trace.new.writer.inner in
    let from : Progress = progress file c.args.waiting.now in
    let mid : Progress = progress file c.loop-at.waiting in
    let to : Progress = progress file c.write_trace.new.waiting in
    record {
      same = IsReread-trans s c.loop-at.store c.write_trace.new.store i.same e.same;
      failures = e.failures ∙ i.failures;
      inside = rw i.same.loaded.bytes at e.inside;
      count = omega (
        arith,
        i.count,
        e.count,
        ap (λ (x : List ℕ). length x) (trace_reread s c.loop-at.store at i.same),
        ap (λ (x : List ℕ). length x) (traces_next ts at there),
        length-append (concat (take at ts)) (get_or ts at []),
      );
      comes = λ sure. same_come w_0 w_2 from to (concat (take at ts) ++ get_or ts at []) (concat (take (at + 1) ts)) (traces_next ts at there)
          (comes_on w_0 w_1 w_2 from mid to (concat (take at ts)) (get_or ts at []) (i.comes (sure_then c.loop-at.store c.write_trace.new.store e.same sure))
          (comes_over w_1 w_2 file c.loop-at.store.loaded.bytes c.loop-at.waiting c.write_trace.new.waiting _ (get_or ts at []) i.same.loaded.bytes (trace_reread s c.loop-at.store at i.same) (e.saved sure)));
    }

pub returns-in_err-write_trace-clause-same : goal.returns-in_err-write_trace-clause-same
returns-in_err-write_trace-clause-same g c = IsReread-trans c.args.store.now c.loop-at.store c.write_trace.new.store c.loop-at.invariant.same c.in_err-write_trace.ensures.same

pub returns-in_err-write_trace-clause-inside : goal.returns-in_err-write_trace-clause-inside
returns-in_err-write_trace-clause-inside g c = rw c.loop-at.invariant.same.loaded.bytes at c.in_err-write_trace.ensures.inside

pub returns-in_err-write_trace-clause-saved : goal.returns-in_err-write_trace-clause-saved
returns-in_err-write_trace-clause-saved g c =
    let s = c.args.store.now in
    let file : List ℕ = s.loaded.bytes in
    let i = c.loop-at.invariant in
    let e = c.in_err-write_trace.ensures in
    let ts : List (List ℕ) = traces_of s in
    let at : ℕ = c.loop-at.at in
    let there : at < length ts = omega (arith, c.count-at-end.ensures.traces) in
    let w_0 : Option (List ℕ) = g.W.Write.contents c.args.writer.now.inner in
    let w_1 : Option (List ℕ) = g.W.Write.contents c.loop-at.writer.inner in
    let w_2 : Option (List ℕ) = g.W.Write.contents c.write_trace.new.writer.inner in
    let p = err_from_is_err_and c.from_residual.result c.from_residual.ensures.1 in
    λ sure.
    refused_at c.from_residual.result c.in_err-write_trace.field-0.0 w_0 w_1 w_2 (progress file c.args.waiting.now) (progress file c.loop-at.waiting) (progress file c.write_trace.new.waiting) (concat (take at ts)) (get_or ts at []) (concat (drop (at + 1) ts)) (concat ts) (rw p.2 at p.1)
    (traces_split ts at there) (i.comes (sure_then c.loop-at.store c.write_trace.new.store e.same sure))
    (stops_over w_1 w_2 file c.loop-at.store.loaded.bytes c.loop-at.waiting _ (get_or ts at []) c.in_err-write_trace.field-0.0 i.same.loaded.bytes (trace_reread s c.loop-at.store at i.same) (e.saved sure))

pub returns-in_err-write_trace-clause-read : goal.returns-in_err-write_trace-clause-read
returns-in_err-write_trace-clause-read g c =
    let p = err_from_is_err_and c.from_residual.result c.from_residual.ensures.1 in
    read_refused c.from_residual.result c.in_err-write_trace.field-0.0 c.args.store.now.loaded c.loop-at.store.loaded c.write_trace.new.store.loaded (rw p.2 at p.1) c.loop-at.invariant.same.loaded c.in_err-write_trace.ensures.read

pub returns-clause-count : goal.returns-clause-count
returns-clause-count g c =
    let ts : List (List ℕ) = traces_of c.args.store.now in
    let all : take c.loop-at.at ts ≡ ts = take_all c.loop-at.at ts (omega (arith, c.count-at-end.ensures.traces)) in
    omega (arith, c.loop-at.invariant.count, ap (λ (xs : List (List ℕ)). length (concat xs)) all)

pub returns-clause-saved : goal.returns-clause-saved
returns-clause-saved g c =
    let ts : List (List ℕ) = traces_of c.args.store.now in
    let all : take c.loop-at.at ts ≡ ts = take_all c.loop-at.at ts (omega (arith, c.count-at-end.ensures.traces)) in
    λ sure. same_come _ _ (progress c.args.store.now.loaded.bytes c.args.waiting.now) (progress c.args.store.now.loaded.bytes c.loop-at.waiting) (concat (take c.loop-at.at ts)) (concat ts) (ap (λ (xs : List (List ℕ)). concat xs) all) (c.loop-at.invariant.comes sure)
