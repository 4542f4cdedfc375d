use Rattle.std.proofs.Common.{◌∙◌, ◌≡◌, ◌+◌, ◌&&◌, ◌++◌, ◌∷◌, [], sym, ap, ℕ, List, arith, rules, subst, length, None, Some, true, false, inr}
use Rattle.frame_cut.specs.declared.extent.Extent.{Extent}
use Rattle.frame_cut.specs.Walk.{AreWhole, left_at}
use Rattle.frame_cut.specs.Cuts.{is_torn, trace_refusal}
use Rattle.frame_cut.specs.declared.load_fault.LoadFault.TheVariants.{OutOfMemory}
use Rattle.frame_cut.proofs.MemoryLemmas.{trace_memory}
use Rattle.frame_cut.proofs.FrontLemmas.{left_begins}
use Rattle.frame_cut.proofs.LaidLemmas.{ends_torn, whole-push, step-le}
use Rattle.frame_cut.proofs.walk.walk.Goals as goal

pub traces-preserved : goal.traces-preserved
traces-preserved c =
    let items : c.push.new.self.items ≡ c.traces.extents.items ++ record { start = c.traces.at; length = c.in-Ok-next_length.length } ∷ [] = rw c.in-Ok-told_back.ensures.ok at c.push.ensures.items in
    let told = c.in-Ok-next_length.ensures.whole (left_at c.args.bytes.now c.args.head.now c.traces.at) (left_begins c.args.bytes.now c.args.head.now c.traces.at) in
    let number : c.len.result ≡ length c.traces.extents.items = omega (arith, c.len.ensures) in
    let passed : trace_refusal c.args.head.now c.args.limits (length c.traces.extents.items + 1) (left_at c.args.bytes.now c.args.head.now c.traces.at) ≡ None =
    ap (λ (n : ℕ). trace_refusal c.args.head.now c.args.limits (n + 1) (left_at c.args.bytes.now c.args.head.now c.traces.at)) (sym number) ∙ told.0 in
    let step = whole-push c.args.bytes.now c.args.head.now c.args.limits c.traces.extents.items c.traces.at c.in-Ok-next_length.length c.traces.invariant.0 passed told.1 in
    let le = step-le c.args.bytes.now c.args.head.now c.args.limits (length c.traces.extents.items + 1) c.traces.at c.in-Ok-next_length.length c.traces.invariant.1 passed told.1 in
    let whole : AreWhole c.args.bytes.now c.args.head.now c.args.limits c.push.new.self.items (c.traces.at + c.in-Ok-next_length.length) =
    subst (λ (es : List Extent). AreWhole c.args.bytes.now c.args.head.now c.args.limits es (c.traces.at + c.in-Ok-next_length.length)) (sym items) step in
    (whole, le.0, c.traces.invariant.2, c.traces.invariant.3, grind arith)

-- what is left is less than a trace, which the reading keeps
pub returns-in-Err-clause-ends : goal.returns-in-Err-clause-ends
returns-in-Err-clause-ends c =
    let left : List ℕ = left_at c.args.bytes.now c.args.head.now c.traces.at in
    let refused : trace_refusal c.args.head.now c.args.limits (c.len.result + 1) left ≡ Some c.in-Err.fault = c.in-Err.ensures.refused left (left_begins c.args.bytes.now c.args.head.now c.traces.at) in
    let told : c.keeps.result ≡ (c.args.reading.tail && is_torn c.args.head.now left) = c.keeps.ensures c.args.head.now c.args.limits (c.len.result + 1) left refused in
    let kept : c.keeps.result ≡ true = c.if-keeps.true in
    ends_torn c.args.bytes.now c.args.reading c.args.limits c.args.head.now c.traces.extents.items c.traces.at c.traces.invariant.0 c.traces.invariant.1 (sym told ∙ kept)

-- or a trace is refused
pub returns-in-Err-2-clause-stops : goal.returns-in-Err-2-clause-stops
returns-in-Err-2-clause-stops c =
    let left : List ℕ = left_at c.args.bytes.now c.args.head.now c.traces.at in
    let refused : trace_refusal c.args.head.now c.args.limits (c.len.result + 1) left ≡ Some c.in-Err.fault = c.in-Err.ensures.refused left (left_begins c.args.bytes.now c.args.head.now c.traces.at) in
    let number : c.len.result ≡ length c.traces.extents.items = omega (arith, c.len.ensures) in
    let told : c.keeps.result ≡ (c.args.reading.tail && is_torn c.args.head.now left) = c.keeps.ensures c.args.head.now c.args.limits (c.len.result + 1) left refused in
    let unkept : c.keeps.result ≡ false = c.if-keeps.false in
    inr (
      c.traces.extents.items,
      c.traces.at,
      record {
        whole = c.traces.invariant.0;
        some = omega (arith, c.traces-test.true, c.traces.invariant.2);
        unkept = sym told ∙ unkept;
        refused = ap (λ (n : ℕ). trace_refusal c.args.head.now c.args.limits (n + 1) left) (sym number) ∙ refused;
      },
    )

pub returns-in-Err-2-clause-memory : goal.returns-in-Err-2-clause-memory
returns-in-Err-2-clause-memory c =
    let left : List ℕ = left_at c.args.bytes.now c.args.head.now c.traces.at in
    let refused : trace_refusal c.args.head.now c.args.limits (c.len.result + 1) left ≡ Some c.in-Err.fault = c.in-Err.ensures.refused left (left_begins c.args.bytes.now c.args.head.now c.traces.at) in
    record {
      never_falls = omega arith;
      rose = λ p.
          let memory : c.in-Err.fault ≡ OutOfMemory = cc in
          absurd (trace_memory c.args.head.now c.args.limits (c.len.result + 1) left (refused ∙ ap Some memory));
    }
