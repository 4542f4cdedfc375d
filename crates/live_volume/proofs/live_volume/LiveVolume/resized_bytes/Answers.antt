use Rattle.std.proofs.Common.{◌≡◌, ◌∙◌, Bool, true, false, if◌then◌else◌, ap, ap₂, sym, subst, List, ℕ, Option, Some, None, refl, arith, rules, inr}
use Rattle.std.specs.Prelude.{is_err, nat_abs}
use Rattle.std.proofs.lemmas.Int.{to_z-of_z}
use Rattle.std.specs.Int.{w128}
use mir.Val.{SFits}
use Rattle.std.proofs.lemmas.Bool.{leb-true}
use Rattle.frame_cut.specs.declared.file_head.Head.{Head}
use Rattle.frame_cut.specs.Traces.{count_of}
use Rattle.frame_cut.specs.Volume.{Volume}
use Rattle.trace_view.specs.Shown.{bytes_of, head_of}
use Rattle.bench_rules.specs.declared.edit.Edit.TheVariants.{Resize}
use Rattle.bench_rules.specs.declared.refusal.Refusal.{Refusal}
use Rattle.bench_rules.specs.declared.refusal.Refusal.TheVariants.{DoesNotFit, Frame, OutOfMemory, TooLarge}
use Rattle.bench_rules.specs.Refused.{count_refusal, first_refusal}
use Rattle.bench_rules.specs.TraceEdits.{resized}
use Rattle.bench_rules.proofs.NoReadLemmas.{count_free, some_free}
use Rattle.bench_rules.proofs.ReadTellLemmas.{memory_tells, no_read_tells}
use Rattle.bench_rules.proofs.SetLemmas.{both}
use Rattle.bench_rules.proofs.WholeTraceLemmas.{length-without}
use Rattle.many_traces.specs.Formulas.{IsRefusalFor}
use Rattle.volume_records.proofs.SeenLemmas.{if_ok}
use Rattle.live_volume.specs.Held.{state_of}
use Rattle.live_volume.proofs.HeldLemmas.{if_err, held_again, looked_at, seen_once}
use Rattle.live_volume.proofs.RoomLemmas.{counts, count_told, may_replace}
use Rattle.live_volume.proofs.live_volume.LiveVolume.resized_bytes.Goals as goal

pub count_refusal-requires : goal.count_refusal-requires
count_refusal-requires c =
    let v : Volume = c.self.inside.overlay.volume in
    let there = rw c.in-Some.is at c.in_ok-trace.ensures.there in
    let shape = rw c.in-Some.is at c.in_ok-trace.ensures.shape in
    let range = both _ _ (there.0 refl) in
    let whole = length-without v c.args.p (leb-true 1 c.args.p range.0) (leb-true c.args.p (count_of v) range.1) in
    omega (arith, whole, shape.1, c.length-length.ensures)

pub returns-in-Some-count_refusal-clause-err : goal.returns-in-Some-count_refusal-clause-err
returns-in-Some-count_refusal-clause-err c =
    let fit : SFits w128 c.args.count = search rules in
    let s = state_of c.self.inside in
    let view = c.in-Some.trace in
    let there = rw c.in-Some.is at c.in_ok-trace.ensures.there in
    let seen = rw (c.in_ok-trace.was, c.in-Some.is) at c.look.follows.holds-at-none in
    let is : c.count_refusal.result ≡ count_refusal (head_of view) c.length-length.result s.limits.bytes (bytes_of view) c.args.count = rw (to_z-of_z w128 c.args.count fit, c.bytes-most.ensures) at c.count_refusal.ensures in
    rw (← c.self.view_is) (inr (λ sure.
    let first : first_refusal s (Resize c.args.p c.args.count) ≡ Some c.in-Some-count_refusal.refusal =
    sym (count_told s c.args.p view c.length-length.result c.args.count c.count_refusal.result (there.0 refl) (seen.trace sure) c.length-length.ensures is) ∙ c.in-Some-count_refusal.is in
    subst (λ (o : Option Refusal). IsRefusalFor c.in-Some-count_refusal.refusal o) (sym first) refl))

pub returns-in-Some-count_refusal-clause-seen : goal.returns-in-Some-count_refusal-clause-seen
returns-in-Some-count_refusal-clause-seen c =
    let there = rw c.in-Some.is at c.in_ok-trace.ensures.there in
    let seen = rw (c.in_ok-trace.was, c.in-Some.is) at c.look.follows.holds-at-none in
    rw (← c.self.view_is, there.0 refl) (looked_at c.self.inside c.look.follows.lender-at-none 1 (seen_once c.self.inside.overlay c.look.follows.lender-at-none seen.looked seen.reads))

pub overflow_cast-count : goal.overflow_cast-count
overflow_cast-count c =
    let fit : SFits w128 c.args.count = search rules in
    let view = c.in-Some.trace in
    let is : c.count_refusal.result ≡ count_refusal (head_of view) c.length-length.result c.bytes-most.result (bytes_of view) c.args.count = rw (to_z-of_z w128 c.args.count fit) at c.count_refusal.ensures in
    let k = counts (head_of view) (bytes_of view) c.length-length.result c.bytes-most.result c.args.count (sym is ∙ c.in_default-count_refusal.is) in
    rw (to_z-of_z w128 c.args.count fit, k.number) (tt, omega (arith, k.few))

pub invariant_of-self-2 : goal.invariant_of-self-2
invariant_of-self-2 c =
    let seen = rw (c.in_ok-trace.was, c.in-Some.is) at c.look.follows.holds-at-none in
    held_again c.self.inside c.look.follows.lender-at-none 1 (seen_once c.self.inside.overlay c.look.follows.lender-at-none seen.looked seen.reads) c.self.invariant

pub returns-clause-none : goal.returns-clause-none
returns-clause-none c =
    let fit : SFits w128 c.args.count = search rules in
    let s = state_of c.self.inside in
    let view = c.in-Some.trace in
    let there = rw c.in-Some.is at c.in_ok-trace.ensures.there in
    let seen = rw (c.in_ok-trace.was, c.in-Some.is) at c.look.follows.holds-at-none in
    let is : c.count_refusal.result ≡ count_refusal (head_of view) c.length-length.result s.limits.bytes (bytes_of view) c.args.count = rw (to_z-of_z w128 c.args.count fit, c.bytes-most.ensures) at c.count_refusal.ensures in
    rw (← c.self.view_is) (if_ok c.resized.result
    (λ bytes e sure. sym (count_told s c.args.p view c.length-length.result c.args.count c.count_refusal.result (there.0 refl) (seen.trace sure) c.length-length.ensures is) ∙ c.in_default-count_refusal.is) c.resized.ensures.ok)

pub returns-clause-bytes : goal.returns-clause-bytes
returns-clause-bytes c =
    let fit : SFits w128 c.args.count = search rules in
    let seen = rw (c.in_ok-trace.was, c.in-Some.is) at c.look.follows.holds-at-none in
    let made = rw (to_z-of_z w128 c.args.count fit) at c.resized.ensures.ok in
    rw (← c.self.view_is) (if_ok c.resized.result (λ bytes e sure. e ∙ ap₂ (λ (h : Head) (t : List ℕ). resized h t (nat_abs c.args.count)) (seen.trace sure).0 (seen.trace sure).1) made)

pub returns-clause-fits : goal.returns-clause-fits
returns-clause-fits c =
    let fit : SFits w128 c.args.count = search rules in
    let s = state_of c.self.inside in
    let view = c.in-Some.trace in
    let there = rw c.in-Some.is at c.in_ok-trace.ensures.there in
    let shape = rw c.in-Some.is at c.in_ok-trace.ensures.shape in
    let is : c.count_refusal.result ≡ count_refusal (head_of view) c.length-length.result s.limits.bytes (bytes_of view) c.args.count = rw (to_z-of_z w128 c.args.count fit, c.bytes-most.ensures) at c.count_refusal.ensures in
    let k = counts (head_of view) (bytes_of view) c.length-length.result s.limits.bytes c.args.count (sym is ∙ c.in_default-count_refusal.is) in
    let made = rw (to_z-of_z w128 c.args.count fit) at c.resized.ensures.ok in
    rw (← c.self.view_is) (if_ok c.resized.result (λ bytes e. may_replace s c.args.p view c.length-length.result c.args.count bytes.items (there.0 refl) shape c.length-length.ensures k e) made)

pub returns-clause-err : goal.returns-clause-err
returns-clause-err c =
    let fit : SFits w128 c.args.count = search rules in
    let s = state_of c.self.inside in
    let view = c.in-Some.trace in
    let there = rw c.in-Some.is at c.in_ok-trace.ensures.there in
    let seen = rw (c.in_ok-trace.was, c.in-Some.is) at c.look.follows.holds-at-none in
    let is : c.count_refusal.result ≡ count_refusal (head_of view) c.length-length.result s.limits.bytes (bytes_of view) c.args.count = rw (to_z-of_z w128 c.args.count fit, c.bytes-most.ensures) at c.count_refusal.ensures in
    rw (← c.self.view_is) (if_err c.resized.result (λ refusal e. inr (λ sure.
    let none : first_refusal s (Resize c.args.p c.args.count) ≡ None =
    sym (count_told s c.args.p view c.length-length.result c.args.count c.count_refusal.result (there.0 refl) (seen.trace sure) c.length-length.ensures is) ∙ c.in_default-count_refusal.is in
    subst (λ (o : Option Refusal). IsRefusalFor refusal o) (sym none) e)) c.resized.ensures.err)

pub returns-clause-seen : goal.returns-clause-seen
returns-clause-seen c =
    let there = rw c.in-Some.is at c.in_ok-trace.ensures.there in
    let seen = rw (c.in_ok-trace.was, c.in-Some.is) at c.look.follows.holds-at-none in
    rw (← c.self.view_is, there.0 refl) (looked_at c.self.inside c.look.follows.lender-at-none 1 (seen_once c.self.inside.overlay c.look.follows.lender-at-none seen.looked seen.reads))

-- three checks, of which each refuses for a reason of its own
others : (a b c : Bool) → (if a then Some DoesNotFit else if b then Some Frame else if c then Some TooLarge else None) ≡ Some OutOfMemory → ⊥
others true b c e = cc
others false true c e = cc
others false false true e = cc
others false false false e = cc

pub returns-in-Some-count_refusal-clause-memory : goal.returns-in-Some-count_refusal-clause-memory
returns-in-Some-count_refusal-clause-memory c = record {
  never_falls = omega arith;
  rose = λ e.
      let same : c.in-Some-count_refusal.refusal ≡ OutOfMemory = cc in
      absurd (others _ _ _ (sym c.count_refusal.ensures ∙ c.in-Some-count_refusal.is ∙ ap Some same));
}

pub returns-clause-memory : goal.returns-clause-memory
returns-clause-memory c = record { never_falls = c.resized.ensures.memory.never_falls; rose = λ e. c.resized.ensures.memory.rose (ap is_err e) }

pub returns-in-Some-count_refusal-clause-reads_tell : goal.returns-in-Some-count_refusal-clause-reads_tell
returns-in-Some-count_refusal-clause-reads_tell c =
    let fit : SFits w128 c.args.count = search rules in
    let view = c.in-Some.trace in
    let refusal = c.in-Some-count_refusal.refusal in
    let is : c.count_refusal.result ≡ count_refusal (head_of view) c.length-length.result c.bytes-most.result (bytes_of view) c.args.count = rw (to_z-of_z w128 c.args.count fit) at c.count_refusal.ensures in
    let told : count_refusal (head_of view) c.length-length.result c.bytes-most.result (bytes_of view) c.args.count ≡ Some refusal = sym is ∙ c.in-Some-count_refusal.is in
    no_read_tells c.args.self.now.reads c.look.follows.lender-at-none.reads refusal (some_free _ refusal told (count_free (head_of view) c.length-length.result c.bytes-most.result (bytes_of view) c.args.count))

pub returns-clause-reads_tell : goal.returns-clause-reads_tell
returns-clause-reads_tell c =
    if_err c.resized.result (λ refusal e. memory_tells c.args.self.now.reads c.look.follows.lender-at-none.reads refusal e) c.resized.ensures.err
