use Rattle.std.proofs.Common.{◌≡◌, ◌+◌, ◌-◌, ◌*◌, ◌<◌, ◌≤◌, List, ℕ, length, true, false, sym, arith, rules}
use Rattle.std.specs.Prelude.{nat_abs}
use Rattle.std.proofs.lemmas.Int.{to_z-of_z}
use Rattle.std.specs.Int.{w128}
use mir.Val.{SFits}
use Rattle.sample_codes.specs.Formats.{width}
use Rattle.frame_cut.specs.declared.file_head.Head.{Head}
use Rattle.trace_view.specs.Shown.{bytes_of, head_of}
use Rattle.trace_view.specs.Values.{samples_at}
use Rattle.bench_rules.specs.Refused.{is_sample_count}
use Rattle.bench_rules.proofs.ResizeLemmas.{too_large, not_too_large}
use Rattle.bench_rules.proofs.resize.count_refusal.Goals as goal
use Rattle.bench_rules.proofs.resize.count_refusal.Goals.{then-rest-limit-via-then-rest-limit, then-rest-limit-via-else-rest-limit+then-new-limit}

pub returns-then-rest-limit : goal.returns-then-rest-limit
returns-then-rest-limit c =
    let h : Head = head_of c.args.trace.now in
    let t : List ℕ = bytes_of c.args.trace.now in
    let fits : SFits w128 c.args.m = search rules in
    let same = to_z-of_z w128 c.args.m fits in
    let counts : is_sample_count h c.args.m ≡ true = rw (sym c.head-head.ensures, sym same) (sym c.if-not-is_sample_count.ensures) in
    let loose : h.fixed ≡ false = rw (sym c.head-head.ensures) c.if-head.false in
    let new : c.sample_place-new.result ≡ samples_at h t + width h.format * nat_abs c.args.m = rw same at c.sample_place-new.ensures in
    let above : c.args.limit < c.args.file - length t + c.sample_place-new.result =
    elim c.then-rest-limit.branch [
      | then-rest-limit-via-then-rest-limit w ↦ omega arith
      | then-rest-limit-via-else-rest-limit+then-new-limit w ↦ omega arith
    ] in
    sym (too_large h t c.args.file c.args.limit c.sample_place-new.result c.args.m c.args.trace.now.whole counts loose new above)

pub returns : goal.returns
returns c =
    let h : Head = head_of c.args.trace.now in
    let t : List ℕ = bytes_of c.args.trace.now in
    let fits : SFits w128 c.args.m = search rules in
    let same = to_z-of_z w128 c.args.m fits in
    let counts : is_sample_count h c.args.m ≡ true = rw (sym c.head-head.ensures, sym same) (sym c.if-not-is_sample_count.ensures) in
    let loose : h.fixed ≡ false = rw (sym c.head-head.ensures) c.if-head.false in
    let new : c.sample_place-new.result ≡ samples_at h t + width h.format * nat_abs c.args.m = rw same at c.sample_place-new.ensures in
    let within : c.args.file - length t + c.sample_place-new.result ≤ c.args.limit = omega arith in
    sym (not_too_large h t c.args.file c.args.limit c.sample_place-new.result c.args.m c.args.trace.now.whole counts loose new within)
