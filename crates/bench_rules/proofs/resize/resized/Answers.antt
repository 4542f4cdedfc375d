use Rattle.std.proofs.Common.{◌≡◌, ◌∙◌, ℕ, List, ◌++◌, length, take, drop, replicate, ap, sym, arith, length-append}
use Rattle.std.proofs.lemmas.List.{take_at, length-take, length-drop, length-replicate}
use Rattle.frame_cut.specs.declared.file_head.Head.{Head}
use Rattle.trace_view.specs.Shown.{bytes_of, head_of}
use Rattle.bench_rules.specs.TraceEdits.{with_count, cut_or_filled, resized}
use Rattle.bench_rules.proofs.ResizingLemmas.{kept_and_zeros}
use Rattle.bench_rules.proofs.resize.resized.Goals as goal

pub returns-clause-ok : goal.returns-clause-ok
returns-clause-ok c =
    let h : Head = head_of c.args.trace.now in
    let t : List ℕ = bytes_of c.args.trace.now in
    let len : ℕ = c.sample_place-length.result in
    let kept : ℕ = c.min-kept.result in
    let all : List ℕ = c.as_mut_slice-all.result.now in
    let new : List ℕ = c.write_count.new.trace in
    let zeros : all ≡ replicate len 0 = c.as_mut_slice-all.ensures.value ∙ c.in_ok-bytes.ensures.ok in
    let size : length all ≡ len = ap (λ (s : List ℕ). length s) zeros ∙ length-replicate len 0 in
    let taken : length (take kept all) ≡ kept = omega (arith, length-take kept all, c.min-kept.ensures) in
    let front : c.read.new.out ≡ take kept t = c.read.ensures ∙ ap (λ (n : ℕ). take n t) taken in
    let made : c.read.new.out ++ drop kept all ≡ cut_or_filled h c.args.m t =
    ap (λ (s : List ℕ). s ++ drop kept all) front
    ∙ ap (λ (s : List ℕ). take kept t ++ drop kept s) zeros
    ∙ kept_and_zeros h c.args.m t len kept c.args.trace.now.whole c.sample_place-length.ensures (rw (sym c.length.ensures) c.min-kept.ensures) in
    let written : new ≡ resized h t c.args.m =
    c.write_count.ensures
    ∙ ap (λ (g : Head). with_count g c.args.m (c.read.new.out ++ drop kept all)) c.head-head.ensures
    ∙ ap (λ (s : List ℕ). with_count h c.args.m s) made in
    let whole : length new ≡ c.in_ok-bytes.bytes.len =
    omega (arith, c.write_count.auto.trace, c.read.auto.out, length-append c.read.new.out (drop kept all), length-take kept all, length-drop kept all, c.as_mut_slice-all.ensures.len, ap (λ (s : List ℕ). length s) c.as_mut_slice-all.ensures.value, c.in_ok-bytes.bytes.ok.0) in
    take_at new (drop (length new) c.in_ok-bytes.bytes.items) c.in_ok-bytes.bytes.len whole ∙ written
