use Rattle.std.proofs.Common.{◌≡◌, ◌+◌, ◌*◌, List, ℕ, None, Some}
use Rattle.sample_codes.specs.Formats.{width}
use Rattle.frame_cut.specs.declared.file_head.Head.{Head}
use Rattle.trace_view.specs.Shown.{bytes_of, head_of}
use Rattle.trace_view.specs.Values.{samples_at}
use Rattle.bench_rules.specs.FilledSamples.{samples_refusal as refusal_of_samples}
use Rattle.bench_rules.proofs.LookLemmas.{if_err}
use Rattle.bench_rules.proofs.SeenLemmas.{seen_more, seen_none}
use Rattle.many_traces.proofs.ShownLemmas.{if_ok, on_ok, shown_as}
use Rattle.bench_rules.proofs.NoReadLemmas.{samples_free, some_free}
use Rattle.many_traces.proofs.filling.place_at.Goals as goal

pub returns-clause-seen : goal.returns-clause-seen
returns-clause-seen c =
    let seen = rw (c.in_ok-trace.was, c.in-Some.is) at c.look.follows.holds-at-none in
    seen_more c.args.overlay.now c.args.overlay.now c.look.follows.lender-at-none 0 (seen_none c.args.overlay.now) seen.looked seen.reads

pub returns-clause-none : goal.returns-clause-none
returns-clause-none c =
    let v = c.args.overlay.now.volume in
    let seen = rw (c.in_ok-trace.was, c.in-Some.is) at c.look.follows.holds-at-none in
    on_ok c.place_in.result (λ none sure. shown_as (λ (h : Head) (t : List ℕ). refusal_of_samples h c.args.first c.args.last t ≡ None) v c.args.p c.in-Some.trace (seen.trace sure) none) c.place_in.ensures.none

pub returns-clause-place : goal.returns-clause-place
returns-clause-place c =
    let v = c.args.overlay.now.volume in
    let seen = rw (c.in_ok-trace.was, c.in-Some.is) at c.look.follows.holds-at-none in
    if_ok c.place_in.result (λ place is sure. shown_as (λ (h : Head) (t : List ℕ). place ≡ samples_at h t + width h.format * c.args.first) v c.args.p c.in-Some.trace (seen.trace sure) is) c.place_in.ensures.place

pub returns-clause-refused : goal.returns-clause-refused
returns-clause-refused c =
    let v = c.args.overlay.now.volume in
    let seen = rw (c.in_ok-trace.was, c.in-Some.is) at c.look.follows.holds-at-none in
    if_err c.place_in.result (λ refusal is sure. shown_as (λ (h : Head) (t : List ℕ). refusal_of_samples h c.args.first c.args.last t ≡ Some refusal) v c.args.p c.in-Some.trace (seen.trace sure) is) c.place_in.ensures.refused

pub returns-clause-rule : goal.returns-clause-rule
returns-clause-rule c =
    let h = head_of c.in-Some.trace in
    let t = bytes_of c.in-Some.trace in
    if_err c.place_in.result (λ refusal is. some_free (refusal_of_samples h c.args.first c.args.last t) refusal is (samples_free h c.args.first c.args.last t)) c.place_in.ensures.refused
