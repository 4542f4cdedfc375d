use Rattle.std.proofs.Common.{◌∙◌, length, sym, ap}
use Rattle.trace_store.specs.Then.{place_then, runs_then}
use Rattle.trace_store.proofs.FetchLemmas.{length-with_laid, place-there, then-at, then-may}
use Rattle.trace_store.proofs.store.TraceStore.shown_then.Goals as goal

pub returns-clause-length : goal.returns-clause-length
returns-clause-length g c =
    let s = c.args.self.now in
    let prepared = c.args.prepared.now in
    let there = place-there s c.args.p c.requires.first c.requires.last prepared c.requires.ready in
    let may = then-may s c.args.p c.requires.first c.requires.last prepared c.requires.ready in
    let at = then-at s c.args.p c.requires.first c.requires.last prepared c.requires.ready in
    let size = length-with_laid s (place_then prepared c.args.p) there.0 there.1 (runs_then prepared c.args.p) may in
    c.shown_with.ensures.length ∙ rw c.place.ensures (sym (ap length at ∙ size))

pub returns-clause-bytes : goal.returns-clause-bytes
returns-clause-bytes g c =
    let s = c.args.self.now in
    let prepared = c.args.prepared.now in
    let at = then-at s c.args.p c.requires.first c.requires.last prepared c.requires.ready in
    λ sure. c.shown_with.ensures.bytes sure ∙ rw (c.place.ensures, c.runs.ensures) (sym at)
