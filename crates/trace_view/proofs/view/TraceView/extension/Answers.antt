use Rattle.std.proofs.Common.{◌≡◌, ◌+◌, ◌*◌, ◌≤◌, ℕ, ap, ◌∙◌, arith, slice_range}
use Rattle.frame_cut.specs.Frames.{extensions_of}
use Rattle.trace_view.specs.Shown.{bytes_of, head_of}
use Rattle.trace_view.proofs.PlaceLemmas.{extension_found}
use Rattle.trace_view.proofs.view.TraceView.extension.Goals as goal

pub returns : goal.returns
returns c =
    let v = c.args.self.now in
    let e = c.args.extension in
    let inside : e ≤ extensions_of (head_of v) (bytes_of v) = c.has_header.ensures.0 c.if-not-has_header.false in
    let place : 240 * c.from-from.result ≡ 240 * e = omega arith in
    extension_found (head_of v) (bytes_of v) e c.new.result c.if-extension-eq0.false inside
    (c.new.ensures ∙ ap (λ (n : ℕ). slice_range (bytes_of v) n (n + 240)) place)
