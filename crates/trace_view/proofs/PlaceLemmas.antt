-- The headers of a trace by their places.
use Rattle.std.proofs.Common.{◌≡◌, ℕ, ◌+◌, ◌-◌, ◌*◌, ◌<◌, ◌≤◌, List, slice_range, arith, refl, Some}
use Rattle.std.proofs.lemmas.Bool.{le-leb, lt-ltb}
use Rattle.frame_cut.specs.declared.file_head.Head.{Head}
use Rattle.frame_cut.specs.Frames.{extensions_of}
use Rattle.trace_view.specs.Values.{extension}

-- an extension that the trace has
pub extension_found : (h : Head) (t : List ℕ) (e : ℕ) (xs : List ℕ) → (e ≡ 0 → ⊥) → e ≤ extensions_of h t → xs ≡ slice_range t (240 * e) (240 * e + 240) → Some xs ≡ extension h t e
extension_found h t e xs some inside here =
    let above : 0 < e = omega arith in
    let size : 240 * e + 240 - 240 * e ≡ 240 = omega arith in
    rw (lt-ltb 0 e above, le-leb e (extensions_of h t) inside, here, size) refl
