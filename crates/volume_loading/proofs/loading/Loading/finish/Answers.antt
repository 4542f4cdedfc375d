use Rattle.std.proofs.Common.{◌≡◌, ◌∙◌, ℕ, List, length, take, drop, refl, sym, ap, subst, arith}
use Rattle.base_file.specs.HeldBytes.{IsInMemory}
use Rattle.frame_cut.specs.Layout.{pieces, volume_at}
use Rattle.frame_cut.specs.Volume.{Volume, bytes_of}
use Rattle.trace_store.specs.Stores.{payloads_of}
use Rattle.edit_overlay.specs.Held.{volume_with}
use Rattle.volume_loading.proofs.LoadingLemmas.{parts-loaded}
use Rattle.volume_loading.proofs.loading.Loading.finish.Goals as goal

pub new-requires-clause-ends : goal.new-requires-clause-ends
new-requires-clause-ends g c =
    let l = c.self.invariant in
    record { front = l.laid.front; whole = l.laid.whole; front_kept = omega (arith, l.laid.whole, l.front); back_kept = omega (arith, l.laid.whole, l.back) }

pub new-requires-clause-lends : goal.new-requires-clause-lends
new-requires-clause-lends g c =
    let inside : IsInMemory c.self.inside.store.loaded.standing = c.self.invariant.in_memory in
    record { passed = λ e. subst IsInMemory e inside; some = λ away. absurd (away inside) }

pub new-requires-clause-joined : goal.new-requires-clause-joined
new-requires-clause-joined g c =
    let l = c.self.inside in
    let file = l.store.loaded.bytes in
    let all : length (payloads_of l.store) ≡ length (pieces file l.extents.items) = rw (← c.self.view_is) at c.requires in
    let text : c.array_at-text.result.now ≡ take 3200 file = c.array_at-text.ensures ∙ ap (λ (s : List ℕ). take 3200 s) c.bytes-bytes.ensures in
    let bin : c.array_at-bin.result.now ≡ take 400 (drop 3200 file) = c.array_at-bin.ensures ∙ ap (λ (s : List ℕ). take 400 (drop 3200 s)) c.bytes-bytes.ensures in
    ap (λ (v : Volume). bytes_of v) (parts-loaded l c.array_at-text.result.now c.array_at-bin.result.now c.self.invariant all text bin) ∙ c.self.invariant.joined

pub returns-clause-overlay : goal.returns-clause-overlay
returns-clause-overlay g c =
    let l = c.self.inside in
    let file = l.store.loaded.bytes in
    let all : length (payloads_of l.store) ≡ length (pieces file l.extents.items) = rw (← c.self.view_is) at c.requires in
    let text : c.array_at-text.result.now ≡ take 3200 file = c.array_at-text.ensures ∙ ap (λ (s : List ℕ). take 3200 s) c.bytes-bytes.ensures in
    let bin : c.array_at-bin.result.now ≡ take 400 (drop 3200 file) = c.array_at-bin.ensures ∙ ap (λ (s : List ℕ). take 400 (drop 3200 s)) c.bytes-bytes.ensures in
    let parts : volume_with c.array_at-text.result.now c.array_at-bin.result.now l.tail l.store ≡ volume_at file l.store.head l.extents.items l.tail = parts-loaded l c.array_at-text.result.now c.array_at-bin.result.now c.self.invariant all text bin in
    c.new.ensures ∙ rw (parts, ← c.self.view_is) refl

pub returns-clause-bytes : goal.returns-clause-bytes
returns-clause-bytes g c =
    let l = c.self.inside in
    let file = l.store.loaded.bytes in
    let all : length (payloads_of l.store) ≡ length (pieces file l.extents.items) = rw (← c.self.view_is) at c.requires in
    let text : c.array_at-text.result.now ≡ take 3200 file = c.array_at-text.ensures ∙ ap (λ (s : List ℕ). take 3200 s) c.bytes-bytes.ensures in
    let bin : c.array_at-bin.result.now ≡ take 400 (drop 3200 file) = c.array_at-bin.ensures ∙ ap (λ (s : List ℕ). take 400 (drop 3200 s)) c.bytes-bytes.ensures in
    let parts : volume_with c.array_at-text.result.now c.array_at-bin.result.now l.tail l.store ≡ volume_at file l.store.head l.extents.items l.tail = parts-loaded l c.array_at-text.result.now c.array_at-bin.result.now c.self.invariant all text bin in
    rw c.new.ensures (sym (ap (λ (v : Volume). bytes_of v) parts ∙ c.self.invariant.joined))
