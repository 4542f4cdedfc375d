-- A file that is being loaded.
use Rattle.std.proofs.Common.{◌≡◌, ℕ, ◌+◌, ◌-◌, ◌<◌, List, [], length, take, drop, get_or, refl, sym, ap, subst, ◌∙◌, arith}
use Rattle.std.proofs.lemmas.List.{length-map, take_all}
use Rattle.base_file.specs.HeldBytes.{InMemory, IsInMemory}
use Rattle.frame_cut.specs.declared.extent.Extent.{Extent}
use Rattle.frame_cut.specs.declared.file_head.Head.{Head}
use Rattle.frame_cut.specs.declared.limits.Limits.{Limits}
use Rattle.frame_cut.specs.declared.reading.Reading.{Reading}
use Rattle.frame_cut.specs.Cuts.{IsCut}
use Rattle.frame_cut.specs.Layout.{bytes_at, pieces, volume_at, AreTracesOf}
use Rattle.frame_cut.specs.Traces.{trace_at}
use Rattle.frame_cut.specs.Volume.{Volume, bytes_of}
use Rattle.trace_store.specs.declared.store.TraceStore.{TraceStore}
use Rattle.trace_store.specs.Slots.{bytes_under}
use Rattle.trace_store.specs.Stores.{payloads_of, traces_of}
use Rattle.trace_store.proofs.PayloadLemmas.{payloads-counted}
use Rattle.edit_overlay.specs.Held.{volume_with}
use Rattle.volume_loading.specs.HeldLoading.{IsLoading}
use Rattle.volume_loading.specs.declared.loading.Loading.TheInside.{Inside}
use Rattle.edit_overlay.proofs.PieceLemmas.{all_inside, all_whole, get_or-pieces}

-- a file that was cut, of which no trace has a payload yet
pub just_cut : {T : Type 0} (l : Inside T) (file : List ℕ) (reading : Reading) (limits : Limits) (h : Head) (es : List Extent) (n : ℕ) → l.store.loaded.standing ≡ InMemory → l.store.loaded.front ≡ length file → l.store.loaded.back ≡ length file → IsCut file reading limits (volume_at file h es n) → AreTracesOf file h es n
    → limits.traces < 4294967296 → l.store.loaded.bytes ≡ file → l.store.head ≡ h → l.extents.items ≡ es → l.tail ≡ n → traces_of l.store ≡ [] → IsLoading l
just_cut l file reading limits h es n standing front back cut laid most loaded head extents tail none =
    let few : length es < 4294967296 = omega (arith, most, cut.parts.few, length-map es (λ (e : Extent). bytes_at file e)) in
    record {
      in_memory = subst IsInMemory (sym standing) tt;
      front = front ∙ ap length (sym loaded);
      back = back ∙ ap length (sym loaded);
      joined = rw (loaded, head, extents, tail) cut.joined;
      laid = rw (loaded, head, extents, tail) laid;
      inside = rw (loaded, extents) (all_inside file h es n laid);
      whole = rw (loaded, head, extents) (all_whole file reading limits h es n cut);
      few = rw extents few;
      so_far = none ∙ rw none refl;
    }

-- the parts of the same file under the same head, at the same places
cut_of : (file loaded : List ℕ) (h g : Head) (es fs : List Extent) (n m : ℕ) → loaded ≡ file → g ≡ h → fs ≡ es → m ≡ n → volume_at loaded g fs m ≡ volume_at file h es n
cut_of file loaded h g es fs n m e f k l =
    ap (λ (b : List ℕ). volume_at b g fs m) e ∙ (ap (λ (x : Head). volume_at file x fs m) f ∙ (ap (λ (xs : List Extent). volume_at file h xs m) k ∙ ap (λ (i : ℕ). volume_at file h es i) l))

pub cut_again : (file : List ℕ) (reading : Reading) (limits : Limits) (loaded : List ℕ) (g : Head) (fs : List Extent) (m : ℕ) (h : Head) (es : List Extent) (n : ℕ) → loaded ≡ file → g ≡ h → fs ≡ es → m ≡ n
    → IsCut file reading limits (volume_at file h es n) → IsCut file reading limits (volume_at loaded g fs m)
cut_again file reading limits loaded g fs m h es n e f k l cut = subst (λ (v : Volume). IsCut file reading limits v) (sym (cut_of file loaded h g es fs n m e f k l)) cut

pub loaded_again : (file : List ℕ) (reading : Reading) (limits : Limits) (loaded : List ℕ) (g : Head) (fs : List Extent) (m : ℕ) (h : Head) (es : List Extent) (n : ℕ) → loaded ≡ file → g ≡ h → fs ≡ es → m ≡ n
    → IsCut file reading limits (volume_at file h es n) → loaded ≡ bytes_of (volume_at loaded g fs m)
loaded_again file reading limits loaded g fs m h es n e f k l cut = e ∙ sym (cut_again file reading limits loaded g fs m h es n e f k l cut).joined

-- the trace behind the first n
pub extent-shown : (file : List ℕ) (h : Head) (es : List Extent) (k n m : ℕ) (e : Extent) → n < length es → m ≡ n → e ≡ get_or es n e → bytes_at file e ≡ trace_at (volume_at file h es k) (m + 1)
extent-shown file h es k n m e short same is =
    let place : m + 1 - 1 ≡ n = omega (arith, same) in
    ap (λ (x : Extent). bytes_at file x) is ∙ (sym (get_or-pieces file es n e [] short) ∙ ap (λ (i : ℕ). get_or (pieces file es) i []) (sym place))

-- the store that has each trace
pub all-loaded : {T : Type 0} (l : Inside T) → IsLoading l → length (traces_of l.store) ≡ length l.extents.items → traces_of l.store ≡ pieces l.store.loaded.bytes l.extents.items
all-loaded l loading all = loading.so_far ∙ ap (λ (es : List Extent). pieces l.store.loaded.bytes es) (ap (λ (n : ℕ). take n l.extents.items) all ∙ take_all (length l.extents.items) l.extents.items (omega arith))

-- a store has as many payloads as traces
pub as-many : {T : Type 0} (s : TraceStore T) → length (payloads_of s) ≡ length (traces_of s)
as-many s = payloads-counted s.loaded s.head s.order.ids s.slots s.sound.held ∙ sym (length-map s.order.ids (bytes_under s.loaded.bytes s.slots))

-- the parts of the store that has each trace, with the headers of the file
pub parts-loaded : {T : Type 0} (l : Inside T) (text bin : List ℕ) → IsLoading l → length (payloads_of l.store) ≡ length (pieces l.store.loaded.bytes l.extents.items) → text ≡ take 3200 l.store.loaded.bytes → bin ≡ take 400 (drop 3200 l.store.loaded.bytes)
    → volume_with text bin l.tail l.store ≡ volume_at l.store.loaded.bytes l.store.head l.extents.items l.tail
parts-loaded l text bin loading all front behind =
    let count : length (traces_of l.store) ≡ length l.extents.items = omega (arith, all, as-many l.store, length-map l.extents.items (λ (e : Extent). bytes_at l.store.loaded.bytes e)) in
    rw (front, behind, all-loaded l loading count) refl
