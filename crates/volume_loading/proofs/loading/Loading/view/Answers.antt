use Rattle.std.proofs.Common.{◌+◌, ◌<◌, ◌∙◌, length, sym, ap, arith}
use Rattle.std.proofs.lemmas.List.{length-map}
use Rattle.frame_cut.specs.declared.extent.Extent.{Extent}
use Rattle.frame_cut.specs.Layout.{bytes_at, pieces}
use Rattle.frame_cut.specs.Traces.{trace_at}
use Rattle.trace_store.specs.Stores.{payloads_of}
use Rattle.volume_loading.proofs.LoadingLemmas.{extent-shown}
use Rattle.volume_loading.proofs.loading.Loading.view.Goals as goal

pub returns : goal.returns
returns g c =
    let l = c.self.inside in
    let n = c.count.result in
    let asked : length (payloads_of l.store) < length (pieces l.store.loaded.bytes l.extents.items) = rw (← c.self.view_is) at c.requires in
    let short : n < length l.extents.items = omega (arith, asked, c.count.ensures.payloads, length-map l.extents.items (λ (e : Extent). bytes_at l.store.loaded.bytes e)) in (
      c.view_loaded.ensures.head ∙ ap (λ o. o.volume.head) c.self.view_is,
      c.view_loaded.ensures.bytes ∙ (extent-shown l.store.loaded.bytes l.store.head l.extents.items l.tail n _ c.index-extent.result.now short (sym c.count.ensures.payloads) c.index-extent.ensures ∙ ap (λ o. trace_at o.volume (length o.payloads + 1)) c.self.view_is),
    )
