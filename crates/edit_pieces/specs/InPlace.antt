-- Whether the traces of a volume lie where the loaded file has them, and which is the first that does not.
use Rattle.std.specs.Prelude.{ℕ, ◌+◌, ◌-◌, ◌*◌, ◌==◌, List, [], ◌∷◌, length, Option, Some, None, if◌then◌else◌}
use Rattle.std.specs.Option.{option_or}
use Rattle.text_block.specs.declared.block.TheConstants.{TEXT_BLOCK_BYTES}
use Rattle.frame_cut.specs.declared.extent.Extent.{Extent}
use Rattle.trace_store.specs.declared.store.TraceStore.{TraceStore}
use Rattle.trace_store.specs.Layers.{Layered, extent_of}
use Rattle.trace_store.specs.Slots.{size_of}
use Rattle.edit_pieces.specs.Changes.{layers_of}
use Rattle.edit_pieces.specs.declared.unfit.Unfit.{Unfit}
use Rattle.edit_pieces.specs.declared.unfit.Unfit.TheVariants.{NewTrace, OtherPlace, Fewer}

-- why trace p is not at its place, where it lies over this extent of the file or over none
abbrev pub misplaced : (at p : ℕ) → Option Extent → Option Unfit
misplaced at p None = Some (NewTrace p)
misplaced at p (Some e) = if e.start == at then None else Some (OtherPlace p)

-- why these traces, the first of them trace p, do not lie one behind the other from `at` to `end`
abbrev pub unfit_from : (at p end : ℕ) → List Layered → Option Unfit
unfit_from at p end [] = if at == end then None else Some Fewer
unfit_from at p end (l ∷ ls) = option_or (misplaced at p (extent_of l.base)) (unfit_from (at + size_of l.base) (p + 1) end ls)

-- why the traces of a store do not lie one behind the other from where the file's traces begin to so many bytes in front of its data trailer records
abbrev pub unfit_of : {T : Type 0} → ℕ → TraceStore T → Option Unfit
unfit_of n s = unfit_from s.head.traces_at 1 (length s.loaded.bytes - TEXT_BLOCK_BYTES * s.head.trailer - n) (layers_of s)
