use Rattle.std.proofs.Common.{◌≡◌, ◌-◌, ◌<◌, [], ℕ, List, length, get_or, refl, ap, ◌∙◌, arith, Some}
use Rattle.std.proofs.lemmas.Result.{err_from_is_err_and}
use Rattle.base_file.specs.HeldBytes.{IsSure}
use Rattle.base_file.proofs.HeldLemmas.{memory_stays, IsStill-refl}
use Rattle.edit_overlay.specs.Saving.{Progress, progress}
use Rattle.edit_overlay.specs.declared.save_fault.SaveFault.{SaveFault}
use Rattle.trace_store.specs.Fetched.{HasChanged}
use Rattle.trace_store.specs.Reread.{IsReread}
use Rattle.trace_store.specs.Stores.{traces_of}
use Rattle.trace_store.proofs.FallLemmas.{IsReread-trans}
use Rattle.edit_overlay.proofs.SavingLemmas.{after_flush, fault_before, no_reads, nothing, on_ok, range-length, range_trace, read_refused, refused_at, same_bytes, some_bytes, stops_here, stops_on, sure_then}
use Rattle.edit_overlay.proofs.StandingLemmas.{fault_told, lends_still, on_disk_else, refused_in_memory}
use Rattle.edit_overlay.proofs.writing_out.write_trace.Goals as goal

pub write_range-requires-clause-small : goal.write_range-requires-clause-small
write_range-requires-clause-small g c = omega (arith, c.requires.small)

pub returns-in-Some-clause-count : goal.returns-in-Some-clause-count
returns-in-Some-clause-count g c =
    let s = c.args.store.now in
    let e = c.in-Some.extent in
    let t : List ℕ = get_or (traces_of s) (c.args.p - 1) [] in
    let size : length t ≡ e.length = range-length s.loaded.bytes e t c.in-Some.ensures.inside c.in-Some.ensures.bytes in
    on_ok c.write_range.result (λ count. omega (arith, count, size)) c.write_range.ensures.count

pub returns-in-Some-clause-saved : goal.returns-in-Some-clause-saved
returns-in-Some-clause-saved g c =
    let s = c.args.store.now in
    let t : List ℕ = get_or (traces_of s) (c.args.p - 1) [] in
    λ sure. same_bytes c.write_range.result _ _ _ _ _ t (range_trace s.loaded.bytes c.in-Some.extent t c.in-Some.ensures.bytes) (c.write_range.ensures.saved sure)

pub returns-in_err-flush-clause-saved : goal.returns-in_err-flush-clause-saved
returns-in_err-flush-clause-saved g c =
    let s = c.args.store.now in
    let p = err_from_is_err_and c.from_residual.result c.from_residual.ensures.1 in
    λ sure. refused_at c.from_residual.result c.in_err-flush.field-0.0 _ _ _ _ _ (progress s.loaded.bytes c.flush.new.waiting) [] [] (get_or (traces_of s) (c.args.p - 1) []) _ (rw p.2 at p.1) refl (nothing _ _) (c.in_err-flush.ensures.saved sure)

pub returns-in_err-flush-clause-read : goal.returns-in_err-flush-clause-read
returns-in_err-flush-clause-read g c =
    let loaded = c.args.store.now.loaded in
    let p = err_from_is_err_and c.from_residual.result c.from_residual.ensures.1 in
    read_refused c.from_residual.result c.in_err-flush.field-0.0 loaded loaded c.flush.new.store.loaded (rw p.2 at p.1) (IsStill-refl loaded) c.in_err-flush.ensures.read

pub fetch-requires-clause-last : goal.fetch-requires-clause-last
fetch-requires-clause-last g c =
    omega (arith, c.requires.last, ap (λ (ts : List (List ℕ)). length ts) c.in_ok-flush.ensures.same.traces)

pub write_view-requires : goal.write_view-requires
write_view-requires g c =
    let s = c.args.store.now in
    let f = c.fetch.ensures in
    let twice : IsReread s c.fetch.new.self = IsReread-trans s c.flush.new.store c.fetch.new.self c.in_ok-flush.ensures.same f.reread in
    omega (arith, c.requires.small, c.in_ok-flush.ensures.count, c.shown.ensures.length, ap (λ (ts : List (List ℕ)). length (get_or ts (c.args.p - 1) [])) twice.traces)

pub returns-in-Ok-clause-same : goal.returns-in-Ok-clause-same
returns-in-Ok-clause-same g c =
    IsReread-trans c.args.store.now c.flush.new.store c.fetch.new.self c.in_ok-flush.ensures.same c.fetch.ensures.reread

pub returns-in-Ok-clause-count : goal.returns-in-Ok-clause-count
returns-in-Ok-clause-count g c =
    let s = c.args.store.now in
    let f = c.fetch.ensures in
    let twice : IsReread s c.fetch.new.self = IsReread-trans s c.flush.new.store c.fetch.new.self c.in_ok-flush.ensures.same f.reread in
    on_ok c.write_view.result
    (λ count. omega (arith, count, c.in_ok-flush.ensures.count, c.in_ok-flush.ensures.empty, c.shown.ensures.length, ap (λ (ts : List (List ℕ)). length (get_or ts (c.args.p - 1) [])) twice.traces))
    c.write_view.ensures.count

pub returns-in-Ok-clause-saved : goal.returns-in-Ok-clause-saved
returns-in-Ok-clause-saved g c =
    let s = c.args.store.now in
    let t : List ℕ = get_or (traces_of s) (c.args.p - 1) [] in
    let f = c.fetch.ensures in
    let once : IsReread c.flush.new.store c.fetch.new.self = f.reread in
    let twice : IsReread s c.fetch.new.self = IsReread-trans s c.flush.new.store c.fetch.new.self c.in_ok-flush.ensures.same once in
    λ sure.
    let shown : _ ≡ t = c.shown.ensures.bytes sure ∙ ap (λ (ts : List (List ℕ)). get_or ts (c.args.p - 1) []) twice.traces in
    after_flush c.write_view.result _ _ _ _ s.loaded.bytes c.flush.new.waiting c.write_view.new.written t c.in_ok-flush.ensures.empty (c.in_ok-flush.ensures.saved (sure_then c.flush.new.store c.fetch.new.self once sure))
    (same_bytes c.write_view.result _ _ _ _ _ t shown c.write_view.ensures.saved)

pub returns-in-Ok-clause-read : goal.returns-in-Ok-clause-read
returns-in-Ok-clause-read g c = no_reads c.write_view.result c.args.store.now.loaded c.fetch.new.self.loaded c.write_view.ensures.read

pub returns-in-Err-clause-same : goal.returns-in-Err-clause-same
returns-in-Err-clause-same g c =
    IsReread-trans c.args.store.now c.flush.new.store c.fetch.new.self c.in_ok-flush.ensures.same c.fetch.ensures.reread

pub returns-in-Err-clause-saved : goal.returns-in-Err-clause-saved
returns-in-Err-clause-saved g c =
    let s = c.args.store.now in
    let t : List ℕ = get_or (traces_of s) (c.args.p - 1) [] in
    let w = c.flush.new.waiting in
    let f = c.fetch.ensures in
    let once : IsReread c.flush.new.store c.fetch.new.self = f.reread in
    let at : Progress = progress s.loaded.bytes w in
    let fault : SaveFault = record { written = w.written; read = Some c.in-Err.fault } in
    λ sure.
    let sure_1 : IsSure c.flush.new.store.loaded.standing = sure_then c.flush.new.store c.fetch.new.self once sure in
    let some : 0 < length t = some_bytes s (c.args.p - 1) (omega (arith, c.requires.first, c.requires.last)) (sure_then s c.flush.new.store c.in_ok-flush.ensures.same sure_1) in
    stops_on _ _ _ (progress s.loaded.bytes c.args.waiting.now) at [] t fault (c.in_ok-flush.ensures.saved sure_1) (stops_here _ at t fault refl (omega (arith, some)))

pub returns-in-Err-clause-read : goal.returns-in-Err-clause-read
returns-in-Err-clause-read g c =
    let s = c.args.store.now in (
      on_disk_else s.loaded.standing (λ memory. refused_in_memory c.fetch.result c.in-Err.fault c.in-Err.is (c.fetch.ensures.memory (memory_stays s.loaded.standing c.flush.new.store.loaded.standing c.in_ok-flush.ensures.same.loaded.standing memory))),
      fault_before s.loaded c.flush.new.store.loaded c.fetch.new.self.loaded c.in-Err.fault c.in_ok-flush.ensures.same.loaded
          (fault_told c.flush.new.store.loaded c.fetch.new.self.loaded c.in-Err.fault (lends_still s.loaded c.flush.new.store.loaded c.in_ok-flush.ensures.same.loaded c.requires.lends) (λ (changed : HasChanged c.fetch.new.self c.args.p). changed.unsure) c.in-Err.ensures.fault),
    )
