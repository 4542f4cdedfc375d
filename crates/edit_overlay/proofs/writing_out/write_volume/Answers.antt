use Rattle.std.proofs.Common.{◌≡◌, ◌-◌, ◌*◌, ◌++◌, [], ℕ, List, length, slice_range, refl, ap, ◌∙◌, arith, Option}
use Rattle.std.proofs.lemmas.Result.{err_from_is_err_and}
use Rattle.std.specs.List.{concat}
use Rattle.base_file.specs.HeldBytes.{IsSure}
use Rattle.base_file.proofs.HeldLemmas.{IsStill-refl}
use Rattle.frame_cut.specs.Volume.{bytes_of}
use Rattle.edit_overlay.specs.Held.{volume_with}
use Rattle.trace_store.specs.Reread.{IsReread}
use Rattle.edit_overlay.specs.Saving.{Progress, progress}
use Rattle.edit_overlay.specs.declared.waiting.Waiting.{Waiting}
use Rattle.trace_store.specs.Stores.{traces_of}
use Rattle.trace_store.proofs.FallLemmas.{IsReread-refl, IsReread-trans}
use Rattle.edit_overlay.proofs.SavingLemmas.{begin, comes_on, comes_over, empty_waits, ended_save, front_all, front_headers, front_text, front_traces, goes_over, headers_come, no_read, nothing, on_ok, parts-length, parts_joined, read_over, read_refused, refused_save, stops_over, sure_then, Comes}
use Rattle.edit_overlay.proofs.StandingLemmas.{lends_still}
use Rattle.edit_overlay.proofs.writing_out.write_volume.Goals as goal

pub returns-in_err-write_part-clause-same : goal.returns-in_err-write_part-clause-same
returns-in_err-write_part-clause-same g c = IsReread-refl c.args.store.now

pub returns-in_err-write_part-clause-saved : goal.returns-in_err-write_part-clause-saved
returns-in_err-write_part-clause-saved g c =
    let s = c.args.store.now in
    let text : List ℕ = c.args.text.now in
    let bin : List ℕ = c.args.bin.now in
    let p = err_from_is_err_and c.from_residual.result c.from_residual.ensures.1 in
    λ _. refused_save c.from_residual.result c.in_err-write_part.field-0.0 _ _ _ begin [] text (bytes_of (volume_with text bin c.args.tail s)) (rw p.2 at p.1) (front_text text bin c.args.tail s c.requires.ends) (nothing _ _) c.in_err-write_part.ensures.saved

pub returns-in_err-write_part-clause-read : goal.returns-in_err-write_part-clause-read
returns-in_err-write_part-clause-read g c =
    let loaded = c.args.store.now.loaded in
    let p = err_from_is_err_and c.from_residual.result c.from_residual.ensures.1 in
    read_refused c.from_residual.result c.in_err-write_part.field-0.0 loaded loaded loaded (rw p.2 at p.1) (IsStill-refl loaded) (no_read c.in_err-write_part.field-0.0 loaded loaded c.in_err-write_part.ensures.read)

pub returns-in_err-write_part-2-clause-same : goal.returns-in_err-write_part-2-clause-same
returns-in_err-write_part-2-clause-same g c = IsReread-refl c.args.store.now

pub returns-in_err-write_part-2-clause-saved : goal.returns-in_err-write_part-2-clause-saved
returns-in_err-write_part-2-clause-saved g c =
    let s = c.args.store.now in
    let text : List ℕ = c.args.text.now in
    let bin : List ℕ = c.args.bin.now in
    let w_0 : Option (List ℕ) = g.W.Write.contents c.args.writer.now.inner in
    let w_1 : Option (List ℕ) = g.W.Write.contents c.write_part.new.writer.inner in
    let come : Comes w_0 w_1 begin (record { written = c.write_part.new.written; waits = [] }) text = c.in_ok-write_part.ensures.saved in
    let p = err_from_is_err_and c.from_residual-in_err-write_part-2.result c.from_residual-in_err-write_part-2.ensures.1 in
    λ _. refused_save c.from_residual-in_err-write_part-2.result c.in_err-write_part-2.field-0.0 w_0 w_1 _ _ text bin (bytes_of (volume_with text bin c.args.tail s)) (rw p.2 at p.1) (front_headers text bin c.args.tail s c.requires.ends) come c.in_err-write_part-2.ensures.saved

pub returns-in_err-write_part-2-clause-read : goal.returns-in_err-write_part-2-clause-read
returns-in_err-write_part-2-clause-read g c =
    let loaded = c.args.store.now.loaded in
    let p = err_from_is_err_and c.from_residual-in_err-write_part-2.result c.from_residual-in_err-write_part-2.ensures.1 in
    read_refused c.from_residual-in_err-write_part-2.result c.in_err-write_part-2.field-0.0 loaded loaded loaded (rw p.2 at p.1) (IsStill-refl loaded) (no_read c.in_err-write_part-2.field-0.0 loaded loaded c.in_err-write_part-2.ensures.read)

pub write_traces-requires-clause-small : goal.write_traces-requires-clause-small
write_traces-requires-clause-small g c =
    omega (arith, c.requires.small, c.requires.ends.front, parts-length c.args.text.now c.args.bin.now c.args.tail c.args.store.now c.requires.ends, c.in_ok-write_part.ensures.count, c.in_ok-write_part-2.ensures.count)

pub returns-in_err-write_traces-clause-saved : goal.returns-in_err-write_traces-clause-saved
returns-in_err-write_traces-clause-saved g c =
    let s = c.args.store.now in
    let file : List ℕ = s.loaded.bytes in
    let text : List ℕ = c.args.text.now in
    let bin : List ℕ = c.args.bin.now in
    let w_0 : Option (List ℕ) = g.W.Write.contents c.args.writer.now.inner in
    let w_1 : Option (List ℕ) = g.W.Write.contents c.write_part.new.writer.inner in
    let w_2 : Option (List ℕ) = g.W.Write.contents c.write_part-2.new.writer.inner in
    let ready : Waiting = record { from = 3600; to = s.head.traces_at; written = c.write_part-2.new.written; in_order = omega (arith, c.requires.ends.front) } in
    let blocks : List ℕ = slice_range file 3600 s.head.traces_at in
    let come : Comes w_0 w_2 begin (progress file ready) ((text ++ bin) ++ blocks) = headers_come w_0 w_1 w_2 text bin file c.write_part.new.written ready c.in_ok-write_part.ensures.saved c.in_ok-write_part-2.ensures.saved in
    let p = err_from_is_err_and c.from_residual-in_err-write_traces.result c.from_residual-in_err-write_traces.ensures.1 in
    λ sure. refused_save c.from_residual-in_err-write_traces.result c.in_err-write_traces.field-0.0 w_0 w_2 _ (progress file ready) ((text ++ bin) ++ blocks) (concat (traces_of s)) (bytes_of (volume_with text bin c.args.tail s)) (rw p.2 at p.1) (front_traces text bin c.args.tail s c.requires.ends) come (c.in_err-write_traces.ensures.saved sure)

pub returns-in_err-write_traces-clause-read : goal.returns-in_err-write_traces-clause-read
returns-in_err-write_traces-clause-read g c =
    let loaded = c.args.store.now.loaded in
    let p = err_from_is_err_and c.from_residual-in_err-write_traces.result c.from_residual-in_err-write_traces.ensures.1 in
    read_refused c.from_residual-in_err-write_traces.result c.in_err-write_traces.field-0.0 loaded loaded c.write_traces.new.store.loaded (rw p.2 at p.1) (IsStill-refl loaded) c.in_err-write_traces.ensures.read

pub write_range-requires-clause-lends : goal.write_range-requires-clause-lends
write_range-requires-clause-lends g c = lends_still c.args.store.now.loaded c.write_traces.new.store.loaded c.in_ok-write_traces.ensures.same.loaded c.requires.lends

pub flush-requires-clause-lends : goal.flush-requires-clause-lends
flush-requires-clause-lends g c =
    let same : IsReread c.args.store.now c.write_range.new.store = IsReread-trans c.args.store.now c.write_traces.new.store c.write_range.new.store c.in_ok-write_traces.ensures.same c.in_ok-write_range.ensures.same in
    lends_still c.args.store.now.loaded c.write_range.new.store.loaded same.loaded c.requires.lends

pub write_range-requires-clause-inside : goal.write_range-requires-clause-inside
write_range-requires-clause-inside g c = rw c.in_ok-write_traces.ensures.same.loaded.bytes c.in_ok-write_traces.ensures.inside

pub write_range-requires-clause-range_inside : goal.write_range-requires-clause-range_inside
write_range-requires-clause-range_inside g c = omega (arith, c.length-end.ensures, ap (λ (x : List ℕ). length x) c.in_ok-write_traces.ensures.same.loaded.bytes)

pub write_range-requires-clause-small : goal.write_range-requires-clause-small
write_range-requires-clause-small g c =
    omega (arith, c.requires.small, c.requires.ends.front, parts-length c.args.text.now c.args.bin.now c.args.tail c.args.store.now c.requires.ends, c.in_ok-write_part.ensures.count, c.in_ok-write_part-2.ensures.count, c.in_ok-write_traces.ensures.count)

pub returns-in_err-write_range-clause-same : goal.returns-in_err-write_range-clause-same
returns-in_err-write_range-clause-same g c = IsReread-trans c.args.store.now c.write_traces.new.store c.write_range.new.store c.in_ok-write_traces.ensures.same c.in_err-write_range.ensures.same

pub returns-in_err-write_range-clause-saved : goal.returns-in_err-write_range-clause-saved
returns-in_err-write_range-clause-saved g c =
    let s = c.args.store.now in
    let file : List ℕ = s.loaded.bytes in
    let text : List ℕ = c.args.text.now in
    let bin : List ℕ = c.args.bin.now in
    let w_0 : Option (List ℕ) = g.W.Write.contents c.args.writer.now.inner in
    let w_1 : Option (List ℕ) = g.W.Write.contents c.write_part.new.writer.inner in
    let w_2 : Option (List ℕ) = g.W.Write.contents c.write_part-2.new.writer.inner in
    let w_3 : Option (List ℕ) = g.W.Write.contents c.write_traces.new.writer.inner in
    let ready : Waiting = record { from = 3600; to = s.head.traces_at; written = c.write_part-2.new.written; in_order = omega (arith, c.requires.ends.front) } in
    let at : Progress = progress file c.write_traces.new.waiting in
    let blocks : List ℕ = slice_range file 3600 s.head.traces_at in
    let traces : List ℕ = concat (traces_of s) in
    let tail : ℕ = length file - 3200 * s.head.trailer - c.args.tail in
    let same = c.in_ok-write_traces.ensures.same in
    let come : Comes w_0 w_2 begin (progress file ready) ((text ++ bin) ++ blocks) = headers_come w_0 w_1 w_2 text bin file c.write_part.new.written ready c.in_ok-write_part.ensures.saved c.in_ok-write_part-2.ensures.saved in
    let p = err_from_is_err_and c.from_residual-in_err-write_range.result c.from_residual-in_err-write_range.ensures.1 in
    λ sure.
    refused_save c.from_residual-in_err-write_range.result c.in_err-write_range.field-0.0 w_0 w_3 _ at (((text ++ bin) ++ blocks) ++ traces) (slice_range file tail (length file)) (bytes_of (volume_with text bin c.args.tail s)) (rw p.2 at p.1) (front_all text bin c.args.tail s c.requires.ends)
    (comes_on w_0 w_2 w_3 begin (progress file ready) at ((text ++ bin) ++ blocks) traces come (c.in_ok-write_traces.ensures.saved (sure_then c.write_traces.new.store c.write_range.new.store c.in_err-write_range.ensures.same sure)))
    (stops_over w_3 _ file c.write_traces.new.store.loaded.bytes c.write_traces.new.waiting (slice_range c.write_traces.new.store.loaded.bytes (c.length-end.result - 3200 * s.head.trailer - c.args.tail) c.length-end.result) (slice_range file tail (length file)) c.in_err-write_range.field-0.0 same.loaded.bytes (rw (same.loaded.bytes, c.length-end.ensures) refl) (c.in_err-write_range.ensures.saved sure))

pub returns-in_err-write_range-clause-read : goal.returns-in_err-write_range-clause-read
returns-in_err-write_range-clause-read g c =
    let p = err_from_is_err_and c.from_residual-in_err-write_range.result c.from_residual-in_err-write_range.ensures.1 in
    read_refused c.from_residual-in_err-write_range.result c.in_err-write_range.field-0.0 c.args.store.now.loaded c.write_traces.new.store.loaded c.write_range.new.store.loaded (rw p.2 at p.1) c.in_ok-write_traces.ensures.same.loaded c.in_err-write_range.ensures.read

pub flush-requires-clause-inside : goal.flush-requires-clause-inside
flush-requires-clause-inside g c = rw c.in_ok-write_range.ensures.same.loaded.bytes c.in_ok-write_range.ensures.inside

pub flush-requires-clause-small : goal.flush-requires-clause-small
flush-requires-clause-small g c =
    omega (arith, c.requires.small, c.requires.ends.front, c.requires.ends.whole, parts-length c.args.text.now c.args.bin.now c.args.tail c.args.store.now c.requires.ends, c.length-end.ensures, c.in_ok-write_part.ensures.count, c.in_ok-write_part-2.ensures.count, c.in_ok-write_traces.ensures.count, c.in_ok-write_range.ensures.count)

pub returns-clause-same : goal.returns-clause-same
returns-clause-same g c =
    IsReread-trans c.args.store.now c.write_range.new.store c.flush.new.store (IsReread-trans c.args.store.now c.write_traces.new.store c.write_range.new.store c.in_ok-write_traces.ensures.same c.in_ok-write_range.ensures.same) c.flush.ensures.same

pub returns-clause-saved : goal.returns-clause-saved
returns-clause-saved g c =
    let s = c.args.store.now in
    let file : List ℕ = s.loaded.bytes in
    let text : List ℕ = c.args.text.now in
    let bin : List ℕ = c.args.bin.now in
    let w_0 : Option (List ℕ) = g.W.Write.contents c.args.writer.now.inner in
    let w_1 : Option (List ℕ) = g.W.Write.contents c.write_part.new.writer.inner in
    let w_2 : Option (List ℕ) = g.W.Write.contents c.write_part-2.new.writer.inner in
    let w_3 : Option (List ℕ) = g.W.Write.contents c.write_traces.new.writer.inner in
    let w_4 : Option (List ℕ) = g.W.Write.contents c.write_range.new.writer.inner in
    let ready : Waiting = record { from = 3600; to = s.head.traces_at; written = c.write_part-2.new.written; in_order = omega (arith, c.requires.ends.front) } in
    let at : Progress = progress file c.write_traces.new.waiting in
    let last : Progress = progress file c.write_range.new.waiting in
    let end : Progress = progress file c.flush.new.waiting in
    let blocks : List ℕ = slice_range file 3600 s.head.traces_at in
    let traces : List ℕ = concat (traces_of s) in
    let records : List ℕ = slice_range file (length file - 3200 * s.head.trailer - c.args.tail) (length file) in
    let first : IsReread s c.write_traces.new.store = c.in_ok-write_traces.ensures.same in
    let second : IsReread c.write_traces.new.store c.write_range.new.store = c.in_ok-write_range.ensures.same in
    let same : c.write_range.new.store.loaded.bytes ≡ file = second.loaded.bytes ∙ first.loaded.bytes in
    let come : Comes w_0 w_2 begin (progress file ready) ((text ++ bin) ++ blocks) = headers_come w_0 w_1 w_2 text bin file c.write_part.new.written ready c.in_ok-write_part.ensures.saved c.in_ok-write_part-2.ensures.saved in
    λ sure.
    let sure_4 : IsSure c.write_range.new.store.loaded.standing = sure_then c.write_range.new.store c.flush.new.store c.flush.ensures.same sure in
    let sure_3 : IsSure c.write_traces.new.store.loaded.standing = sure_then c.write_traces.new.store c.write_range.new.store second sure_4 in
    let come_3 : Comes w_0 w_3 begin at (((text ++ bin) ++ blocks) ++ traces) = comes_on w_0 w_2 w_3 begin (progress file ready) at ((text ++ bin) ++ blocks) traces come (c.in_ok-write_traces.ensures.saved sure_3) in
    let come_4 : Comes w_3 w_4 at last records = comes_over w_3 w_4 file c.write_traces.new.store.loaded.bytes c.write_traces.new.waiting c.write_range.new.waiting (slice_range c.write_traces.new.store.loaded.bytes (c.length-end.result - 3200 * s.head.trailer - c.args.tail) c.length-end.result) records first.loaded.bytes (rw (first.loaded.bytes, c.length-end.ensures) refl) (c.in_ok-write_range.ensures.saved sure_4) in
    ended_save c.flush.result w_0 w_4 _ last end ((((text ++ bin) ++ blocks) ++ traces) ++ records) (bytes_of (volume_with text bin c.args.tail s)) (parts_joined text bin c.args.tail s c.requires.ends)
    (comes_on w_0 w_3 w_4 begin at last (((text ++ bin) ++ blocks) ++ traces) records come_3 come_4)
    (goes_over c.flush.result w_4 _ file c.write_range.new.store.loaded.bytes c.write_range.new.waiting c.flush.new.waiting [] [] same refl (c.flush.ensures.saved sure))
    (on_ok c.flush.result (empty_waits file c.flush.new.waiting) c.flush.ensures.empty)

pub returns-clause-read : goal.returns-clause-read
returns-clause-read g c =
    let s = c.args.store.now in
    let same : IsReread s c.write_range.new.store = IsReread-trans s c.write_traces.new.store c.write_range.new.store c.in_ok-write_traces.ensures.same c.in_ok-write_range.ensures.same in
    read_over c.flush.result s.loaded c.write_range.new.store.loaded c.flush.new.store.loaded same.loaded c.flush.ensures.read
