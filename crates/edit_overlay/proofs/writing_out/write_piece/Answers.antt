use Rattle.std.proofs.Common.{◌≡◌, ◌+◌, ◌<◌, ◌≤◌, [], ℕ, List, length, take, drop, refl, ◌∙◌, arith, Some}
use Rattle.std.proofs.lemmas.Result.{err_from_is_err_and}
use Rattle.base_file.proofs.HeldLemmas.{IsStill-refl}
use Rattle.edit_overlay.specs.Saving.{progress}
use Rattle.edit_overlay.specs.declared.waiting.Waiting.{Waiting}
use Rattle.edit_overlay.proofs.SavingLemmas.{length-waits, no_read, piece_refused, piece_written, read_refused, refused_as, stops_here}
use Rattle.edit_overlay.proofs.StandingLemmas.{on_disk_else, piece_told, refused_in_memory}
use Rattle.edit_overlay.proofs.writing_out.write_piece.Goals as goal

pub returns-in_err-write_part-in-Ok-clause-saved : goal.returns-in_err-write_part-in-Ok-clause-saved
returns-in_err-write_part-in-Ok-clause-saved g c =
    let file : List ℕ = c.args.store.now.loaded.bytes in
    let w : Waiting = c.args.waiting.now in
    let fault = c.in_err-write_part-in-Ok.field-0.0 in
    let piece : List ℕ = c.lent-piece.result.now in
    let p = err_from_is_err_and c.from_residual.result c.from_residual.ensures.1 in
    λ sure.
    let read : piece ≡ take c.min-size.result (drop w.from file) = c.lent-piece.ensures ∙ c.in-Ok.ensures.bytes sure in
    refused_as c.from_residual.result fault _ _ (progress file w) _ [] (rw p.2 at p.1) (piece_refused _ _ file piece w c.min-size.result fault read (omega arith) c.in_err-write_part-in-Ok.ensures.saved)

pub returns-in_err-write_part-in-Ok-clause-read : goal.returns-in_err-write_part-in-Ok-clause-read
returns-in_err-write_part-in-Ok-clause-read g c =
    let loaded = c.args.store.now.loaded in
    let fault = c.in_err-write_part-in-Ok.field-0.0 in
    let p = err_from_is_err_and c.from_residual.result c.from_residual.ensures.1 in
    read_refused c.from_residual.result fault loaded loaded c.fetch_loaded.new.self.loaded (rw p.2 at p.1) (IsStill-refl loaded) (no_read fault loaded c.fetch_loaded.new.self.loaded c.in_err-write_part-in-Ok.ensures.read)

pub returns-in_ok-write_part-in-Ok-clause-saved : goal.returns-in_ok-write_part-in-Ok-clause-saved
returns-in_ok-write_part-in-Ok-clause-saved g c =
    let file : List ℕ = c.args.store.now.loaded.bytes in
    let w : Waiting = c.args.waiting.now in
    let size : ℕ = c.min-size.result in
    let piece : List ℕ = c.lent-piece.result.now in
    let within : w.from + size ≤ w.to = omega arith in
    let v : Waiting = record { from = w.from + size; to = w.to; written = c.write_part.new.written; in_order = within } in
    λ sure.
    let read : piece ≡ take size (drop w.from file) = c.lent-piece.ensures ∙ c.in-Ok.ensures.bytes sure in
    piece_written _ _ file piece w v size read within refl refl c.in_ok-write_part-in-Ok.ensures.saved

pub returns-in-Err-clause-saved : goal.returns-in-Err-clause-saved
returns-in-Err-clause-saved g c =
    let file : List ℕ = c.args.store.now.loaded.bytes in
    let w : Waiting = c.args.waiting.now in
    let some : 0 < length (progress file w).waits = omega (arith, c.requires.some, length-waits file w c.requires.inside) in
    λ _. stops_here _ (progress file w) [] (record { written = w.written; read = Some c.in-Err.fault }) refl (omega (arith, some))

pub returns-in-Err-clause-read : goal.returns-in-Err-clause-read
returns-in-Err-clause-read g c = (
  on_disk_else c.args.store.now.loaded.standing (λ memory. refused_in_memory c.fetch_loaded.result c.in-Err.fault c.in-Err.is (c.fetch_loaded.ensures.memory memory)),
  piece_told c.fetch_loaded.result c.args.store.now.loaded c.fetch_loaded.new.self.loaded c.min-size.result c.in-Err.fault c.in-Err.is (λ away. omega (arith, c.most.ensures.disk away)) c.fetch_loaded.ensures.memory c.in-Err.ensures.fault,
)

pub returns-in_err-write_part-in-Ok-clause-same : goal.returns-in_err-write_part-in-Ok-clause-same
returns-in_err-write_part-in-Ok-clause-same g c = c.fetch_loaded.ensures.reread

pub returns-in_ok-write_part-in-Ok-clause-same : goal.returns-in_ok-write_part-in-Ok-clause-same
returns-in_ok-write_part-in-Ok-clause-same g c = c.fetch_loaded.ensures.reread

pub returns-in-Err-clause-same : goal.returns-in-Err-clause-same
returns-in-Err-clause-same g c = c.fetch_loaded.ensures.reread
