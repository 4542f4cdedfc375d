use Rattle.std.proofs.Common.{◌≡◌, ◌∙◌, sym, ap, subst, arith, length, None}
use Rattle.journal_save.specs.Disk.{laid_all}
use Rattle.edit_pieces.specs.InPlace.{unfit_of}
use Rattle.edit_pieces.specs.Pieces.{pieces_of, ArePiecesOf}
use Rattle.edit_pieces.specs.Walks.{Walk}
use Rattle.edit_pieces.proofs.Law.{law, inside}
use Rattle.edit_pieces.proofs.volume_edits.edits_over.Goals as goal

pub returns-in-None-clause-law : goal.returns-in-None-clause-law
returns-in-None-clause-law g c =
    let s = c.args.store.now in
    let fits : unfit_of c.args.tail s ≡ None = sym c.unfit_in.ensures ∙ c.in-None.is in
    ap (λ (w : Walk). laid_all w.all s.loaded.bytes) c.new.ensures
    ∙ law c.args.text.now c.args.bin.now c.args.tail s c.requires c.told-text c.told-bin fits

pub returns-in-None-clause-inside : goal.returns-in-None-clause-inside
returns-in-None-clause-inside g c =
    let s = c.args.store.now in
    let are : ArePiecesOf (length s.loaded.bytes) (pieces_of c.args.text.now c.args.bin.now s) = inside c.args.text.now c.args.bin.now c.args.tail s c.requires c.told-text c.told-bin in
    subst (λ (w : Walk). ArePiecesOf (length s.loaded.bytes) w.all) (sym c.new.ensures) are

pub new-requires : goal.new-requires
new-requires g c =
    let e = c.requires in
    record { front = e.front; whole = omega (arith, e.whole); front_kept = e.front_kept; back_kept = e.back_kept }
