use Rattle.std.proofs.Common.{◌≡◌, ◌+◌, ◌<◌, ◌++◌, ◌∷◌, ℕ, List, length, take, drop, sym, ap, ◌∙◌, arith, min}
use Rattle.std.proofs.lemmas.List.{length-take, take_at}
use Rattle.edit_pieces.specs.Pieces.{pieces_in}
use Rattle.edit_pieces.proofs.LaidLemmas.{pieces-next}
use Rattle.edit_pieces.proofs.change.Change.give.Goals as goal

given : (at size : ℕ) (bs piece behind rest copy : List ℕ) → 0 < length bs → size ≡ min (length bs) 65536 → piece ≡ take size bs → behind ≡ drop size bs → copy ≡ piece
    → pieces_in (at, bs) ≡ (at, take size (copy ++ rest)) ∷ pieces_in (at + size, behind)
given at size bs piece behind rest copy some e front back copied =
    let long : length copy ≡ size = ap (λ (l : List ℕ). length l) (copied ∙ front) ∙ omega (arith, length-take size bs) in
    let same : take size bs ≡ take size (copy ++ rest) = sym (copied ∙ front) ∙ sym (take_at copy rest size long) in
    pieces-next at size bs some e
    ∙ ap (λ (l : List ℕ). (at, l) ∷ pieces_in (at + size, drop size bs)) same
    ∙ ap (λ (l : List ℕ). (at, take size (copy ++ rest)) ∷ pieces_in (at + size, l)) (sym back)

pub returns-clause-piece : goal.returns-clause-piece
returns-clause-piece c =
    given c.args.self.now.place c.min-size.result c.args.self.now.bytes.now c.split_at.result.0.now c.split_at.result.1.now _ c.copy_from_slice.new.self
    c.requires.some c.min-size.ensures c.split_at.ensures.front c.split_at.ensures.back c.copy_from_slice.ensures.after
