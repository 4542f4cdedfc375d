-- The next of the pieces at hand.
use Rattle.std.proofs.Common.{◌≡◌, ℕ, ◌+◌, ◌<◌, List, ◌∷◌, ◌++◌, length, take, drop, map, get_or, sym, ◌∙◌, ap}
use Rattle.std.proofs.lemmas.List.{drop_more, get_or-map, length-map, take_at}
use Rattle.journal_codes.specs.Codes.{Span}
use Rattle.journal_save.specs.Pieces.{span_of}
use Rattle.journal_save.specs.declared.piece_edits.Piece.{Piece}

pub next_of : (ps : List Piece) (n size : ℕ) (p : Piece) (copy rest : List ℕ) → n < length ps → copy ≡ (get_or ps n p).bytes.items → length copy ≡ size
    → drop n (map span_of ps) ≡ ((get_or ps n p).place, take size (copy ++ rest)) ∷ drop (n + 1) (map span_of ps)
next_of ps n size p copy rest lt copied long =
    let lt2 : n < length (map span_of ps) = rw (length-map ps span_of) lt in
    drop_more (map span_of ps) n (span_of p) lt2
    ∙ ap (λ (s : Span). s ∷ drop (n + 1) (map span_of ps)) (get_or-map span_of ps n p (span_of p) lt ∙ ap (λ (l : List ℕ). ((get_or ps n p).place, l)) (sym copied ∙ sym (take_at copy rest size long)))
