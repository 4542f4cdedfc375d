use Rattle.std.proofs.Common.{◌≡◌, ◌++◌, ℕ, List, sym, ap, ◌∙◌}
use Rattle.std.specs.List.{flat_map}
use Rattle.std.proofs.lemmas.Grind.{flat_map-append}
use Rattle.journal_codes.specs.Codes.{Span}
use Rattle.edit_pieces.specs.Changes.{header_change, header_left, layers_of, runs_in}
use Rattle.edit_pieces.specs.Pieces.{pieces_in, pieces_of}
use Rattle.edit_pieces.specs.Spans.{span_of}
use Rattle.edit_pieces.specs.declared.change.Change.{Change}
use Rattle.edit_pieces.proofs.LaidLemmas.{header-pieces}
use Rattle.edit_pieces.proofs.volume_edits.VolumeEdits.new.Goals as goal

-- a header that is left to be given, as the changes have it
header-left : (at : ℕ) (header file : List ℕ) (c : Change) → c.place ≡ at → c.bytes.now ≡ header_left at header file → pieces_in (span_of c) ≡ flat_map pieces_in (header_change at header file)
header-left at header file c place bytes =
    ap (λ (k : ℕ). pieces_in (k, c.bytes.now)) place
    ∙ ap (λ (l : List ℕ). pieces_in (at, l)) bytes
    ∙ header-pieces at header file

-- both headers and the runs, as the changes have them
all-left : (text bin file : List ℕ) (a b : Change) (traces runs : List Span) → a.place ≡ 0 → a.bytes.now ≡ header_left 0 text file → b.place ≡ 3200 → b.bytes.now ≡ header_left 3200 bin file → traces ≡ runs
    → pieces_in (span_of a) ++ (pieces_in (span_of b) ++ flat_map pieces_in traces) ≡ flat_map pieces_in (header_change 0 text file ++ (header_change 3200 bin file ++ runs))
all-left text bin file a b traces runs a_at a_is b_at b_is same =
    ap (λ (l : List Span). l ++ (pieces_in (span_of b) ++ flat_map pieces_in traces)) (header-left 0 text file a a_at a_is)
    ∙ ap (λ (l : List Span). flat_map pieces_in (header_change 0 text file) ++ (l ++ flat_map pieces_in traces)) (header-left 3200 bin file b b_at b_is)
    ∙ ap (λ (l : List Span). flat_map pieces_in (header_change 0 text file) ++ (flat_map pieces_in (header_change 3200 bin file) ++ flat_map pieces_in l)) same
    ∙ ap (λ (l : List Span). flat_map pieces_in (header_change 0 text file) ++ l) (sym (flat_map-append pieces_in (header_change 3200 bin file) runs))
    ∙ sym (flat_map-append pieces_in (header_change 0 text file) (header_change 3200 bin file ++ runs))

pub returns : goal.returns
returns g c =
    let s = c.args.store.now in
    let all : List Span = pieces_of c.args.text.now c.args.bin.now s in
    ap (λ (l : List Span). record { all = all; left = l }) (all-left c.args.text.now c.args.bin.now s.loaded.bytes c.header_change.result c.header_change-2.result c.new.result (flat_map runs_in (layers_of s)) c.header_change.ensures.place c.header_change.ensures.bytes c.header_change-2.ensures.place c.header_change-2.ensures.bytes c.new.ensures)
