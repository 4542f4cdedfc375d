-- The pieces laid over the loaded bytes are the bytes of the volume.
use Rattle.std.proofs.Common.{◌≡◌, ℕ, ◌+◌, ◌-◌, ◌*◌, ◌≤◌, List, [], ◌++◌, length, take, drop, refl, sym, ap, ◌∙◌, arith, append_assoc, length-append, None}
use Rattle.std.specs.List.{flat_map, concat, AllByRecursion}
use Rattle.std.proofs.lemmas.List.{take-append-drop, drop-drop, take_all, length-drop, length-take}
use Rattle.journal_codes.specs.Codes.{Span}
use Rattle.journal_save.specs.Disk.{laid_all}
use Rattle.journal_save.proofs.Laid.{laid_all-append}
use Rattle.frame_cut.specs.Heads.{blocks_of}
use Rattle.frame_cut.specs.Layout.{tail_at}
use Rattle.frame_cut.specs.Volume.{bytes_of}
use Rattle.frame_cut.proofs.BlockLemmas.{concat-blocks_of}
use Rattle.trace_store.specs.declared.store.TraceStore.{TraceStore}
use Rattle.trace_store.specs.Stores.{traces_of}
use Rattle.edit_overlay.specs.Held.{volume_with, HasEnds}
use Rattle.edit_pieces.specs.Changes.{changes_of, header_change, layers_of, runs_in}
use Rattle.edit_pieces.specs.InPlace.{unfit_of}
use Rattle.edit_pieces.specs.Pieces.{pieces_of, ArePiecesOf}
use Rattle.edit_pieces.proofs.LaidLemmas.{laid-at, laid-header, laid-pieces, pieces-inside, header-inside, all-append, drop-behind, IsInFile}
use Rattle.edit_pieces.proofs.RunLemmas.{laid-traces, traces-inside, over-ids, shown-ids}

-- both headers laid over a file
headers-laid : (text bin file : List ℕ) → length text ≡ 3200 → length bin ≡ 400 → 3600 ≤ length file
    → laid_all (header_change 3200 bin file) (laid_all (header_change 0 text file) file) ≡ (text ++ bin) ++ drop 3600 file
headers-laid text bin file t b h =
    let first : laid_all (header_change 0 text file) file ≡ text ++ drop 3200 file =
    laid-header 0 text file file refl ∙ laid-at 0 [] file text refl (omega (arith, t)) ∙ ap (λ (k : ℕ). text ++ drop k file) t in
    let same : drop 3200 (text ++ drop 3200 file) ≡ drop 3200 file = drop-behind 3200 text (drop 3200 file) t in
    let fits : length bin ≤ length (drop 3200 file) = omega (arith, b, length-drop 3200 file) in
    ap (λ (f : List ℕ). laid_all (header_change 3200 bin file) f) first
    ∙ laid-header 3200 bin file (text ++ drop 3200 file) same
    ∙ laid-at 3200 text (drop 3200 file) bin t fits
    ∙ ap (λ (k : ℕ). text ++ (bin ++ drop k (drop 3200 file))) b
    ∙ ap (λ (l : List ℕ). text ++ (bin ++ l)) (drop-drop 400 3200 file)
    ∙ sym (append_assoc text bin (drop 3600 file))

module _ {T : Type 0} (text bin : List ℕ) (n : ℕ) (s : TraceStore T) (ends : HasEnds s n) (t : length text ≡ 3200) (b : length bin ≡ 400) where
  abbrev file : List ℕ
  file = s.loaded.bytes

  abbrev front : List ℕ
  front = text ++ bin ++ concat (blocks_of s.head.blocks (drop 3600 file))

  -- the blocks lie in front of the traces
  blocks-joined : (text ++ bin) ++ drop 3600 file ≡ front ++ drop s.head.traces_at file
  blocks-joined =
      let blocks : List ℕ = concat (blocks_of s.head.blocks (drop 3600 file)) in
      let size : ℕ = 3200 * s.head.blocks in
      let at : 3600 + size ≡ s.head.traces_at = sym ends.front in
      let split : drop 3600 file ≡ blocks ++ drop s.head.traces_at file =
      sym (take-append-drop size (drop 3600 file))
      ∙ ap (λ (l : List ℕ). l ++ drop size (drop 3600 file)) (sym (concat-blocks_of s.head.blocks (drop 3600 file)))
      ∙ ap (λ (l : List ℕ). blocks ++ l) (drop-drop size 3600 file ∙ ap (λ (k : ℕ). drop k file) at) in
      ap (λ (l : List ℕ). (text ++ bin) ++ l) split
      ∙ sym (append_assoc (text ++ bin) blocks (drop s.head.traces_at file))

  front-length : length front ≡ s.head.traces_at
  front-length =
      let blocks : List ℕ = concat (blocks_of s.head.blocks (drop 3600 file)) in
      let cut : length blocks ≡ length (take (3200 * s.head.blocks) (drop 3600 file)) = ap (λ (l : List ℕ). length l) (concat-blocks_of s.head.blocks (drop 3600 file)) in
      omega (
        arith,
        t,
        b,
        cut,
        ends.front,
        ends.whole,
        length-append (text ++ bin) blocks,
        length-append text bin,
        length-take (3200 * s.head.blocks) (drop 3600 file),
        length-drop 3600 file,
      )

  abbrev records : ℕ
  records = length file - 3200 * s.head.trailer

  abbrev end : ℕ
  end = records - n

  -- the tail and the data trailer records
  abbrev behind : List ℕ
  behind = tail_at file s.head n ++ concat (blocks_of s.head.trailer (drop records file))

  behind-joined : drop end file ≡ behind
  behind-joined =
      let short : length (drop records file) ≤ 3200 * s.head.trailer = omega (arith, length-drop records file) in
      let place : end + n ≡ records = omega (arith, ends.whole) in
      let last : drop n (drop end file) ≡ concat (blocks_of s.head.trailer (drop records file)) =
      drop-drop n end file ∙ ap (λ (k : ℕ). drop k file) place
      ∙ sym (take_all (3200 * s.head.trailer) (drop records file) short) ∙ sym (concat-blocks_of s.head.trailer (drop records file)) in
      sym (take-append-drop n (drop end file)) ∙ ap (λ (l : List ℕ). tail_at file s.head n ++ l) last

  abbrev runs : List Span
  runs = flat_map runs_in (layers_of s)

  parts-joined : front ++ (concat (traces_of s) ++ behind) ≡ bytes_of (volume_with text bin n s)
  parts-joined = sym (append_assoc front (concat (traces_of s)) behind)

  runs-laid : unfit_of n s ≡ None → laid_all runs (front ++ drop s.head.traces_at file) ≡ bytes_of (volume_with text bin n s)
  runs-laid fits =
      let over = over-ids s.loaded s.head s.slots s.order.ids s.sound.held in
      laid-traces file s.head.traces_at 1 end front (layers_of s) front-length over fits
      ∙ ap (λ (ts : List (List ℕ)). front ++ (concat ts ++ drop end file)) (sym (shown-ids file s.slots s.order.ids))
      ∙ ap (λ (l : List ℕ). front ++ (concat (traces_of s) ++ l)) behind-joined
      ∙ parts-joined

  changes-laid : unfit_of n s ≡ None → laid_all (changes_of text bin s) file ≡ bytes_of (volume_with text bin n s)
  changes-laid fits =
      let whole : 3600 ≤ length file = omega (arith, ends.front, ends.whole) in
      laid_all-append (header_change 0 text file) (header_change 3200 bin file ++ runs) file
      ∙ laid_all-append (header_change 3200 bin file) runs (laid_all (header_change 0 text file) file)
      ∙ ap (λ (f : List ℕ). laid_all runs f) (headers-laid text bin file t b whole ∙ blocks-joined)
      ∙ runs-laid fits

  pub law : unfit_of n s ≡ None → laid_all (pieces_of text bin s) s.loaded.bytes ≡ bytes_of (volume_with text bin n s)
  law fits = laid-pieces (changes_of text bin s) file ∙ changes-laid fits

  pub inside : ArePiecesOf (length s.loaded.bytes) (pieces_of text bin s)
  inside =
      let over = over-ids s.loaded s.head s.slots s.order.ids s.sound.held in
      let first : AllByRecursion (IsInFile (length file)) (header_change 0 text file) = header-inside 0 text file (length file) (omega (arith, t, ends.front, ends.whole)) in
      let second : AllByRecursion (IsInFile (length file)) (header_change 3200 bin file) = header-inside 3200 bin file (length file) (omega (arith, b, ends.front, ends.whole)) in
      pieces-inside (length file) (changes_of text bin s) (all-append (IsInFile (length file)) (header_change 0 text file) (header_change 3200 bin file ++ runs) first (all-append (IsInFile (length file)) (header_change 3200 bin file) runs second (traces-inside file (layers_of s) over)))
