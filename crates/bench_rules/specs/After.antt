-- What an edit makes of a volume's bytes and of the field map.
use Rattle.std.specs.Prelude.{ℕ, ◌-◌, ◌*◌, nat_abs, ℤ, List}
use Rattle.std.specs.Option.{option_map_or}
use Rattle.std.specs.Str.{chars}
use Rattle.num_order.specs.Number.{bytes}
use Rattle.field_map.specs.declared.place.Place.{Place}
use Rattle.field_map.specs.Pairs.{Pairs, bound, unbound}
use Rattle.text_block.specs.Blocks.{code_of}
use Rattle.text_block.specs.Lines.{encoded_line}
use Rattle.frame_cut.specs.Parts.{untailed}
use Rattle.frame_cut.specs.Splice.{splice}
use Rattle.frame_cut.specs.Volume.{Volume, bytes_of}
use Rattle.bench_rules.specs.declared.edit.Edit.{Edit}
use Rattle.bench_rules.specs.declared.edit.Edit.TheVariants.{Set, SetBin, Declare, DropTail, SetText, Map, MapAs, Unmap, Patch, Blank, Copy, Delete, Move, MoveBlock, Resize, Renumber, Compute, Sort, OfChosen}
use Rattle.bench_rules.specs.BlockMoves.{bytes_after_block_move}
use Rattle.bench_rules.specs.Mappings.{all_bound, bindings}
use Rattle.bench_rules.specs.Places.{place_in_trace, place_in_binary}
use Rattle.bench_rules.specs.Computed.{formula_of}
use Rattle.bench_rules.specs.ComputedBytes.{bytes_after_compute}
use Rattle.bench_rules.specs.ChosenEdits.{bytes_after_chosen}
use Rattle.bench_rules.specs.ManyTraces.{each_of}
use Rattle.declared_frame.specs.Written.{with_declared}
use Rattle.bench_rules.specs.State.{State}
use Rattle.bench_rules.specs.Sorted.{bytes_after_sort}
use Rattle.bench_rules.specs.TraceEdits.{put_in_trace, bytes_after_resize, bytes_after_renumber}
use Rattle.bench_rules.specs.WholeTraces.{bytes_after_patch, with_blank, with_copy, bytes_after_delete, bytes_after_move}

-- the value over a place of the binary header
abbrev pub put_in_binary : Volume → Place → ℤ → List ℕ → List ℕ
put_in_binary v place x file = splice file (place.byte - 1) place.kind.size (bytes v.head.order place.kind x)

-- the file's bytes after the edit
abbrev pub bytes_after : State → Edit → List ℕ
bytes_after s (Set p field x) = option_map_or (λ place. put_in_trace s.volume p place x (bytes_of s.volume)) (place_in_trace s.fields field) (bytes_of s.volume)
bytes_after s (SetBin field x) = option_map_or (λ place. put_in_binary s.volume place x (bytes_of s.volume)) (place_in_binary field) (bytes_of s.volume)
bytes_after s Declare = bytes_of (with_declared s.reading s.volume)
bytes_after s DropTail = bytes_of (untailed s.volume)
bytes_after s (SetText q text) = splice (bytes_of s.volume) (80 * (q - 1)) 80 (encoded_line (code_of s.volume.text) (chars text))
bytes_after s (Map name field) = bytes_of s.volume
bytes_after s (MapAs mapping) = bytes_of s.volume
bytes_after s (Unmap name) = bytes_of s.volume
bytes_after s (Patch p k values) = bytes_after_patch s.volume p k values
bytes_after s (Blank p) = with_blank s.volume p
bytes_after s (Copy q p) = with_copy s.volume q p
bytes_after s (Delete p) = bytes_after_delete s.volume p
bytes_after s (Move a b) = bytes_after_move s.volume a b
bytes_after s (MoveBlock a b to) = bytes_after_block_move s.volume a b to
bytes_after s (Resize p m) = bytes_after_resize s.volume p (nat_abs m)
bytes_after s (Renumber a b field first step) = option_map_or (λ place. bytes_after_renumber s.volume a b place first step) (place_in_trace s.fields field) (bytes_of s.volume)
bytes_after s (Compute a b field source steps) = option_map_or (λ f. bytes_after_compute s.volume f a b) (formula_of s.fields field source steps) (bytes_of s.volume)
bytes_after s (Sort a b names falls) = option_map_or (λ places. bytes_after_sort s.volume places falls a b) (each_of (place_in_trace s.fields) names) (bytes_of s.volume)
bytes_after s (OfChosen c edit) = bytes_after_chosen s.volume s.fields c edit

-- the field map after the edit
abbrev pub fields_after : Pairs → Edit → Pairs
fields_after fields (Map name field) = option_map_or (λ place. bound fields name place) (place_in_trace fields field) fields
fields_after fields (MapAs mapping) = all_bound fields (bindings mapping)
fields_after fields (Unmap name) = unbound fields name
fields_after fields (Set p field x) = fields
fields_after fields (SetBin field x) = fields
fields_after fields Declare = fields
fields_after fields DropTail = fields
fields_after fields (SetText q text) = fields
fields_after fields (Patch p k values) = fields
fields_after fields (Blank p) = fields
fields_after fields (Copy q p) = fields
fields_after fields (Delete p) = fields
fields_after fields (Move a b) = fields
fields_after fields (MoveBlock a b to) = fields
fields_after fields (Resize p m) = fields
fields_after fields (Renumber a b field first step) = fields
fields_after fields (Compute a b field source steps) = fields
fields_after fields (Sort a b names falls) = fields
fields_after fields (OfChosen c edit) = fields
