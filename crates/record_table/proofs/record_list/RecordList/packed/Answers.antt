use Rattle.std.proofs.Common.{◌≡◌, ◌∙◌, ℕ, List, Option, Some, None, is_some, length, get_or, ap, sym, ltb}
use Rattle.std.specs.Prelude.{IfSome, option_map, slice_get}
use Rattle.std.specs.Option.{option_copied}
use Rattle.std.proofs.lemmas.Bool.{ltb-true, ltb-false}
use Rattle.std.proofs.lemmas.Option.{slice_get-map, slice_get-get_or, slice_get_past}
use denote.Bor.{Bor}
use Rattle.trace_record.specs.Packed.{record_in}
use Rattle.trace_record.specs.declared.packed_record.PackedRecord.{PackedRecord}
use Rattle.trace_record.specs.declared.record.Record.{Record}
use Rattle.record_table.proofs.record_list.RecordList.packed.Goals as goal

-- a copy of the item that is lent
copied : {X : Type 0} (o : Option (Bor X)) (xs : List X) (k : ℕ) → is_some o ≡ ltb k (length xs) → IfSome o (λ x. x.now ≡ get_or xs k x.now) → option_copied o ≡ slice_get xs k
copied None xs k there is = sym (slice_get_past xs k (ltb-false k (length xs) (sym there)))
copied (Some x) xs k there is = ap Some is ∙ sym (slice_get-get_or xs k x.now (ltb-true k (length xs) (sym there)))

pub returns : goal.returns
returns c =
    let xs : List PackedRecord = c.self.inside.packed.items in
    let lent = rw c.deref.ensures.value at c.get.ensures.lookup in
    ap (option_map record_in) (c.copied.ensures ∙ copied c.get.result xs c.args.place lent.0 lent.1)
    ∙ sym (slice_get-map record_in xs c.args.place)
    ∙ ap (λ (l : List Record). slice_get l c.args.place) c.self.view_is
