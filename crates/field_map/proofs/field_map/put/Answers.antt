use Rattle.std.proofs.Common.{◌∙◌, refl, ap, bytes_eq}
use Rattle.std.specs.String.{string_bytes, string_eq}
use Rattle.field_map.specs.Pairs.{bound, shown}
use Rattle.field_map.proofs.ShownLemmas.{insert_entry-shown, insert_entry-bound}
use Rattle.field_map.proofs.field_map.put.Goals as goal

pub returns-clause-ok : goal.returns-clause-ok
returns-clause-ok c = ap shown (rw c.in_ok-told_back.ensures.ok at c.insert-inserted.ensures.entries) ∙ insert_entry-shown string_bytes string_eq bytes_eq (λ j k. refl) c.in_ok-key.key c.args.place c.args.map.now.entries
    ∙ insert_entry-bound (shown c.args.map.now.entries) (string_bytes c.in_ok-key.key) c.args.place
    ∙ ap (λ n. bound (shown c.args.map.now.entries) n c.args.place) (rw c.in_ok-key.ensures.ok at c.from_str-made.ensures.ok)
