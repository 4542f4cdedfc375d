use Rattle.std.proofs.Common.{ℕ, ap, sym, ◌∙◌}
use Rattle.byteorder.specs.Endian.{big_number, little_number}
use Rattle.num_order.proofs.NumberLemmas.{high_first-is, low_first-is}
use Rattle.trace_record.proofs.header_fields.u16_of.Goals as goal

pub returns-in-Big : goal.returns-in-Big
returns-in-Big c =
    let bytes = c.args.bytes.now in
    rw c.in-Big.is (c.read_u16.ensures ∙ ap (λ (n : ℕ). big_number n bytes) (sym c.requires) ∙ high_first-is bytes)

pub returns-in-Little : goal.returns-in-Little
returns-in-Little c =
    let bytes = c.args.bytes.now in
    rw c.in-Little.is (c.read_u16-in-Little.ensures ∙ ap (λ (n : ℕ). little_number n bytes) (sym c.requires) ∙ low_first-is bytes)
