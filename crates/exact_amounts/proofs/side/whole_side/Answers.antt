use Rattle.std.proofs.Common.{◌∙◌, ◌*◌, ◌^◌, nat_cmp, lit<, sym, ap, mul-one}
use Rattle.exact_amounts.proofs.SideLemmas.{infinite_side_of, finite_side_of}
use Rattle.exact_amounts.proofs.side.whole_side.Goals as goal

pub returns-then-not-is_finite : goal.returns-then-not-is_finite
returns-then-not-is_finite c = infinite_side_of c.args.size 1 (lit< tt) c.args.near c.requires (sym c.is_finite.ensures.value ∙ c.if-not-is_finite.true)

pub returns : goal.returns
returns c =
    let v = c.size_parts-digits.result.0 * 2 ^ c.size_parts-digits.result.1 in
    c.compare_whole.ensures ∙ ap (nat_cmp (c.args.size * 2 ^ 1074)) (sym (mul-one v))
    ∙ finite_side_of c.args.size 1 (lit< tt) c.args.near c.requires (sym c.is_finite.ensures.value ∙ c.if-not-is_finite.false) v c.size_parts-digits.ensures.size
