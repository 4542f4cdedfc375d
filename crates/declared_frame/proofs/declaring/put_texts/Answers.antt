use Rattle.std.proofs.Common.{rules, ◌≡◌, ◌≢◌, ◌∙◌, ap, sym, ℕ, ℤ, Bool, true, false, cond, eqb, List, ◌⊎◌, inl, inr, Some, FitsSigned, to_z, of_z, w16}
use Rattle.std.specs.Int.{w128}
use Rattle.std.proofs.lemmas.Int.{to_z-of_z}
use Rattle.std.proofs.lemmas.Bool.Decides.{eqb_tells}
use Rattle.num_order.specs.Number.{bytes}
use Rattle.declared_frame.specs.Written.{put_at, with_texts}
use Rattle.declared_frame.proofs.declaring.put_texts.Goals as goal

pub returns-then-head-ne0 : goal.returns-then-head-ne0
returns-then-head-ne0 c =
    let fits : FitsSigned w16 c.in-Some.count = search rules in
    let same : c.from.result ≡ c.in-Some.count = c.from.ensures ∙ to_z-of_z w16 c.in-Some.count fits in
    let wide : FitsSigned w128 c.from.result = search rules in
    let whole : to_z w128 (of_z w128 c.from.result) ≡ c.from.result = to_z-of_z w128 c.from.result wide in
    let put : c.put.new.bin ≡ put_at 3505 (bytes c.args.head.order (record { size = 2; signed = true }) (to_z w128 (of_z w128 c.from.result))) c.args.bin.now = c.put.ensures in
    let some : eqb c.args.head.major 0 ≡ false = by (eqb_tells c.args.head.major 0) in
    put
    ∙ ap (λ (n : ℤ). put_at 3505 (bytes c.args.head.order (record { size = 2; signed = true }) n) c.args.bin.now) (whole ∙ same)
    ∙ sym (ap (λ (b : Bool). cond b c.args.bin.now (put_at 3505 (bytes c.args.head.order (record { size = 2; signed = true }) c.in-Some.count) c.args.bin.now)) some)
    ∙ ap (λ t. with_texts c.args.head t c.args.bin.now) (sym c.in-Some.is)
  where
    by : ((eqb c.args.head.major 0 ≡ true) × (c.args.head.major ≡ 0)) ⊎ ((eqb c.args.head.major 0 ≡ false) × (c.args.head.major ≢ 0)) → eqb c.args.head.major 0 ≡ false
    by (inl p) = absurd (c.if-head-ne0.true p.1)
    by (inr p) = p.0
