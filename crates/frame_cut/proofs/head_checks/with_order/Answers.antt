use Rattle.std.proofs.Common.{◌≡◌, ◌∙◌, ℕ, false, refl, sym, ap₂}
use Rattle.std.specs.Prelude.{◌||◌, ◌&&◌, ◌==◌, nat_lt, not}
use Rattle.frame_cut.specs.BinaryHeader.{is_unknown_revision}
use Rattle.frame_cut.proofs.FrontLemmas.{tells_to}
use Rattle.frame_cut.proofs.OrderLemmas.{from_fourth, revision_passed}
use Rattle.frame_cut.proofs.head_checks.with_order.Goals as goal

pub returns-clause-told : goal.returns-clause-told
returns-clause-told c = λ all begun.
    let o = c.args.order in
    let bin = c.args.bin.now in
    let known : is_unknown_revision o bin ≡ false =
    sym (c.is_unknown_revision.ensures ∙ ap₂ (λ (a b : ℕ). nat_lt 2 a || (a == 2 && not (b == 0))) c.major-major.ensures c.minor-minor.ensures) ∙ c.if-is_unknown_revision.false in
    tells_to c.with_revision.result _ _ (revision_passed c.args.reading o bin all (from_fourth c.args.reading o bin all) known refl) (c.with_revision.ensures.told all begun)
