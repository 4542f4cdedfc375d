use Rattle.std.proofs.Common.{◌≡◌, ℕ, List, take, drop, ◌++◌, false, true, pos, refl, ap, sym, ◌∙◌, ltb, rules, append_assoc}
use Rattle.std.proofs.lemmas.Bool.{lt-ltb, le-ltb}
use Rattle.std.proofs.lemmas.Int.{to_z-of_z}
use Rattle.std.proofs.lemmas.List.{drop-drop}
use Rattle.std.specs.Int.{w128}
use mir.Val.{SFits}
use borrow.Rule.Slice.PartMut.{put_mid}
use Rattle.num_order.specs.Number.{bytes}
use Rattle.frame_cut.specs.Splice.{splice}
use Rattle.bench_rules.specs.TraceEdits.{short_count}
use Rattle.bench_rules.proofs.resize.write_count.Goals as goal

-- a part that was written is a splice
spliced : (at n : ℕ) (t new : List ℕ) → put_mid at n t new ≡ splice t at n new
spliced at n t new = sym (append_assoc (take at t) new (drop n (drop at t))) ∙ ap (λ (s : List ℕ). take at t ++ new ++ s) (drop-drop n at t)

pub returns-then-head-gt0 : goal.returns-then-head-gt0
returns-then-head-gt0 c =
    let h = c.args.head.now in
    let t : List ℕ = c.args.trace.now in
    let some : ltb 0 h.extensions ≡ true = lt-ltb 0 h.extensions c.if-head-gt0.true in
    let f : SFits w128 c.from.result = search rules in
    let g : SFits w128 c.from-then-head-gt0.result = search rules in
    let short : c.write.new.bytes ≡ bytes h.order (record { size = 2; signed = false }) (pos (short_count c.args.m)) =
    c.write.ensures ∙ ap (bytes h.order (record { size = 2; signed = false })) (to_z-of_z w128 c.from.result f ∙ c.from.ensures ∙ ap (λ (n : ℕ). pos n) c.short_count.ensures) in
    let wide : c.write-then-head-gt0.new.bytes ≡ bytes h.order (record { size = 4; signed = false }) (pos c.args.m) =
    c.write-then-head-gt0.ensures ∙ ap (bytes h.order (record { size = 4; signed = false })) (to_z-of_z w128 c.from-then-head-gt0.result g ∙ c.from-then-head-gt0.ensures) in
    spliced 376 4 (put_mid 114 2 t c.write.new.bytes) c.write-then-head-gt0.new.bytes
    ∙ ap (λ (s : List ℕ). splice s 376 4 c.write-then-head-gt0.new.bytes) (spliced 114 2 t c.write.new.bytes)
    ∙ rw (short, wide, some) refl

pub returns-else-head-gt0 : goal.returns-else-head-gt0
returns-else-head-gt0 c =
    let h = c.args.head.now in
    let t : List ℕ = c.args.trace.now in
    let none : ltb 0 h.extensions ≡ false = le-ltb 0 h.extensions c.if-head-gt0.false in
    let f : SFits w128 c.from.result = search rules in
    let short : c.write.new.bytes ≡ bytes h.order (record { size = 2; signed = false }) (pos (short_count c.args.m)) =
    c.write.ensures ∙ ap (bytes h.order (record { size = 2; signed = false })) (to_z-of_z w128 c.from.result f ∙ c.from.ensures ∙ ap (λ (n : ℕ). pos n) c.short_count.ensures) in
    spliced 114 2 t c.write.new.bytes ∙ rw (short, none) refl
