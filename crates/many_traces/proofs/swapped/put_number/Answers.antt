use Rattle.std.proofs.Common.{◌≡◌, ◌∙◌, ℕ, ◌-◌, ◌+◌, ◌++◌, List, take, drop, ap, sym, rules, arith, append_assoc}
use Rattle.std.proofs.lemmas.Int.{to_z-of_z}
use Rattle.std.proofs.lemmas.List.{drop-drop}
use Rattle.std.specs.Int.{w128}
use mir.Val.{SFits}
use borrow.Rule.Slice.PartMut.{put_mid}
use Rattle.num_order.specs.Number.{bytes}
use Rattle.field_map.specs.Places.{offset_of}
use Rattle.frame_cut.specs.Splice.{splice}
use Rattle.many_traces.proofs.swapped.put_number.Goals as goal

-- a part that was written is a splice
spliced : (at n : ℕ) (t new : List ℕ) → put_mid at n t new ≡ splice t at n new
spliced at n t new = sym (append_assoc (take at t) new (drop n (drop at t))) ∙ ap (λ (s : List ℕ). take at t ++ new ++ s) (drop-drop n at t)

pub returns : goal.returns
returns c =
    let fit : SFits w128 c.args.number = search rules in
    let from : c.offset.result - c.args.at ≡ offset_of c.args.place - c.args.at = ap (λ (n : ℕ). n - c.args.at) c.offset.ensures in
    let long : c.offset.result - c.args.at + c.from.result - (c.offset.result - c.args.at) ≡ c.args.place.kind.size = omega (arith, c.from.ensures) in
    let written : c.write.new.bytes ≡ bytes c.args.order c.args.place.kind c.args.number = c.write.ensures ∙ ap (bytes c.args.order c.args.place.kind) (to_z-of_z w128 c.args.number fit) in
    spliced (c.offset.result - c.args.at) (c.offset.result - c.args.at + c.from.result - (c.offset.result - c.args.at)) c.args.bytes.now c.write.new.bytes
    ∙ ap (λ (n : ℕ). splice c.args.bytes.now n (c.offset.result - c.args.at + c.from.result - (c.offset.result - c.args.at)) c.write.new.bytes) from
    ∙ ap (λ (n : ℕ). splice c.args.bytes.now (offset_of c.args.place - c.args.at) n c.write.new.bytes) long
    ∙ ap (splice c.args.bytes.now (offset_of c.args.place - c.args.at) c.args.place.kind.size) written
