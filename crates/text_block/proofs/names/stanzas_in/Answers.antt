use Rattle.std.proofs.Common.{◌∙◌, ap, arith, ◌+◌, ◌∷◌, ◌++◌, drop, map, string_bytes}
use Rattle.std.proofs.lemmas.List.{map-append}
use Rattle.text_block.specs.Stanzas.{stanzas_behind}
use Rattle.text_block.proofs.StanzaLemmas.{behind-none, behind-some, next-name, slice_range-long}
use Rattle.text_block.proofs.names.stanzas_in.Goals as goal

pub loop-at-preserved-in-Some : goal.loop-at-preserved-in-Some
loop-at-preserved-in-Some c =
    let some = behind-some c.args.text.now c.as_bytes.result.now c.loop-at.at c.in-Some.length c.as_bytes.ensures.value c.loop-at-test.true c.in-Some.ensures.within c.in-Some.ensures.name in
    let name = (rw c.in_ok-name-in-Some.ensures.ok at c.from_str-made.ensures.ok) ∙ c.range.ensures.value ∙ slice_range-long c.args.text.now (c.loop-at.at + 2) c.in-Some.length in
    let pushed = rw c.in_ok-told_back-in-Some.ensures.ok at c.push.ensures.items in
    record {
      names = rw (pushed, map-append)
          (next-name (map string_bytes c.loop-at.names.items) (string_bytes c.in_ok-name-in-Some.name) (stanzas_behind 0 (drop (c.loop-at.at + (c.in-Some.length + 4)) c.args.text.now)) _ _
          (ap (λ n. n ∷ stanzas_behind 0 (drop (c.loop-at.at + (c.in-Some.length + 4)) c.args.text.now)) name ∙ some)
          c.loop-at.invariant.names);
      memory = grind arith;
    }

pub loop-at-preserved : goal.loop-at-preserved
loop-at-preserved c = record {
  names = ap (λ ys. map string_bytes c.loop-at.names.items ++ ys) (behind-none c.args.text.now c.as_bytes.result.now c.loop-at.at c.as_bytes.ensures.value c.loop-at-test.true (c.in-None.ensures.name)) ∙ c.loop-at.invariant.names;
  memory = c.loop-at.invariant.memory;
}
