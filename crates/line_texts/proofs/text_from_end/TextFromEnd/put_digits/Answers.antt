use Rattle.std.proofs.Common.{◌≡◌, ◌≤◌, ◌+◌, ◌∙◌, ℕ, List, length, drop, decimal, arith, rules, ap}
use Rattle.std.proofs.lemmas.Fmt.{length-decimal-le}
use Rattle.std.proofs.lemmas.List.{length-append, length-drop}
use Rattle.line_texts.proofs.text_from_end.TextFromEnd.put_digits.Goals as goal

pub write_digits-self-inside-requires : goal.write_digits-self-inside-requires
write_digits-self-inside-requires c =
    let few : length (decimal c.args.number) ≤ 20 = length-decimal-le 20 c.args.number (omega arith) (omega arith) c.ranges.number.fits in
    let there : length (drop c.self.inside.start c.self.inside.bytes) ≡ length c.args.self.now = ap (λ (l : List ℕ). length l) c.self.view_is in
    let room : length c.self.inside.bytes ≡ 192 = search rules in
    (omega (arith, few, c.requires, there, room, length-drop c.self.inside.start c.self.inside.bytes), search rules)

pub returns-clause-short : goal.returns-clause-short
returns-clause-short c =
    let few : length (decimal c.args.number) ≤ 20 = length-decimal-le 20 c.args.number (omega arith) (omega arith) c.ranges.number.fits in
    let there : length (drop c.self.inside.start c.self.inside.bytes) ≡ length c.args.self.now = ap (λ (l : List ℕ). length l) c.self.view_is in
    let long : length (drop c.write_digits-self-inside.result c.write_digits-self-inside.new.buf) ≡ length (decimal c.args.number) + length (drop c.self.inside.start c.self.inside.bytes)
    = ap (λ (l : List ℕ). length l) c.write_digits-self-inside.ensures.written ∙ length-append (decimal c.args.number) (drop c.self.inside.start c.self.inside.bytes) in
    omega (arith, few, there, long)
