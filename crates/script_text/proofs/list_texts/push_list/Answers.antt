use Rattle.std.proofs.Common.{ℕ, List, map, subst, sym}
use Rattle.std.proofs.lemmas.List.{length-map}
use Rattle.line_texts.specs.Devices.{device_of}
use Rattle.line_texts.specs.Printing.{Pushes}
use Rattle.line_texts.specs.Lines.{counted_lines}
use Rattle.script_text.proofs.list_texts.push_list.Goals as goal

-- as many lines follow as the list has items
pub returns : goal.returns
returns g c =
    let a = c.args in
    let lines : List (List ℕ) = map (g.T.Listed.text a.word.now) a.items.now in
    subst (λ (n : ℕ). Pushes (device_of g.W.Write.contents a.writer.now) (device_of g.W.Write.contents c.push_counted.new.writer) a.out.now c.push_counted.new.out (counted_lines a.list.now n lines) c.push_counted.result)
    (sym (length-map a.items.now (g.T.Listed.text a.word.now))) c.push_counted.ensures
