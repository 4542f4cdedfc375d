use Rattle.std.proofs.Common.{refl}
use Rattle.volume_answers.proofs.of_headers.head_facts.Goals as goal

pub returns : goal.returns
returns c = rw (c.u64_at.ensures, c.u16_at.ensures, c.lines_without_c.ensures) refl
