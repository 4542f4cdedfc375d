-- Numbers between two whole ones.
use Rattle.std.specs.Prelude.{ℕ, ◌+◌, ◌%◌, Bool, if◌then◌else◌}
use Rattle.std.specs.declared.cmp.Ordering.{Ordering}
use Rattle.std.specs.declared.cmp.Ordering.TheVariants.{Less, Equal, Greater}

-- a number, or the next one, by how what follows it stands to a half: at a half the even one
abbrev pub rounded_to : ℕ → Ordering → ℕ
rounded_to q Less = q
rounded_to q Equal = q + q % 2
rounded_to q Greater = q + 1

-- how a number stands to a whole one, if this is how its whole part does, and it may have a rest
abbrev pub with_rest : Ordering → Bool → Ordering
with_rest Less rest = Less
with_rest Equal rest = if rest then Greater else Equal
with_rest Greater rest = Greater
