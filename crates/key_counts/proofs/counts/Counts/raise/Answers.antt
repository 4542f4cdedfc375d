use Rattle.std.proofs.Common.{◌≡◌, ◌∙◌, sym, ap, ℕ, ◌+◌, ◌<◌, arith, Some}
use Rattle.std.specs.Map.{lookup}
use Rattle.std.specs.BTreeMap.{is_at}
use Rattle.std.specs.Prelude.{unwrap_or}
use Rattle.std.proofs.lemmas.Map.Views.{All-values-insert_entry, All-values-set_value}
use Rattle.key_counts.specs.Counts.{count_of}
use Rattle.key_counts.proofs.OneMoreLemmas.{held_is_set}
use Rattle.key_counts.proofs.counts.Counts.raise.Goals as goal

pub invariant_of-self : goal.invariant_of-self
invariant_of-self g c =
    rw (λ (n : ℕ). (c.get_mut.follows.holds n).0) (All-values-set_value (is_at (g.K.Ord.cmp c.args.key)) (λ n. 0 < n) c.self.inside.map.entries _ c.self.invariant (omega arith))

pub returns-in-Some-clause-ok : goal.returns-in-Some-clause-ok
returns-in-Some-clause-ok g c =
    let found : lookup (is_at (g.K.Ord.cmp c.args.key)) c.self.inside.map.entries ≡ Some c.in-Some.held.now = sym c.in-Some.ensures.value in
    let number : count_of g.K.Ord.cmp c.self.inside.map.entries c.args.key ≡ c.in-Some.held.now = ap (λ o. unwrap_or o 0) found in
    rw (← c.self.view_is, number) ((c.get_mut.follows.holds (c.in-Some.held.now + 1)).0
    ∙ held_is_set g.met.K.Ord.total c.args.key c.self.inside.map.entries c.in-Some.held.now (c.in-Some.held.now + 1) c.get_mut.ensures.ordered found)

pub invariant_of-self-2 : goal.invariant_of-self-2
invariant_of-self-2 g c =
    let entries = rw c.in_ok-told_back.ensures.ok at c.insert-inserted.ensures.entries in
    rw (entries, c.get_mut.follows.holds-at-none) (All-values-insert_entry g.K.Ord.cmp c.args.key _ (λ n. 0 < n) c.self.inside.map.entries c.self.invariant (omega arith))
