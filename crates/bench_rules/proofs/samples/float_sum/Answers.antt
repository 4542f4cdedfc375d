use Rattle.std.proofs.Common.{◌≡◌, ◌∙◌, ◌++◌, ◌∷◌, [], ℤ, List, All, length, true, arith, rules, ap, sym, subst, SFits}
use Rattle.std.specs.Int.{w128}
use Rattle.std.specs.Float.{Float}
use Rattle.std.proofs.lemmas.Int.{to_z-of_z}
use Rattle.std.proofs.lemmas.List.{append_assoc, length-append}
use Rattle.std.proofs.lemmas.List.Elements.{All-head, All-tail}
use Rattle.num_order.specs.Number.{is_between}
use Rattle.float_codes.specs.Ranks.{value_at}
use Rattle.bench_rules.specs.FloatStatistics.{floats_of}
use Rattle.bench_rules.proofs.samples.float_sum.Goals as goal

pub ranks-preserved : goal.ranks-preserved
ranks-preserved c =
    let rank = c.in-Some.rank in
    let rest = c.next.new.self in
    let total = c.ranks.total in
    let fit : SFits w128 rank = search rules in
    let each : All (λ r. is_between true 8 r ≡ true) (rank ∷ rest) = subst (λ (l : List ℤ). All (λ r. is_between true 8 r ≡ true) l) c.in-Some.ensures.steps c.ranks.invariant.ranks in
    let small : is_between true 8 rank ≡ true = All-head (λ r. is_between true 8 r ≡ true) rank rest each in
    let value : c.value_of.result ≡ value_at rank = (rw (to_z-of_z w128 rank fit) at c.value_of.ensures) small in
    let added : c.add.new.self ≡ total ++ value_at rank ∷ [] = c.add.ensures ∙ ap (λ (v : Float). total ++ v ∷ []) value in
    record {
      all = ap (λ (t : List Float). t ++ floats_of rest) added
          ∙ append_assoc total (value_at rank ∷ []) (floats_of rest)
          ∙ ap (λ (l : List ℤ). total ++ floats_of l) (sym c.in-Some.ensures.steps)
          ∙ c.ranks.invariant.all;
      few = omega (arith, c.ranks.invariant.few, ap length added, length-append total (value_at rank ∷ []), ap length c.in-Some.ensures.steps);
      ranks = All-tail (λ r. is_between true 8 r ≡ true) rank rest each;
    }
