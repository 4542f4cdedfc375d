use Rattle.std.proofs.Common.{rules, arith, map, drop, length, sym, ap₂, ◌∙◌, ◌<◌}
use Rattle.window_counts.specs.Window.{is_first}
use Rattle.window_counts.proofs.MergeLemmas.{put-first, all_left, put_behind}
use Rattle.window_counts.proofs.listing.merged.Goals as goal

pub loop-i-preserved-then-is_first : goal.loop-i-preserved-then-is_first
loop-i-preserved-then-is_first g c =
    let short : c.loop-i.i < length c.args.some.now = search rules in
    record {
      memory = grind arith;
      some = omega arith;
      others = c.loop-i.invariant.others;
      entries = put-first g.K.Ord.cmp c.args.some.now (drop c.loop-i.j c.args.others.now) c.loop-i.i _ (map g.T.FromCount.count c.loop-i.list.items) (map g.T.FromCount.count c.push.new.self.items) _ short c.index-some-i.is
          (ap₂ (is_first g.K.Ord.cmp) (sym (all_left c.args.some.now c.loop-i.i)) (sym (all_left c.args.others.now c.loop-i.j)) ∙ sym c.is_first.ensures ∙ c.if-is_first.true) c.loop-i.invariant.entries
          (put_behind g.T.FromCount.count c.loop-i.list.items c.push.new.self.items c.from_count.result _ (rw c.in_ok-told_back.ensures.ok at c.push.ensures.items) c.from_count.ensures);
    }
