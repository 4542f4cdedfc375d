use Rattle.std.proofs.Common.{◌≡◌, ◌+◌, ◌≤◌, length, take, drop}
use Rattle.std.specs.List.{AllByRecursion}
use Rattle.std.specs.Vec.{vec_capacity}
use Rattle.trace_seq.specs.Chunks.{IsEmpty}
use Rattle.trace_seq.proofs.thinning.pour.Given as goal

abbrev pub invariant-loop : goal.invariant-loop
invariant-loop l = record {
  turns : length l.chunks.items + l.counter ≡ length l.fn.chunks.items + l.kept;
  after : l.kept ≤ l.counter;
  front : take l.kept l.chunks.items ≡ take l.kept l.fn.chunks.items;
  none : AllByRecursion IsEmpty (drop l.kept l.chunks.items);
  empty : AllByRecursion IsEmpty l.spares.items;
  all : length l.chunks.items + length l.spares.items ≡ length l.fn.chunks.items + length l.fn.spares.items;
  chunk_room : vec_capacity l.fn.chunks ≤ vec_capacity l.chunks;
  spare_room : vec_capacity l.fn.spares ≤ vec_capacity l.spares;
}
