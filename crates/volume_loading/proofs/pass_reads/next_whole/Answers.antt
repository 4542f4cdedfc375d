use Rattle.std.proofs.Common.{◌≡◌, ◌∙◌, ◌+◌, ◌-◌, ◌≤◌, Err, Some, ap, length, inl, inr, arith}
use Rattle.std.proofs.lemmas.List.{length-drop}
use Rattle.std.proofs.lemmas.Result.{err_from_is_err_and}
use Rattle.frame_cut.specs.declared.load_fault.LoadFault.TheVariants.{OutOfMemory}
use Rattle.frame_cut.specs.Walk.{left_at}
use Rattle.frame_cut.proofs.MemoryLemmas.{trace_memory}
use Rattle.trace_store.specs.Stores.{traces_of}
use Rattle.volume_loading.proofs.PassingLemmas.{hold_fault}
use Rattle.volume_loading.proofs.PassLemmas.{length_at, refused_at, some_file, tail_at, IsFrontAt}
use Rattle.volume_loading.proofs.pass_reads.next_whole.Goals as goal

pub returns-in-Err-clause-kept : goal.returns-in-Err-clause-kept
returns-in-Err-clause-kept g c = λ _.
    let s = c.args.store.now in
    let next = c.hold.ensures.next c.args.at c.requires.next in
    let is : IsFrontAt c.hold.new.self.loaded.bytes c.args.size s.head (length (traces_of s) + 1) c.args.at c.hold.new.window.bytes c.hold.new.self.head _ _ c.front.result.now c.min-front.result = record {
      head = c.hold.ensures.grown.head;
      number = omega (arith, c.from-p.ensures, c.count.ensures.traces);
      rest = omega (arith, c.from.ensures);
      shown = c.front.ensures;
      is_next = next;
      there = c.in_ok-hold.ensures.there;
      fits = omega (arith, c.min-front.ensures);
    } in
    tail_at c.hold.new.self.loaded.bytes c.args.size s.head c.args.limits (length (traces_of s) + 1) c.args.at c.hold.new.window.bytes c.hold.new.self.head _ _ c.front.result.now c.min-front.result is c.args.reading c.in-Err.fault c.keeps.result c.in-Err.ensures.refused c.keeps.ensures c.if-keeps.true

pub returns-in-Err-2-clause-refused : goal.returns-in-Err-2-clause-refused
returns-in-Err-2-clause-refused g c =
    let s = c.args.store.now in
    let next = c.hold.ensures.next c.args.at c.requires.next in
    let is : IsFrontAt c.hold.new.self.loaded.bytes c.args.size s.head (length (traces_of s) + 1) c.args.at c.hold.new.window.bytes c.hold.new.self.head _ _ c.front.result.now c.min-front.result = record {
      head = c.hold.ensures.grown.head;
      number = omega (arith, c.from-p.ensures, c.count.ensures.traces);
      rest = omega (arith, c.from.ensures);
      shown = c.front.ensures;
      is_next = next;
      there = c.in_ok-hold.ensures.there;
      fits = omega (arith, c.min-front.ensures);
    } in
    inr (refused_at c.hold.new.self.loaded.bytes c.args.size s.head c.args.limits (length (traces_of s) + 1) c.args.at c.hold.new.window.bytes c.hold.new.self.head _ _ c.front.result.now c.min-front.result is c.args.reading c.in-Err.fault c.keeps.result c.in-Err.ensures.refused c.keeps.ensures c.if-keeps.false)

pub returns-in-Err-2-clause-memory : goal.returns-in-Err-2-clause-memory
returns-in-Err-2-clause-memory g c =
    let s = c.args.store.now in
    let next = c.hold.ensures.next c.args.at c.requires.next in
    let is : IsFrontAt c.hold.new.self.loaded.bytes c.args.size s.head (length (traces_of s) + 1) c.args.at c.hold.new.window.bytes c.hold.new.self.head _ _ c.front.result.now c.min-front.result = record {
      head = c.hold.ensures.grown.head;
      number = omega (arith, c.from-p.ensures, c.count.ensures.traces);
      rest = omega (arith, c.from.ensures);
      shown = c.front.ensures;
      is_next = next;
      there = c.in_ok-hold.ensures.there;
      fits = omega (arith, c.min-front.ensures);
    } in
    let refused = refused_at c.hold.new.self.loaded.bytes c.args.size s.head c.args.limits (length (traces_of s) + 1) c.args.at c.hold.new.window.bytes c.hold.new.self.head _ _ c.front.result.now c.min-front.result is c.args.reading c.in-Err.fault c.keeps.result c.in-Err.ensures.refused c.keeps.ensures c.if-keeps.false in
    let file = some_file c.hold.new.self.loaded.bytes c.args.size c.hold.ensures.within in
    let told = (refused file.0 file.1).0 in
    record {
      never_falls = omega arith;
      rose = λ p.
          let memory : c.in-Err.fault ≡ OutOfMemory = cc in
          absurd (trace_memory s.head c.args.limits (length (traces_of s) + 1) (left_at file.0 s.head c.args.at) (told ∙ ap Some memory));
    }

pub returns-clause-whole : goal.returns-clause-whole
returns-clause-whole g c =
    let s = c.args.store.now in
    let next = c.hold.ensures.next c.args.at c.requires.next in
    let is : IsFrontAt c.hold.new.self.loaded.bytes c.args.size s.head (length (traces_of s) + 1) c.args.at c.hold.new.window.bytes c.hold.new.self.head _ _ c.front.result.now c.min-front.result = record {
      head = c.hold.ensures.grown.head;
      number = omega (arith, c.from-p.ensures, c.count.ensures.traces);
      rest = omega (arith, c.from.ensures);
      shown = c.front.ensures;
      is_next = next;
      there = c.in_ok-hold.ensures.there;
      fits = omega (arith, c.min-front.ensures);
    } in
    length_at c.hold.new.self.loaded.bytes c.args.size s.head c.args.limits (length (traces_of s) + 1) c.args.at c.hold.new.window.bytes c.hold.new.self.head _ _ c.front.result.now c.min-front.result is c.in-Ok.length c.in-Ok.ensures.whole
    c.hold-2.new.self.loaded.bytes c.hold-2.ensures.grown.loaded.begins

pub returns-in_err-hold-2-clause-refused : goal.returns-in_err-hold-2-clause-refused
returns-in_err-hold-2-clause-refused g c =
    let before = c.hold.new.self.loaded in
    let now = c.hold-2.new.self.loaded in
    let window = c.hold.new.window.bytes in
    let next = c.hold.ensures.next c.args.at c.requires.next in
    let e = c.in_err-hold-2.ensures in
    let fits : c.in-Ok.length ≤ length window + (c.args.size - length before.bytes) = omega (arith, c.in-Ok.ensures.fits, c.from.ensures, next.inside, ap length next.rest, length-drop c.args.at before.bytes, c.hold.ensures.within) in
    let p = err_from_is_err_and c.from_residual-in_err-hold-2.result c.from_residual-in_err-hold-2.ensures.1 in
    rw (rw p.2 at p.1) (inl (hold_fault c.args.size before now c.in-Ok.length (length window) c.in_err-hold-2.field-0.0 e.fault (λ failed. e.failed (ap Err failed)) e.grown.loaded.standing fits))
