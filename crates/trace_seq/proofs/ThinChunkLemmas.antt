-- Chunks from which the ids at some positions are taken out, one chunk after the other.
use Rattle.std.proofs.Common.{◌≡◌, ℕ, ◌+◌, ◌<◌, ◌≤◌, List, [], ◌∷◌, ◌++◌, length, get_or, set, take, drop, refl, sym, ap, ◌∙◌, subst, arith, add-one, length-append}
use Rattle.std.proofs.Math.Seq.{take-suc, take-suc-set}
use Rattle.std.proofs.lemmas.List.{append-nil, drop-drop, drop-set-lt, length-set, length-drop}
use Rattle.std.specs.Vec.{vec_capacity}
use Rattle.trace_seq.specs.declared.chunk.Chunk.{Chunk}
use Rattle.trace_seq.specs.Order.{times}
use Rattle.trace_seq.specs.Chunks.{size, size_at, ids_of, IsFilled}
use Rattle.std.specs.List.{AllByRecursion}
use Rattle.trace_seq.specs.Settling.{IsRoomy, AreThinned}
use Rattle.trace_seq.specs.Without.{without_from, AreRising}
use Rattle.trace_seq.proofs.ChunkIdLemmas.{joined-append, size-read, place-within}
use Rattle.trace_seq.proofs.ThinLemmas.{get-same, without-append, without-same, drop-more, AreLeft}

pub thinned-append : (fs bs cs ds : List Chunk) → AreThinned fs bs → AreThinned cs ds → AreThinned (fs ++ cs) (bs ++ ds)
thinned-append [] [] cs ds f h = h
thinned-append [] (b ∷ bs) cs ds f h = absurd f
thinned-append (a ∷ fs) [] cs ds f h = absurd f
thinned-append (a ∷ fs) (b ∷ bs) cs ds f h = (f.0, thinned-append fs bs cs ds f.1 h)

pub record AreThinnedUpTo (old new : List Chunk) (positions : List ℕ) (first k taken : ℕ) : Type 0 where
  pub start : first ≡ 1 + length (ids_of (take k old))
  pub ids : ids_of (take k new) ≡ without_from 1 (ids_of (take k old)) positions
  pub behind : drop k new ≡ drop k old
  pub long : length new ≡ length old
  pub thinned : AreThinned (take k old) (take k new)
  pub count : 1 + taken + length (ids_of (take k new)) ≡ first
  pub left : AreLeft positions first taken

pub thinned-step : (old new : List Chunk) (positions : List ℕ) (first k taken more : ℕ) (c d : Chunk) → AreThinnedUpTo old new positions first k taken → k < length old → c ≡ get_or new k c
    → d.ids.items ≡ without_from first c.ids.items (drop taken positions) → more + size d ≡ size c → more ≤ length (drop taken positions) → AreRising (first + size c) (drop more (drop taken positions))
    → ((p : ℕ) → first + size c ≤ p → times p (drop more (drop taken positions)) ≡ times p (drop taken positions)) → vec_capacity c.ids ≤ vec_capacity d.ids
    → AreThinnedUpTo old (set new k d) positions (first + size c) (k + 1) (taken + more)
thinned-step old new positions first k taken more c d h short read ids count within rising same room =
    let was : c ≡ get_or old k c = read ∙ get-same k new old c h.behind in
    let fits : k < length new = omega (arith, h.long) in
    let old-take : take (k + 1) old ≡ take k old ++ (c ∷ []) = ap (λ n. take n old) (add-one k) ∙ (take-suc old k c short ∙ ap (λ (x : Chunk). take k old ++ (x ∷ [])) (sym was)) in
    let new-take : take (k + 1) (set new k d) ≡ take k new ++ (d ∷ []) = ap (λ n. take n (set new k d)) (add-one k) ∙ take-suc-set new k d fits in
    let old-ids : ids_of (take (k + 1) old) ≡ ids_of (take k old) ++ c.ids.items = ap ids_of old-take ∙ (joined-append (take k old) (c ∷ []) ∙ ap (λ l. ids_of (take k old) ++ l) (append-nil c.ids.items)) in
    let new-ids : ids_of (take (k + 1) (set new k d)) ≡ ids_of (take k new) ++ d.ids.items = ap ids_of new-take ∙ (joined-append (take k new) (d ∷ []) ∙ ap (λ l. ids_of (take k new) ++ l) (append-nil d.ids.items)) in
    let here : d.ids.items ≡ without_from first c.ids.items positions = ids ∙ without-same first c.ids.items (drop taken positions) positions h.left.same in
    let moved : drop more (drop taken positions) ≡ drop (taken + more) positions = drop-drop more taken positions in
    record {
      start = omega (arith, h.start, ap (λ (l : List ℕ). length l) old-ids, length-append (ids_of (take k old)) c.ids.items);
      ids = new-ids ∙ (ap (λ l. l ++ d.ids.items) h.ids ∙ (ap (λ l. without_from 1 (ids_of (take k old)) positions ++ l) here
          ∙ (ap (λ n. without_from 1 (ids_of (take k old)) positions ++ without_from n c.ids.items positions) h.start
          ∙ (sym (without-append 1 (ids_of (take k old)) c.ids.items positions) ∙ ap (λ l. without_from 1 l positions) (sym old-ids)))));
      behind = drop-set-lt (k + 1) new k d (omega arith) ∙ drop-more k new old h.behind;
      long = length-set new k d ∙ h.long;
      thinned = rw (old-take, new-take) (thinned-append (take k old) (take k new) (c ∷ []) (d ∷ []) h.thinned (
        record { size = omega (arith, count); room = room },
        tt,
      ));
      count = omega (arith, h.count, count, ap (λ (l : List ℕ). length l) new-ids, length-append (ids_of (take k new)) d.ids.items);
      left = record {
        within = omega (arith, within, length-drop taken positions, h.left.within);
        rising = subst (AreRising (first + size c)) moved rising;
        same = λ p le. ap (times p) (sym moved) ∙ (same p le ∙ h.left.same p (omega (arith, le)));
      };
    }

-- the next chunk ends where some ids of the old chunks do
pub behind-fits : (old new : List Chunk) (positions : List ℕ) (first k taken : ℕ) (c : Chunk) → AreThinnedUpTo old new positions first k taken → k < length old → c ≡ get_or new k c → first + size c ≤ length (ids_of old) + 1
behind-fits old new positions first k taken c h short read =
    let was : c ≡ get_or old k c = read ∙ get-same k new old c h.behind in
    omega (arith, h.start, size-read old k c short was, place-within old k (size_at old k) (omega arith))

-- a chunk that is read twice has one size
pub same-size : (cs : List Chunk) (k : ℕ) (c d : Chunk) → k < length cs → c ≡ get_or cs k c → d ≡ get_or cs k d → size c ≡ size d
same-size cs k c d short first second = sym (size-read cs k c short first) ∙ size-read cs k d short second

-- ---- what stays of the chunks

pub thinned-long : (cs ds : List Chunk) → AreThinned cs ds → length ds ≡ length cs
thinned-long [] [] h = refl
thinned-long [] (d ∷ ds) h = absurd h
thinned-long (c ∷ cs) [] h = absurd h
thinned-long (c ∷ cs) (d ∷ ds) h = omega (arith, thinned-long cs ds h.1)

pub thinned-roomy : (cs ds : List Chunk) → AreThinned cs ds → AllByRecursion IsFilled cs → AllByRecursion IsRoomy ds
thinned-roomy [] [] h all = tt
thinned-roomy [] (d ∷ ds) h all = absurd h
thinned-roomy (c ∷ cs) [] h all = absurd h
thinned-roomy (c ∷ cs) (d ∷ ds) h all = ((omega (arith, h.0.size, all.0.1), omega (arith, h.0.room, all.0.2)), thinned-roomy cs ds h.1 all.1)
