-- A list that loses no item, since all positions are behind it.
use Rattle.std.proofs.Common.{◌≡◌, ℕ, suc, ◌+◌, ◌<◌, ◌≤◌, List, [], ◌∷◌, length, get_or, refl, ap, ◌∙◌, arith}
use Rattle.trace_seq.specs.Order.{times}
use Rattle.trace_seq.specs.Without.{without_from, AreRising}
use Rattle.trace_seq.proofs.ThinLemmas.{rising-absent, unless-none}

-- where the first of them is behind, all are
pub rising-behind : (from end : ℕ) (ps : List ℕ) → AreRising from ps → (0 < length ps → end ≤ get_or ps 0 0) → AreRising end ps
rising-behind from end [] h behind = tt
rising-behind from end (p ∷ ps) h behind = (behind (omega arith), h.1)

rising-up : (at : ℕ) (n : ℕ) (ps : List ℕ) → AreRising (at + suc n) ps → AreRising (suc at + n) ps
rising-up at n ps h = let e : at + suc n ≡ suc at + n = omega arith in rw e at h

pub without-none : {T : Type 0} (at : ℕ) (xs : List T) (ps : List ℕ) → AreRising (at + length xs) ps → without_from at xs ps ≡ xs
without-none at [] ps h = refl
without-none at (x ∷ xs) ps h =
    unless-none (times at ps) x (without_from (suc at) xs ps) (rising-absent (at + suc (length xs)) at ps h (omega arith))
    ∙ ap (λ l. x ∷ l) (without-none (suc at) xs ps (rising-up at (length xs) ps h))
