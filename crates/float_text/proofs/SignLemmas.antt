-- The sign of what was rounded.
use Rattle.std.proofs.Common.{◌≡◌, ℕ, ◌+◌, ◌*◌, ◌^◌, ◌-◌, Bool, true, false, cond, refl, sym, subst}
use lib.Dec.{ltb}
use lib.Ieee.{Float, Format, nan, inf, fin, round, units, odd, prec, low, emax}
use lib.Ieee.Fits.{round_is}

unfoldable pub HasSign : Bool → Float → Type 0
HasSign s nan = ⊥
HasSign s (inf t) = t ≡ s
HasSign s (fin t m e) = t ≡ s

sign_odd : (d : ℕ) (s : Bool) (q k l : ℕ) → HasSign s (odd d s q k l)
unfolding odd HasSign
sign_odd d s Prim.Native.Nat.zero k l = refl
sign_odd d s (Prim.Native.Nat.suc q) k l = refl

sign_either : (s b : Bool) (x : Float) → HasSign s x → HasSign s (cond b x (inf s))
unfolding HasSign
sign_either s true x h = h
sign_either s false x h = refl

pub sign_units : (f : Format) (s : Bool) (q k : ℕ) → HasSign s (units f s q k)
unfolding units
sign_units f s q k = sign_either s (ltb (q * 2 ^ k) (2 ^ (low f + Prim.Native.Nat.suc (emax f)))) (odd (Prim.Native.Nat.suc (prec f)) s q k (low f)) (sign_odd (Prim.Native.Nat.suc (prec f)) s q k (low f))

pub sign_round : (f : Format) (s : Bool) (a c : ℕ) → HasSign s (round f s a c)
sign_round f s a c = subst (HasSign s) (sym (round_is f s a c)) (sign_units f s _ _)
