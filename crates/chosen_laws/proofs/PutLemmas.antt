-- Bytes laid over others, and over those again.
use Rattle.std.proofs.Common.{◌≡◌, ℕ, ◌+◌, ◌-◌, ◌≤◌, ◌⊎◌, inl, inr, List, [], ◌++◌, length, take, drop, sym, ap, subst, ◌∙◌, arith, append_assoc, append-nil}
use Rattle.std.proofs.lemmas.List.{drop-drop, drop_at, length-append, length-drop, length-take-le, take-append-drop, take_at}
use Rattle.frame_cut.specs.Splice.{splice}
use Rattle.frame_cut.proofs.EditLemmas.{length-splice, splice_inside}
use Rattle.frame_cut.proofs.BinEditLemmas.{apart}
use Rattle.bench_rules.proofs.SpliceLemmas.{itself}

module _ (t : List ℕ) (at n : ℕ) (new : List ℕ) (size : length new ≡ n) (inside : at + n ≤ length t) where
  exactly : splice t at n new ≡ splice t at (length new) new
  exactly = ap (λ (m : ℕ). splice t at m new) (sym size)

  fits : at + length new ≤ length t
  fits = omega (arith, size, inside)

  -- as many bytes
  pub length-put : length (splice t at n new) ≡ length t
  length-put = ap (λ (s : List ℕ). length s) exactly ∙ length-splice t at new fits

  -- at their place they are read
  pub shown : take n (drop at (splice t at n new)) ≡ new
  shown = ap (λ (m : ℕ). take m (drop at (splice t at n new))) (sym size) ∙ ap (λ (s : List ℕ). take (length new) (drop at s)) exactly ∙ itself t new at fits

  -- and elsewhere what was there
  pub beside : (k m : ℕ) → (k + m ≤ at) ⊎ (at + n ≤ k) → take m (drop k (splice t at n new)) ≡ take m (drop k t)
  beside k m away = ap (λ (s : List ℕ). take m (drop k s)) exactly ∙ apart t new at k m fits (subst (λ (i : ℕ). (k + m ≤ at) ⊎ (at + i ≤ k)) (sym size) away)

  -- others over them leave nothing of them
  pub put_over : (other : List ℕ) → splice (splice t at n new) at n other ≡ splice t at n other
  put_over other =
      let rest : List ℕ = drop (at + n) t in
      let front : length (take at t) ≡ at = length-take-le at t (omega (arith, inside)) in
      let both : length (take at t ++ new) ≡ at + n = omega (arith, length-append (take at t) new, front, size) in
      let ahead : take at (splice t at n new) ≡ take at t = ap (take at) (append_assoc (take at t) new rest) ∙ take_at (take at t) (new ++ rest) at front in
      let behind : drop (at + n) (splice t at n new) ≡ rest = drop_at (take at t ++ new) rest (at + n) both in
      ap (λ (s : List ℕ). s ++ other ++ drop (at + n) (splice t at n new)) ahead ∙ ap (λ (s : List ℕ). take at t ++ other ++ s) behind

-- what stood there, put there again
pub put_back : (t : List ℕ) (at n : ℕ) → splice t at n (take n (drop at t)) ≡ t
put_back t at n =
    append_assoc (take at t) (take n (drop at t)) (drop (at + n) t)
    ∙ ap (λ (s : List ℕ). take at t ++ (take n (drop at t) ++ s)) (sym (drop-drop n at t))
    ∙ ap (λ (s : List ℕ). take at t ++ s) (take-append-drop n (drop at t))
    ∙ take-append-drop at t

-- ---- two places

-- in the front of two parts, or in the one behind
in_front : (f g : List ℕ) (a n : ℕ) (x : List ℕ) → a + n ≤ length f → splice (f ++ g) a n x ≡ splice f a n x ++ g
in_front f g a n x inside =
    let none : 0 + a ≡ a = omega arith in
    subst (λ (i : ℕ). splice (f ++ g) i n x ≡ splice f a n x ++ g) none (splice_inside [] f g a n x inside)

behind_it : (f g : List ℕ) (k j m : ℕ) (y : List ℕ) → length f ≡ k → j + m ≤ length g → splice (f ++ g) (k + j) m y ≡ f ++ splice g j m y
behind_it f g k j m y long inside =
    ap (λ (i : ℕ). splice (f ++ g) (i + j) m y) (sym long)
    ∙ ap (λ (s : List ℕ). splice (f ++ s) (length f + j) m y) (sym (append-nil g))
    ∙ splice_inside f g [] j m y inside
    ∙ ap (λ (s : List ℕ). f ++ s) (append-nil (splice g j m y))

in_turn : (t : List ℕ) (a n b m : ℕ) (x y : List ℕ) → length x ≡ n → length y ≡ m → a + n ≤ b → b + m ≤ length t
    → splice (splice t a n x) b m y ≡ splice (splice t b m y) a n x
in_turn t a n b m x y size long low inside =
    let k : ℕ = a + n in
    let j : ℕ = b - k in
    let f : List ℕ = take k t in
    let g : List ℕ = drop k t in
    let at : k + j ≡ b = omega (arith, low) in
    let front : length f ≡ k = length-take-le k t (omega (arith, low, inside)) in
    let rest : j + m ≤ length g = omega (arith, length-drop k t, low, inside) in
    let parts : f ++ g ≡ t = take-append-drop k t in
    let put : length (splice f a n x) ≡ k = length-put f a n x size (omega (arith, front)) ∙ front in
    let one : splice (splice (f ++ g) a n x) (k + j) m y ≡ splice f a n x ++ splice g j m y =
    ap (λ (s : List ℕ). splice s (k + j) m y) (in_front f g a n x (omega (arith, front))) ∙ behind_it (splice f a n x) g k j m y put rest in
    let other : splice (splice (f ++ g) (k + j) m y) a n x ≡ splice f a n x ++ splice g j m y =
    ap (λ (s : List ℕ). splice s a n x) (behind_it f g k j m y front rest) ∙ in_front f (splice g j m y) a n x (omega (arith, front)) in
    subst (λ (s : List ℕ). splice (splice s a n x) b m y ≡ splice (splice s b m y) a n x) parts
    (subst (λ (i : ℕ). splice (splice (f ++ g) a n x) i m y ≡ splice (splice (f ++ g) i m y) a n x) at (one ∙ sym other))

-- bytes over two places without a byte in common are laid in either turn
pub either_turn : (t : List ℕ) (a n b m : ℕ) (x y : List ℕ) → length x ≡ n → length y ≡ m → (a + n ≤ b) ⊎ (b + m ≤ a) → a + n ≤ length t → b + m ≤ length t
    → splice (splice t a n x) b m y ≡ splice (splice t b m y) a n x
either_turn t a n b m x y size long (inl low) inside there = in_turn t a n b m x y size long low there
either_turn t a n b m x y size long (inr low) inside there = sym (in_turn t b m a n y x long size low inside)
