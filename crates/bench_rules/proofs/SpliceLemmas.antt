-- What a splice leaves and shows, and one trace of a volume replaced.
use Rattle.std.proofs.Common.{◌≡◌, ℕ, zero, suc, ◌+◌, ◌-◌, ◌<◌, ◌≤◌, List, [], ◌∷◌, ◌++◌, length, take, drop, set, get_or, refl, sym, ap, ◌∙◌, arith, append_assoc, append-nil}
use Rattle.std.specs.List.{concat}
use Rattle.std.proofs.lemmas.List.{length-append, length-take-le, drop_at, drop_all}
use Rattle.std.proofs.Math.Seq.{take-append_seam}
use Rattle.frame_cut.specs.Splice.{splice}
use Rattle.frame_cut.specs.Traces.{count_of, trace_at, with_trace}
use Rattle.frame_cut.specs.Volume.{Volume, bytes_of, start_of}
use Rattle.frame_cut.proofs.EditLemmas.{bytes_with_splice, length-bytes}
use Rattle.bench_rules.specs.WholeTraces.{trace_start}

-- ---- what a splice shows

-- at its place are the new bytes
pub itself : (t new : List ℕ) (at : ℕ) → at + length new ≤ length t → take (length new) (drop at (splice t at (length new) new)) ≡ new
itself t new at inside =
    let rest : List ℕ = drop (at + length new) t in
    let front : length (take at t) ≡ at = length-take-le at t (omega arith) in
    ap (λ (s : List ℕ). take (length new) (drop at s)) (append_assoc (take at t) new rest)
    ∙ ap (take (length new)) (drop_at (take at t) (new ++ rest) at front)
    ∙ take-append_seam new rest

-- new bytes over all of the old ones
splice_all : (t u : List ℕ) → splice t 0 (length t) u ≡ u
splice_all t u =
    let none : drop (0 + length t) t ≡ [] = drop_all (0 + length t) t (omega arith) in
    ap (λ (s : List ℕ). u ++ s) none ∙ append-nil u

-- ---- one trace replaced

-- the bytes of the new trace stand where those of the old one stood
pub bytes_with_trace : (v : Volume) (p : ℕ) (u : List ℕ) → 1 ≤ p → p ≤ count_of v → bytes_of (with_trace v p u) ≡ splice (bytes_of v) (trace_start v p) (length (trace_at v p)) u
bytes_with_trace v p u first last =
    let t : List ℕ = trace_at v p in
    let there : p - 1 < length v.traces = omega arith in
    let start : start_of v (p - 1) + 0 ≡ trace_start v p = omega arith in
    ap (λ (s : List ℕ). bytes_of (with_trace v p s)) (sym (splice_all t u))
    ∙ bytes_with_splice v (p - 1) 0 (length t) u there (omega arith)
    ∙ ap (λ (i : ℕ). splice (bytes_of v) i (length t) u) start

length-concat-set : (ts : List (List ℕ)) (i : ℕ) (u : List ℕ) → i < length ts → length (concat (set ts i u)) + length (get_or ts i []) ≡ length (concat ts) + length u
length-concat-set [] i u there = absurd (omega arith)
length-concat-set (t ∷ ts) zero u there = omega (arith, length-append u (concat ts), length-append t (concat ts))
length-concat-set (t ∷ ts) (suc i) u there =
    let rest = length-concat-set ts i u (omega arith) in
    omega (arith, length-append t (concat (set ts i u)), length-append t (concat ts))

-- the file's length with it
pub length-with_trace : (v : Volume) (p : ℕ) (u : List ℕ) → 1 ≤ p → p ≤ count_of v → length (bytes_of (with_trace v p u)) + length (trace_at v p) ≡ length (bytes_of v) + length u
length-with_trace v p u first last =
    let there : p - 1 < length v.traces = omega arith in
    omega (arith, length-bytes v, length-bytes (with_trace v p u), length-concat-set v.traces (p - 1) u there)

-- a trace of the same length leaves where the others begin
pub length-take-set : (ts : List (List ℕ)) (i j : ℕ) (u : List ℕ) → length u ≡ length (get_or ts j []) → length (concat (take i (set ts j u))) ≡ length (concat (take i ts))
length-take-set [] i j u e = refl
length-take-set (t ∷ ts) zero j u e = refl
length-take-set (t ∷ ts) (suc i) zero u e = length-append u (concat (take i ts)) ∙ ap (λ (n : ℕ). n + length (concat (take i ts))) e ∙ sym (length-append t (concat (take i ts)))
length-take-set (t ∷ ts) (suc i) (suc j) u e =
    length-append t (concat (take i (set ts j u))) ∙ ap (λ (n : ℕ). length t + n) (length-take-set ts i j u e) ∙ sym (length-append t (concat (take i ts)))
