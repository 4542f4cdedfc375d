-- A whole save.
use Rattle.std.proofs.Common.{◌≡◌, inl, inr, ℕ, List, Option, sym, ◌∙◌, ap, subst}
use Rattle.journal_codes.specs.Codes.{Span}
use Rattle.journal_save.specs.Disk.{Range, laid_all, Disk, StandsFor, IsDurable, Over}
use Rattle.journal_save.specs.Saving.{ranges, old_of, Since, WasFree, AsItWasOr, LeavesOnly, IsEither, IsWriting, IsOver, IsHarmless, IsUntouched, IsGuarding}
use Rattle.journal_save.proofs.Moments.{over_then, over_map, over_first, over_both, since_more, since_map, stands_map}

-- what leaves only the one leaves only either
either_old : (old new : List ℕ) (d e : Disk) → LeavesOnly (λ f. f ≡ old) d e → LeavesOnly (IsEither old new) d e
either_old old new d e l = record {
  before = since_map (StandsFor (λ f. f ≡ old)) (StandsFor (IsEither old new)) d e (λ s. stands_map (λ f. f ≡ old) (IsEither old new) s (λ f is. inl is)) l.before;
  now = stands_map (λ f. f ≡ old) (IsEither old new) e.now (λ f is. inl is) l.now;
}

since_same : (x y : List ℕ) (d e : Disk) → x ≡ y → Since (StandsFor (λ f. f ≡ x)) d e → Since (StandsFor (λ f. f ≡ y)) d e
since_same x y d e is since = subst (λ (z : List ℕ). Since (StandsFor (λ f. f ≡ z)) d e) is since

pub cleaned_up : (a b z : Option Disk) → Over IsUntouched a b → Over (λ d e. IsHarmless d.now.file d.now → IsUntouched d e) b z → Over IsUntouched a z
cleaned_up a b z u r = over_then a b z u r (λ d e f u r.
    let v = r (subst (λ (x : List ℕ). IsHarmless x e.now) (sym u.harmless.file_is) u.harmless) in record {
      harmless = subst (λ (x : List ℕ). IsHarmless x f.now) u.harmless.file_is v.harmless;
      before = since_more (StandsFor (λ g. g ≡ d.now.file)) d e f u.before (since_same e.now.file d.now.file e f u.harmless.file_is v.before);
    })

abbrev pub IsMoments : List Span → Disk → Disk → Type 0
IsMoments ss d e = LeavesOnly (IsEither d.now.file (laid_all ss d.now.file)) d e

pub untouched_either : (a z : Option Disk) (ss : List Span) → Over (AsItWasOr IsUntouched) a z → Over (AsItWasOr (IsMoments ss)) a z
untouched_either a z ss u = over_map a z u (λ d e one. elim one as (λ _. AsItWasOr (IsMoments ss) d e) [
  | inl same ↦ inl same
  | inr u ↦ inr (u.0, either_old d.now.file (laid_all ss d.now.file) d e (record { before = u.1.before; now = u.1.harmless.stands }))
])

pub made_untouched : (a b : Option Disk) → Over (λ d e. WasFree d × IsUntouched d e) a b → Over IsUntouched a b
made_untouched a b made = over_map a b made (λ d e h. h.1)

-- a save that began where there was no journal
module _ (a b z : Option Disk) (made : Over (λ d e. WasFree d × IsUntouched d e) a b) where
  pub made_or : (R : Disk → Disk → Type 0) → Over R a z → Over (AsItWasOr R) a z
  made_or R r = over_map a z (over_first WasFree IsUntouched R a b z made r) (λ d e h. inr h)

  pub made_free : (R : Disk → Disk → Type 0) → Over R a z → Over (λ d e. WasFree d) a z
  made_free R r = over_map a z (over_first WasFree IsUntouched R a b z made r) (λ d e h. h.0)

abbrev pub IsSealedNow : List Range → Disk → Disk → Type 0
IsSealedNow rs d e = IsUntouched d e × IsGuarding rs d e

-- FILE is being written, or was, under the journal
abbrev pub IsUnderWay : Disk → Disk → Type 0
IsUnderWay d f = (old_of f.now ≡ d.now.file) × Since (StandsFor (λ g. g ≡ d.now.file)) d f

module _ (a b c z : Option Disk) (ss : List Span) (untouched : Over IsUntouched a b) (guarding : Over (IsGuarding (ranges ss)) a b) (w : Over IsWriting b c) where
  under_way : Over IsUnderWay a c
  under_way = over_then a b c (over_both IsUntouched (IsGuarding (ranges ss)) a b untouched guarding) w (λ d e f s w. (
    w.old ∙ s.1.old,
    since_more (StandsFor (λ g. g ≡ d.now.file)) d e f s.0.before (since_same (old_of e.now) d.now.file e f s.1.old w.before),
  ))

  pub undone_moments : Over (λ d e. LeavesOnly (λ f. f ≡ old_of d.now) d e) c z → Over (λ d e. LeavesOnly (λ f. f ≡ d.now.file) d e) a z
  undone_moments moments = over_then a c z under_way moments (λ d e f u m. record {
    before = since_more (StandsFor (λ g. g ≡ d.now.file)) d e f u.1 (since_same (old_of e.now) d.now.file e f u.0 m.before);
    now = subst (λ (x : List ℕ). StandsFor (λ g. g ≡ x) f.now) u.0 m.now;
  })

  pub undone_either : Over (λ d e. LeavesOnly (λ f. f ≡ old_of d.now) d e) c z → Over (IsMoments ss) a z
  undone_either moments = over_map a z (undone_moments moments) (λ d e l. either_old d.now.file (laid_all ss d.now.file) d e l)

  pub undone : Over (λ d e. LeavesOnly (λ f. f ≡ old_of d.now) d e) c z → Over (λ d e. IsDurable (old_of d.now) e.now) c z → Over (λ d e. IsDurable d.now.file e.now × Since (StandsFor (λ f. f ≡ d.now.file)) d e) a z
  undone moments durable = over_map a z
      (over_both (λ d e. IsDurable d.now.file e.now) (λ d e. LeavesOnly (λ f. f ≡ d.now.file) d e) a z
      (over_then a c z under_way durable (λ d e f u m. subst (λ (x : List ℕ). IsDurable x f.now) u.0 m)) (undone_moments moments))
      (λ d e h. (h.0, h.1.before))

  module _ (over : Over (IsOver ss) b c) where
    abbrev IsNew : Disk → Disk → Type 0
    IsNew d e = IsUnderWay d e × (e.now.file ≡ laid_all ss d.now.file)

    new_file : Over IsNew a c
    new_file = over_both IsUnderWay (λ d e. e.now.file ≡ laid_all ss d.now.file) a c under_way
        (over_then a b c untouched over (λ d e f u o. o.file ∙ ap (laid_all ss) u.harmless.file_is))

    pub finished_moments : Over (λ d e. LeavesOnly (IsEither (old_of d.now) d.now.file) d e) c z → Over (IsMoments ss) a z
    finished_moments moments = over_then a c z new_file moments (λ d e f u m.
        let P = IsEither (old_of e.now) e.now.file in
        let Q = IsEither d.now.file (laid_all ss d.now.file) in
        let one : (g : List ℕ) → P g → Q g = λ g either. elim either [
          | inl old ↦ inl (old ∙ u.0.0)
          | inr new ↦ inr (new ∙ u.1)
        ] in record {
          before = since_more (StandsFor Q) d e f (since_map (StandsFor (λ g. g ≡ d.now.file)) (StandsFor Q) d e (λ s. stands_map (λ g. g ≡ d.now.file) Q s (λ g is. inl is)) u.0.1) (since_map (StandsFor P) (StandsFor Q) e f (λ s. stands_map P Q s one) m.before);
          now = stands_map P Q f.now one m.now;
        })
