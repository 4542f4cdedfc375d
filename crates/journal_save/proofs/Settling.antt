-- To put on the disk what is there already does nothing.
use Rattle.std.proofs.Common.{◌≡◌, inl, inr, ℕ, List, [], ◌∷◌, Option, Some, None, Result, Ok, Err, refl, sym, ◌∙◌, ap, subst}
use Rattle.journal_codes.specs.Codes.{Span}
use Rattle.journal_save.specs.Disk.{Range, laid_all, IsSame, Journal, State, Disk, Flushes, Over, Does, May, Turns, flushed, sync_lost, settled, same_state, step}
use Rattle.journal_save.specs.Saving.{IsSettled, IsAsItWas, StaysSettled, Since}
use Rattle.journal_save.proofs.Laid.{same_all}
use Rattle.journal_save.proofs.Moments.{over_then, over_map, since_none, since_step, since_more, since_map}

abbrev with_file : State → List ℕ → List Range → List Span → State
with_file s f l w = record s { file = f; loose = l; writes = w }

flushed_same : (s : State) (m : List ℕ) → IsSettled s → IsSame s.loose s.file m → flushed m s ≡ s
flushed_same s m q same =
    ap (λ (f : List ℕ). with_file s f [] [])
    (subst (λ (w : List Span). laid_all w m ≡ s.file) (sym q.writes) (same_all s.file m (subst (λ (l : List Range). IsSame l s.file m) q.loose same)))
    ∙ (ap (λ (l : List Range). with_file s s.file l []) (sym q.loose) ∙ ap (λ (w : List Span). with_file s s.file s.loose w) (sym q.writes))

lost_same : (s : State) → IsSettled s → sync_lost s ≡ s
lost_same s q = ap (λ (w : List Span). with_file s s.file s.loose w) (sym q.writes)

settled_same : (s : State) → IsSettled s → settled s ≡ s
settled_same s q = ap (λ (m : List (Option Journal)). record s { may_leave = m }) (sym q.may_leave)

-- a call that leaves the moment as it is
still_step : (d e : Disk) (f : State → State) → f d.now ≡ d.now → Does f d e → IsAsItWas d e
still_step d e f same is = subst (IsAsItWas d) (sym is) (same, since_step (λ s. s ≡ d.now) d d f (since_none (λ s. s ≡ d.now) d) refl)

still_may : (d e : Disk) (f : State → State) → f d.now ≡ d.now → May f d e → IsAsItWas d e
still_may d e f same (inl is) = subst (IsAsItWas d) (sym is) (refl, since_none (λ s. s ≡ d.now) d)
still_may d e f same (inr is) = still_step d e f same is

still_then : (d e f : Disk) → IsAsItWas d e → IsAsItWas e f → IsAsItWas d f
still_then d e f a b = (b.0 ∙ a.0, since_more (λ s. s ≡ d.now) d e f a.1 (since_map (λ s. s ≡ e.now) (λ s. s ≡ d.now) e f (λ s is. is ∙ a.0) b.1))

-- FILE is synced, or that fails
flush_stays : (a b : Option Disk) → Over Flushes a b → Over StaysSettled a b
flush_stays a b flush = over_map a b flush (λ d e f q. still_step d e (flushed f.0) (flushed_same d.now f.0 q f.1) f.2)

pub lost_stays : (a b : Option Disk) → Over (May sync_lost) a b → Over StaysSettled a b
lost_stays a b may = over_map a b may (λ d e m q. still_may d e sync_lost (lost_same d.now q) m)

-- and so is the folder
folder_stays : {T E : Type 0} (r : Result T E) (a b : Option Disk) → Turns r settled same_state a b → Over StaysSettled a b
folder_stays (Ok t) a b turns = over_map a b turns (λ d e is q. still_step d e settled (settled_same d.now q) is)
folder_stays (Err t) a b turns = over_map a b turns (λ d e may q. still_may d e same_state refl may)

pub settle_stays : {T E : Type 0} (r : Result T E) (a b c : Option Disk) → Over Flushes a b → Turns r settled same_state b c → Over StaysSettled a c
settle_stays r a b c flush turns =
    over_then a b c (flush_stays a b flush) (folder_stays r b c turns) (λ d e f s t q. still_then d e f (s q) (t (subst IsSettled (sym (s q).0) q)))
