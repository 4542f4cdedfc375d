-- How texts go out behind one another.
use Rattle.std.proofs.Common.{◌≡◌, ℕ, ◌+◌, ◌<◌, ◌^◌, ◌≤◌, List, [], ◌++◌, length, map, take, drop, get_or, Option, Some, None, Result, Ok, Err, refl, ap, sym, subst, ◌∙◌, arith, append_assoc, append-nil, length-append}
use Rattle.std.specs.Prelude.{MatchResult}
use Rattle.std.specs.Result.{IsErrAnd}
use Rattle.std.specs.Io.KnownBytes.{Appends}
use Rattle.std.proofs.Math.Seq.{take-append-add}
use Rattle.std.proofs.lemmas.List.{take-append-le, at_drop_more, at_drop_all}
use Rattle.device_io.specs.Failures.{one_more as one_more_failure}
use Rattle.device_io.specs.Growth.{Appends_more}
use Rattle.device_io.specs.declared.write_fault.WriteFault.{WriteFault}
use Rattle.line_texts.specs.Devices.{Device, Takes, TakesPart, count_in_64_bits}
use Rattle.line_texts.specs.Lines.{with_line_end, with_line_ends}
use Rattle.line_texts.specs.Printing.{Outgoing, nothing_out, GoesOut, BreaksOut, Pushes}

-- ---- a writer

pub stays : (known : Option (List ℕ)) → Appends known known []
stays None = tt
stays (Some bytes) = sym (append-nil bytes)

-- a writer that was not asked takes nothing
pub takes_none : (d : Device) → Takes d d []
takes_none d = record { bytes = stays d.bytes; failures = refl }

pub takes_more : (before mid after : Device) (xs ys : List ℕ) → Takes before mid xs → Takes mid after ys → Takes before after (xs ++ ys)
takes_more before mid after xs ys p q = record {
  bytes = Appends_more before.bytes mid.bytes after.bytes xs ys p.bytes q.bytes;
  failures = q.failures ∙ p.failures;
}

-- a writer takes a text, and of the next one a part
pub takes_part_more : (before mid after : Device) (xs ys : List ℕ) (k : ℕ) → Takes before mid xs → TakesPart mid after ys k → TakesPart before after (xs ++ ys) (length xs + k)
takes_part_more before mid after xs ys k p q = record {
  bytes = rw (take-append-add xs ys k) (Appends_more before.bytes mid.bytes after.bytes xs (take k ys) p.bytes q.bytes);
  short = omega (arith, length-append xs ys, q.short);
  failures = q.failures ∙ ap one_more_failure p.failures;
}

-- a part of a text is a part of the text with more behind it
pub takes_part_of : (before after : Device) (xs ys : List ℕ) (k : ℕ) → TakesPart before after xs k → TakesPart before after (xs ++ ys) k
takes_part_of before after xs ys k p = record {
  bytes = rw (take-append-le k xs ys (omega (arith, p.short))) p.bytes;
  short = omega (arith, length-append xs ys, p.short);
  failures = p.failures;
}

-- ---- a text of which a rest is left to push

pub record Left (old now : Device) (from at : Outgoing) (rest all : List ℕ) : Type 0 where
  pub done : List ℕ
  pub out : GoesOut old now from at done
  pub joined : done ++ rest ≡ all

-- its first part is pushed
pub begun : (old now : Device) (from at : Outgoing) (x rest : List ℕ) → GoesOut old now from at x → Left old now from at rest (x ++ rest)
begun old now from at x rest g = record { done = x; out = g; joined = refl }

-- the next part of it is pushed
pub goes_on : (old now next : Device) (from at to : Outgoing) (x rest all : List ℕ) → Left old now from at (x ++ rest) all → GoesOut now next at to x → Left old next from to rest all
goes_on old now next from at to x rest all l g =
    let t : List ℕ = l.out.taken in
    record {
      done = l.done ++ x;
      out = record {
        taken = t ++ g.taken;
        takes = takes_more old now next t g.taken l.out.takes g.takes;
        joined = append_assoc t g.taken to.waits ∙ ap (λ (s : List ℕ). t ++ s) g.joined ∙ sym (append_assoc t at.waits x)
            ∙ ap (λ (s : List ℕ). s ++ x) l.out.joined ∙ append_assoc from.waits l.done x;
        counted = omega (arith, g.counted, l.out.counted, length-append t g.taken);
      };
      joined = append_assoc l.done x rest ∙ l.joined;
    }

-- a write of the first part fails
pub breaks_first : (old next : Device) (from : Outgoing) (x rest : List ℕ) (told : ℕ) → BreaksOut old next from x told → BreaksOut old next from (x ++ rest) told
breaks_first old next from x rest told b = record {
  taken = b.taken;
  takes = rw (← append_assoc from.waits x rest) (takes_part_of old next (from.waits ++ x) rest b.taken b.takes);
  counted = b.counted;
}

-- a write of the next part fails
pub breaks_on : (old now next : Device) (from at : Outgoing) (x rest all : List ℕ) (told : ℕ) → Left old now from at (x ++ rest) all → BreaksOut now next at x told → BreaksOut old next from all told
breaks_on old now next from at x rest all told l b =
    let t : List ℕ = l.out.taken in
    let whole : t ++ ((at.waits ++ x) ++ rest) ≡ from.waits ++ all =
    ap (λ (s : List ℕ). t ++ s) (append_assoc at.waits x rest) ∙ sym (append_assoc t at.waits (x ++ rest))
    ∙ ap (λ (s : List ℕ). s ++ (x ++ rest)) l.out.joined ∙ append_assoc from.waits l.done (x ++ rest) ∙ ap (λ (s : List ℕ). from.waits ++ s) l.joined in
    record {
      taken = length t + b.taken;
      takes = rw (← whole) (takes_part_more old now next t ((at.waits ++ x) ++ rest) b.taken l.out.takes (takes_part_of now next (at.waits ++ x) rest b.taken b.takes));
      counted = omega (arith, b.counted, l.out.counted);
    }

-- nothing of it is left
pub all_out : (old now : Device) (from at : Outgoing) (all : List ℕ) → Left old now from at [] all → GoesOut old now from at all
all_out old now from at all l = rw (← l.joined, append-nil l.done) l.out

-- its last part is pushed
pub ends : {T : Type 0} (r : Result T WriteFault) (old now next : Device) (from at to : Outgoing) (x all : List ℕ) → Left old now from at x all → Pushes now next at to x r → Pushes old next from to all r
ends (Ok v) old now next from at to x all l g = all_out old next from to all (goes_on old now next from at to x [] all (rw (append-nil x) l) g)
ends (Err fault) old now next from at to x all l b = breaks_on old now next from at x [] all fault.written (rw (append-nil x) l) b

-- ---- one push

-- what is held goes out later
pub held : (d : Device) (from to : Outgoing) (text : List ℕ) → from.written < 2 ^ 64 → to.waits ≡ from.waits ++ text → to.written ≡ from.written → GoesOut d d from to text
held d from to text fits waits written = record {
  taken = [];
  takes = takes_none d;
  joined = waits;
  counted = omega (arith, fits, written);
}

-- a refusal that a `?` hands on
pub by_fault : {T E : Type 0} (r : Result T E) (fault : E) (P : T → Type 0) (Q : E → Type 0) → IsErrAnd r (λ x. x ≡ fault) → Q fault → MatchResult r P Q
by_fault (Ok x) fault P Q is q = absurd is
by_fault (Err e) fault P Q is q = subst Q (sym is) q

-- ---- a whole text

-- a text that went out since nothing waited, and of which nothing waits now, is taken
taken_whole : (old next : Device) (to : Outgoing) (text : List ℕ) → GoesOut old next nothing_out to text → to.waits ≡ [] → Takes old next text × (to.written ≡ count_in_64_bits (length text))
taken_whole old next to text g empty =
    let all : g.taken ≡ text = sym (append-nil g.taken) ∙ ap (λ (s : List ℕ). g.taken ++ s) (sym empty) ∙ g.joined in
    (subst (λ (s : List ℕ). Takes old next s) all g.takes, omega (arith, g.counted, ap length all))

-- it was pushed, and then what waited was written
pub told_whole : (old now next : Device) (at to : Outgoing) (text : List ℕ) → GoesOut old now nothing_out at text → GoesOut now next at to [] → to.waits ≡ []
    → Takes old next text × (to.written ≡ count_in_64_bits (length text))
told_whole old now next at to text p f empty =
    taken_whole old next to text (all_out old next nothing_out to text (goes_on old now next nothing_out at to [] [] text (record { done = text; out = p; joined = append-nil text }) f)) empty

-- the writer failed while it was pushed
pub told_first : (old next : Device) (text : List ℕ) (told : ℕ) → BreaksOut old next nothing_out text told → (taken : ℕ) × (told ≡ count_in_64_bits taken) × TakesPart old next text taken
told_first old next text told b = (b.taken, omega (arith, b.counted), b.takes)

-- it was pushed whole, and the writer failed at what waited
pub told_last : (old now next : Device) (at : Outgoing) (text : List ℕ) (told : ℕ) → GoesOut old now nothing_out at text → BreaksOut now next at [] told
    → (taken : ℕ) × (told ≡ count_in_64_bits taken) × TakesPart old next text taken
told_last old now next at text told p b =
    told_first old next text told (breaks_on old now next nothing_out at [] [] text told (record { done = text; out = p; joined = append-nil text }) b)

-- ---- a list of lines behind a head

-- no line is pushed yet
pub not_yet : (d : Device) (at : Outgoing) (lines : List ℕ) → at.written < 2 ^ 64 → Left d d at at lines lines
not_yet d at lines fits = record { done = []; out = held d at at [] fits (sym (append-nil at.waits)) refl; joined = refl }

-- the lines from an item on are its own and those behind it
pub next_line : {X : Type 0} (f : X → List ℕ) (xs : List X) (i : ℕ) (x : X) → i < length xs → x ≡ get_or xs i x → with_line_ends (map f (drop i xs)) ≡ with_line_end (f x) ++ with_line_ends (map f (drop (i + 1) xs))
next_line f xs i x h is =
    let step : with_line_ends (map f (drop i xs)) ≡ with_line_end (f (get_or xs i x)) ++ with_line_ends (map f (drop (i + 1) xs)) = at_drop_more (λ ys. with_line_ends (map f ys)) xs i x h in
    step ∙ ap (λ y. with_line_end (f y) ++ with_line_ends (map f (drop (i + 1) xs))) (sym is)

-- no line is left behind the last item
pub no_line : {X : Type 0} (f : X → List ℕ) (xs : List X) (i : ℕ) → length xs ≤ i → with_line_ends (map f (drop i xs)) ≡ []
no_line f xs i h = at_drop_all (λ ys. with_line_ends (map f ys)) xs i h

module _ (old now next : Device) (from at : Outgoing) (pushed line rest rest_then lines : List ℕ) (is : pushed ≡ line) (then : rest ≡ line ++ rest_then) (left : Left old now from at rest lines) where
  before_it : Left old now from at (line ++ rest_then) lines
  before_it = subst (λ (s : List ℕ). Left old now from at s lines) then left

  -- one line more
  pub line_more : (to : Outgoing) → GoesOut now next at to pushed → Left old next from to rest_then lines
  line_more to g = goes_on old now next from at to line rest_then lines before_it (subst (λ (s : List ℕ). GoesOut now next at to s) is g)

  -- a line at which a write fails
  pub line_breaks : (told : ℕ) → BreaksOut now next at pushed told → BreaksOut old next from lines told
  line_breaks told b = breaks_on old now next from at line rest_then lines told before_it (subst (λ (s : List ℕ). BreaksOut now next at s told) is b)

module _ (old now : Device) (from : Outgoing) (pushed head lines : List ℕ) (is : pushed ≡ head) where
  -- a write of the head fails
  pub head_breaks : (told : ℕ) → BreaksOut old now from pushed told → BreaksOut old now from (head ++ lines) told
  head_breaks told b = breaks_first old now from head lines told (subst (λ (s : List ℕ). BreaksOut old now from s told) is b)

  behind_head : (at : Outgoing) → GoesOut old now from at pushed → Left old now from at (lines ++ []) (head ++ lines)
  behind_head at g = rw (append-nil lines) (begun old now from at head lines (subst (λ (s : List ℕ). GoesOut old now from at s) is g))

  -- a write of the lines behind the head fails
  pub lines_break : (next : Device) (at : Outgoing) (told : ℕ) → GoesOut old now from at pushed → BreaksOut now next at lines told → BreaksOut old next from (head ++ lines) told
  lines_break next at told g b = breaks_on old now next from at lines [] (head ++ lines) told (behind_head at g) b

  -- the head and all lines behind it are pushed
  pub lines_end : (next : Device) (at to : Outgoing) (rest : List ℕ) → GoesOut old now from at pushed → Left now next at to rest lines → rest ≡ [] → GoesOut old next from to (head ++ lines)
  lines_end next at to rest g left none =
      all_out old next from to (head ++ lines) (goes_on old now next from at to lines [] (head ++ lines) (behind_head at g)
      (all_out now next at to lines (subst (λ (s : List ℕ). Left now next at to s lines) none left)))
