-- What the rows of a parse say is what the getters read.
use Rattle.std.proofs.Common.{◌≡◌, ℕ, Bool, true, false, cond, List, [], ◌∷◌, map, refl, ap, sym, ◌∙◌}
use Rattle.std.specs.Prelude.{Option, Some, None, find, option_map, option_and_then, slice_get}
use Rattle.std.specs.Str.{bytes_eq}
use Rattle.std.specs.Borrow.{Bor}
use Rattle.clap.specs.Values.{read_as}
use Rattle.clap.specs.declared.builder.value_parser.Reading.{Reading}
use Rattle.clap.specs.Facts.{Entry}
use Rattle.clap.specs.Walk.{Row, row_of, rows_of, row_text}
use Rattle.command_line.specs.CommandLine.{segywb, matched, segywb-is_simple}
use Rattle.clap.specs.declared.parser.matches.ArgMatches.{ArgMatches}
use Rattle.clap.specs.Words.{App, HasMatchesOf, is_simple, matches_of, found_of, first_of, one_of, first_value, one_text}
use Rattle.clap.specs.declared.parser.matches.Found.{Found}
use Rattle.clap.specs.declared.parser.matches.MatchedArg.{MatchedArg}

-- the row of the first entry of an id
rows_find : {X : Type 0} (id : List ℕ) (f : Row → Option X) (es : List Entry)
    → option_and_then f (find (λ r. bytes_eq r.id id) (map row_of es)) ≡ option_and_then (λ a. f (row_of a)) (find (λ e. bytes_eq e.0.now id) es)
rows_find id f [] = refl
rows_find id f (e ∷ es) = go (rows_find id f es) (bytes_eq e.0.now id) refl
  where
    go : option_and_then f (find (λ r. bytes_eq r.id id) (map row_of es)) ≡ option_and_then (λ a. f (row_of a)) (find (λ e. bytes_eq e.0.now id) es)
        → (b : Bool) → bytes_eq e.0.now id ≡ b
        → option_and_then f (find (λ r. bytes_eq r.id id) (map row_of (e ∷ es))) ≡ option_and_then (λ a. f (row_of a)) (find (λ e. bytes_eq e.0.now id) (e ∷ es))
    go rest true h = rw h refl
    go rest false h = rw h rest

first_shown : (vs : List (Bor (List ℕ))) → slice_get (map (λ v. v.now) vs) 0 ≡ option_map (λ v. v.now) (slice_get vs 0)
first_shown [] = refl
first_shown (v ∷ vs) = refl

first_read : (how : Reading) (vs : List (Bor (List ℕ))) → option_map (read_as how) (slice_get (map (λ v. v.now) vs) 0) ≡ option_map (λ v. read_as how v.now) (slice_get vs 0)
first_read how [] = refl
first_read how (v ∷ vs) = refl

shown_at : (o : Option Entry) → option_and_then (λ a. slice_get (row_of a).values 0) o ≡ option_and_then (λ a. option_map (λ v. v.now) (slice_get a.vals.items 0)) (option_map (λ e. e.1) o)
shown_at None = refl
shown_at (Some e) = first_shown e.1.vals.items

read_at : (o : Option Entry) → option_and_then (λ a. row_text (row_of a)) o ≡ option_and_then (λ a. option_map (λ v. read_as a.reading v.now) (slice_get a.vals.items 0)) (option_map (λ e. e.1) o)
read_at None = refl
read_at (Some e) = first_read e.1.reading e.1.vals.items

pub first_of-rows_of : (f : Found) (id : List ℕ) → first_of id (rows_of f) ≡ first_value f id
first_of-rows_of f id = rows_find id (λ r. slice_get r.values 0) f.entries.items ∙ shown_at (find (λ e. bytes_eq e.0.now id) f.entries.items)

pub one_of-rows_of : (f : Found) (id : List ℕ) → one_of id (rows_of f) ≡ one_text f id
one_of-rows_of f id = rows_find id row_text f.entries.items ∙ read_at (find (λ e. bytes_eq e.0.now id) f.entries.items)

-- the rows of a parse by our command
pub rows_are : (a : App) (words : List (List ℕ)) (m : ArgMatches) → a ≡ segywb → HasMatchesOf a words m → rows_of (found_of m) ≡ matched words
rows_are a words m same h = (h (ap is_simple same ∙ segywb-is_simple)).0 ∙ ap (λ b. matches_of b words) same
