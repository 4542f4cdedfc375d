-- Texts behind one another.
use Rattle.std.proofs.Common.{◌≡◌, ℕ, List, ◌∷◌, ◌++◌, append_assoc}

pub three_parts : (a b c d : List ℕ) → (a ++ b) ++ (c ++ d) ≡ a ++ (((b ++ c) ++ d))
three_parts a b c d = simp append_assoc

pub four_parts : (a b c d e : List ℕ) → (((a ++ b) ++ c) ++ d) ++ e ≡ a ++ (b ++ (c ++ (d ++ e)))
four_parts a b c d e = simp append_assoc

-- three numbers, each behind its word
pub three_numbered : (a b c d e f : List ℕ) → ((a ++ b) ++ (c ++ d)) ++ (e ++ f) ≡ a ++ (b ++ (c ++ (d ++ (e ++ f))))
three_numbered a b c d e f = simp append_assoc

-- four numbers, each behind its word
pub four_numbered : (w a b c d e f g h : List ℕ) → (((w ++ (a ++ b)) ++ (c ++ d)) ++ (e ++ f)) ++ (g ++ h) ≡ w ++ (a ++ (b ++ (c ++ (d ++ (e ++ (f ++ (g ++ h)))))))
four_numbered w a b c d e f g h = simp append_assoc

-- three numbers and two fractions, each behind its word
pub five_behind : (a b c d e f g h i j k : List ℕ) → ((((((a ++ b) ++ (c ++ d)) ++ (e ++ f)) ++ g) ++ h) ++ i ++ j) ++ k ≡ (a ++ (b ++ (c ++ (d ++ (e ++ (f ++ (g ++ (h ++ (i ++ j))))))))) ++ k
five_behind a b c d e f g h i j k = simp append_assoc

-- four texts, each behind a blank
pub four_behind : (a b c d e : List ℕ) → 32 ∷ (a ++ 32 ∷ (b ++ 32 ∷ (c ++ 32 ∷ (d ++ e)))) ≡ 32 ∷ ((a ++ 32 ∷ (b ++ 32 ∷ (c ++ 32 ∷ d))) ++ e)
four_behind a b c d e = simp append_assoc

-- five numbers, each behind its word
pub five_numbered : (w a b c d e f g h i j : List ℕ) → ((((w ++ (a ++ b)) ++ (c ++ d)) ++ (e ++ f)) ++ (g ++ h)) ++ (i ++ j) ≡ w ++ (a ++ (b ++ (c ++ (d ++ (e ++ (f ++ (g ++ (h ++ (i ++ j)))))))))
five_numbered w a b c d e f g h i j = simp append_assoc

-- three texts and three numbers, each behind its word
pub six_behind : (w a b c d e f g h i j k l : List ℕ) → (((w ++ (a ++ (b ++ (c ++ (d ++ (e ++ f)))))) ++ (g ++ h)) ++ (i ++ j)) ++ (k ++ l) ≡ w ++ (a ++ (b ++ (c ++ (d ++ (e ++ (f ++ (g ++ (h ++ (i ++ (j ++ (k ++ l)))))))))))
six_behind w a b c d e f g h i j k l = simp append_assoc

-- two numbers and a word, each behind its own
pub span_parts : (w a b c d e f : List ℕ) → (((w ++ (a ++ b)) ++ (c ++ d)) ++ e) ++ f ≡ w ++ (a ++ (b ++ (c ++ (d ++ (e ++ f)))))
span_parts w a b c d e f = simp append_assoc

-- two texts with one between them
pub both_parts : (w a b c : List ℕ) → ((w ++ a) ++ b) ++ c ≡ w ++ (a ++ (b ++ c))
both_parts w a b c = simp append_assoc

-- six texts, each behind its word
pub grid_parts : (a b c d e f g h i j k l : List ℕ)
    → (((((a ++ b) ++ (c ++ d)) ++ (e ++ f)) ++ (g ++ h)) ++ (i ++ j)) ++ (k ++ l) ≡ a ++ (b ++ (c ++ (d ++ (e ++ (f ++ (g ++ (h ++ (i ++ (j ++ (k ++ l))))))))))
grid_parts a b c d e f g h i j k l = simp append_assoc

-- a word and three texts, each behind a blank, and a fourth with what ends the line
pub line_of_four : (w a b c d e : List ℕ) → (w ++ 32 ∷ (a ++ 32 ∷ (b ++ 32 ∷ c))) ++ 32 ∷ (d ++ e) ≡ (w ++ 32 ∷ (a ++ 32 ∷ (b ++ 32 ∷ (c ++ 32 ∷ d)))) ++ e
line_of_four w a b c d e = simp append_assoc

-- a word and three texts, each behind a blank, in front of another text
pub line_of_three : (w a b c d : List ℕ) → w ++ 32 ∷ (a ++ 32 ∷ (b ++ 32 ∷ (c ++ d))) ≡ (w ++ 32 ∷ (a ++ 32 ∷ (b ++ 32 ∷ c))) ++ d
line_of_three w a b c d = simp append_assoc
