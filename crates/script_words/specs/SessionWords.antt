-- What a line says to a session itself.
use Rattle.std.specs.Prelude.{ℕ, not, List, [], ◌∷◌, bytes_eq, codes, if◌then◌else◌}
use Rattle.std.specs.Str.{is_utf8}
use Rattle.script_words.specs.declared.session_words.SessionWord.{SessionWord}
use Rattle.script_words.specs.declared.session_words.SessionWord.TheVariants.{Save, SaveWithMore, Other}
use Rattle.script_words.specs.Words.{words_of}

-- what these words say to a session itself: to save, where `save` stands alone
abbrev pub word_to_session : List (List ℕ) → SessionWord
word_to_session [] = Other
word_to_session (word ∷ []) = if bytes_eq word (codes "save") then Save else Other
word_to_session (word ∷ next ∷ words) = if bytes_eq word (codes "save") then SaveWithMore else Other

-- what a line says to a session itself; one that is not UTF-8 says nothing
abbrev pub session_word_of : List ℕ → SessionWord
session_word_of line = if not (is_utf8 line) then Other else word_to_session (words_of line)
