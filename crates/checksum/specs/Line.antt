-- A line of a list of digests: the digest in hexadecimal, two spaces, the file's name, a line feed.
-- Where the name has a backslash, a line feed or a carriage return, the line begins with a backslash
-- and the name has two bytes for each of them.
use Rattle.std.specs.Prelude.{ℕ, Bool, cond, ◌||◌, List, [], ◌∷◌, ◌++◌, ◌==◌}
use Rattle.std.specs.List.{flat_map, list_any}
use Rattle.hexadecimal.specs.Hex.{hex}

abbrev pub is_special : ℕ → Bool
is_special b = b == 92 || b == 10 || b == 13

abbrev pub has_special : List ℕ → Bool
has_special name = list_any is_special name

abbrev pub escape : ℕ → List ℕ
escape b = cond (b == 92) (92 ∷ 92 ∷ []) (cond (b == 10) (92 ∷ 110 ∷ []) (cond (b == 13) (92 ∷ 114 ∷ []) (b ∷ [])))

abbrev pub escaped : List ℕ → List ℕ
escaped name = flat_map escape name

abbrev pub line_of : List ℕ → List ℕ → List ℕ
line_of digest name = cond (has_special name) (92 ∷ []) [] ++ hex digest ++ (32 ∷ 32 ∷ []) ++ escaped name ++ (10 ∷ [])
