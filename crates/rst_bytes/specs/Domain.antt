-- "Domain: .. each character one of: a byte below 80 hex; C2 to C8 followed by 80 to BF; C9 followed by 80 to 8F. That is
-- well-formed UTF-8 up to U+024F."
-- Assumes nothing.
use Rattle.std.specs.Prelude.{Option, Some, None}
use Rattle.std.specs.Prelude.{ℕ, zero, suc, ◌+◌, ◌-◌, ◌*◌, List, [], ◌∷◌, Bool, true, false, ◌&&◌, ◌||◌, ltb, eqb, length}
use Rattle.rst_bytes.specs.Tests.{between}

-- "C2 to C8 followed by 80 to BF; C9 followed by 80 to 8F"
unfoldable pub is_pair : ℕ → ℕ → Bool
is_pair b c =
    (between 0xC2 0xC8 b && between 0x80 0xBF c) || (eqb b 0xC9 && between 0x80 0x8F c)

-- the code point of two bytes
abbrev pub point_of : ℕ → ℕ → ℕ
point_of b c = (b - 0xC0) * 64 + (c - 0x80)

abbrev pub pair_of : ℕ → List ℕ → Option (ℕ × ℕ)
pair_of b [] = None
pair_of b (c ∷ rest) = elim (is_pair b c) [ true ↦ Some (2, (point_of b c)) | false ↦ None ]

-- the character that starts at the front: its length and its code point
unfoldable pub char_of : List ℕ → Option (ℕ × ℕ)
char_of [] = None
char_of (b ∷ rest) = elim (ltb b 0x80) [ true ↦ Some (1, b) | false ↦ pair_of b rest ]

-- How many bytes the characters at the front take, one after the other, as long as each passes a test on its code point. n
-- bytes are counted; k more belong to the character that is being passed.
unfoldable pub run : (ℕ → Bool) → ℕ → ℕ → List ℕ → ℕ
run f k n [] = n
run f (suc k) n (b ∷ rest) = run f k (n + 1) rest
run f zero n (b ∷ rest) =
    elim (char_of (b ∷ rest)) [
      | Some (len, point) ↦ elim (f point) [ true ↦ run f (len - 1) (n + 1) rest | false ↦ n ]
      | None ↦ n
    ]

abbrev pub any : ℕ → Bool
any point = true

-- how many bytes the characters at the front take
abbrev pub characters_of : List ℕ → ℕ
characters_of s = run any 0 0 s

-- "first byte that starts no character of the domain": reading from the start, character by character
unfoldable pub outside_of : List ℕ → Option ℕ
outside_of s = elim (ltb (characters_of s) (length s)) [ true ↦ Some (characters_of s) | false ↦ None ]
