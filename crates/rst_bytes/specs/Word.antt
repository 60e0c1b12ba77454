-- "A word character is an ASCII letter or digit, -, _, or U+00AA, B2, B3, B5, B9, BA, BC–BE, C0–D6, D8–F6, F8–24F .. the word
-- characters above 7F are kept as a constant list of ranges."
-- Assumes nothing.
use Rattle.std.specs.Prelude.{ℕ, List, [], ◌∷◌, Bool, false, ◌||◌, eqb}
use Rattle.rst_bytes.specs.Tests.{between}
use Rattle.rst_bytes.specs.Domain.{run}

-- "an ASCII letter or digit, -, _"
unfoldable pub is_ascii_word : ℕ → Bool
is_ascii_word c =
    between 0x30 0x39 c || between 0x41 0x5A c || between 0x61 0x7A c || eqb c 0x2D || eqb c 0x5F

-- the first and the last code point of each range
unfoldable pub word_ranges : List (ℕ × ℕ)
word_ranges = (0xAA, 0xAA) ∷ (0xB2, 0xB3) ∷ (0xB5, 0xB5) ∷ (0xB9, 0xBA) ∷ (0xBC, 0xBE) ∷ (0xC0, 0xD6) ∷ (0xD8, 0xF6) ∷ (0xF8, 0x24F) ∷ []

-- c is in one of the ranges
unfoldable pub in_ranges : ℕ → List (ℕ × ℕ) → Bool
in_ranges c [] = false
in_ranges c ((first, last) ∷ rest) = between first last c || in_ranges c rest

unfoldable pub is_word : ℕ → Bool
is_word c = is_ascii_word c || in_ranges c word_ranges

-- the length in bytes of the maximal run of word characters at the front
unfoldable pub word_of : List ℕ → ℕ
word_of s = run is_word 0 0 s
