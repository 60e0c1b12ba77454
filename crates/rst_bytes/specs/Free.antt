-- How many bytes at the front are none of three: it is no piece of `nom`; parsers and the scanner find by it what they look for.
-- Assumes nothing.
use Rattle.std.specs.Prelude.{ℕ, List, Bool, not, ◌||◌, eqb}
use Rattle.rst_bytes.specs.Escaped.{is_stop}
use Rattle.rst_bytes.specs.Line.{bytes_from}

-- b is none of p, q and x
unfoldable pub is_other : ℕ → ℕ → ℕ → ℕ → Bool
is_other p q x b = not (is_stop p q b || eqb b x)

-- the bytes before the first that is one of them
abbrev pub free_front_of : ℕ → ℕ → ℕ → List ℕ → ℕ
free_front_of p q x s = bytes_from (is_other p q x) 0 s
