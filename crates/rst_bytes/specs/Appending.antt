-- What the layers' laws on appending speak of: a text s behind which LF and a text t are put. `Body` says of s, and `Tail` of t,
-- what keeps the bytes around that LF apart.
-- Assumes nothing.
use Rattle.std.specs.Prelude.{ℕ, ◌≡◌, List, [], ◌∷◌, Bool, true, false, eqb}
use Rattle.rst_bytes.specs.Escaped.{is_stop}
use Rattle.rst_bytes.specs.Line.{is_space}

-- no byte is p or q
unfoldable pub free : ℕ → ℕ → List ℕ → Bool
free p q [] = true
free p q (b ∷ rest) = elim (is_stop p q b) [ true ↦ false | false ↦ free p q rest ]

-- CR is the last byte
unfoldable pub ends_in_cr : List ℕ → Bool
ends_in_cr [] = false
ends_in_cr (b ∷ []) = eqb b 13
ends_in_cr (b ∷ c ∷ rest) = ends_in_cr (c ∷ rest)

-- a space or a tab is the first byte
unfoldable pub starts_space : List ℕ → Bool
starts_space [] = false
starts_space (b ∷ rest) = is_space b

-- s does not end in CR, which an LF behind it would make a line ending of two bytes
abbrev pub Body : List ℕ → Type 0
Body s = ends_in_cr s ≡ false

-- t has no backtick, and begins with neither space nor tab
abbrev pub Tail : List ℕ → Type 0
Tail t = (free 0x60 0x60 t ≡ true) × (starts_space t ≡ false)
