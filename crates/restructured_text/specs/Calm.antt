-- What the laws on text without links speak of: bytes before white space, or before the end of the text.
-- Assumes nothing.
use Rattle.std.specs.Prelude.{ℕ, ◌≡◌, List, [], ◌∷◌, Bool, true}
use Rattle.rst_bytes.specs.Appending.{free}
use Rattle.rst_bytes.specs.Line.{is_multispace}

-- no byte is _ or a backtick
unfoldable pub calm : List ℕ → Bool
calm s = free 0x5F 0x60 s

-- nothing follows, or white space does
abbrev pub Parted : List ℕ → Type 0
Parted [] = Unit {0}
Parted (b ∷ rest) = is_multispace b ≡ true

-- nothing follows, or LF does
abbrev pub Ended : List ℕ → Type 0
Ended [] = Unit {0}
Ended (b ∷ rest) = b ≡ 10
