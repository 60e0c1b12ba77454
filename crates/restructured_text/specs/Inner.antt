-- What the contracts of private functions speak of: bytes that no transform changes, and whether a transform refuses.
-- Assumes nothing.
use Rattle.std.specs.Prelude.{ℕ, Bool, true, false, ◌||◌, not, eqb}
use Rattle.rst_bytes.specs.Line.{is_multispace}
use Rattle.restructured_text.specs.Transform.{Given, whole, refused}

-- neither a backslash nor space, tab, CR, LF: such a byte stands for itself in both transforms
unfoldable pub is_bare : ℕ → Bool
is_bare b = not (eqb b 0x5C || is_multispace b)

-- the transform refuses: a wrong escape stands in its text
unfoldable pub is_refused : Given → Bool
is_refused (whole l) = false
is_refused (refused l) = true
