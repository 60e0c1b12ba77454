-- What is left of a recorded file.
-- Assumes nothing.
use Rattle.std.specs.Prelude.{◌≡◌, ℕ, ◌+◌, List, length, drop}

-- n bytes were taken off the front
pub record IsBehind (n : ℕ) (old new : List ℕ) : Type 0 where
  pub rest : new ≡ drop n old
  pub len : length new + n ≡ length old
