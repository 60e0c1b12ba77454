-- What the contracts of private functions speak of: vectors of bytes, each of whose lanes passes a test or does not, and the numbers whose
-- bits tell which do.
-- Assumes nothing.
use Rattle.std.specs.Prelude.{ℕ, ◌<◌, ◌≡◌, List, Bool, eqb, get_or}
use Rattle.std.specs.Int.{bit_at}

-- bit k is 1
unfoldable pub test : ℕ → ℕ → Bool
test m k = eqb (bit_at m k) 1

-- bit k of m is 1 just where lane k of v passes f, of 16 lanes
abbrev pub Marks : (ℕ → Bool) → List ℕ → ℕ → Type 0
Marks f v m = (k : ℕ) → k < 16 → test m k ≡ f (get_or v k 0)
