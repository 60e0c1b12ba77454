-- Laws that docs/ names and that no other proof uses now: a byte that stands in quotes as it is, and a low digit.
-- Assumes nothing.
use Rattle.std.proofs.Common.{◌≡◌, ℕ, ◌+◌, ◌<◌, ◌≤◌, true, arith}
use Rattle.std.proofs.lemmas.Bool.Decides.{nat_tests}
use Rattle.rstlinks.specs.Quote.{is_plain, hex_digit}

pub plain_other : (b : ℕ) → 0x20 ≤ b → b ≤ 0x7E → (b ≡ 0x22 → ⊥) → (b ≡ 0x5C → ⊥) → true ≡ is_plain b
unfolding is_plain
plain_other b h k d e = grind (arith, nat_tests)

pub digit_low : (n : ℕ) → n < 10 → 0x30 + n ≡ hex_digit n
unfolding hex_digit
digit_low n h = grind (arith, nat_tests)
