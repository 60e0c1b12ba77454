-- One shifted by less than 128 places is a power, and one less has the bits below it.
use Rattle.std.proofs.Common.{◌-◌, ℕ, sym, ap, ◌∙◌, le-leb}
use Rattle.std.proofs.lemmas.Bool.{lt-leb}
use Rattle.std.proofs.lemmas.Nat.{one_shl}
use Rattle.rst_bytes.proofs.TestLaws.{picks_first, picks_second}
use Rattle.targetless.specs.Verdict.{ones_of}
use Rattle.targetless.proofs.verdict.ones.Goals as goal

pub returns-then-n-lt128 : goal.returns-then-n-lt128
unfolding ones_of
returns-then-n-lt128 c = ap (λ (x : ℕ). x - 1) (one_shl c.args.n 128 c.if-n-lt128.true) ∙ sym (picks_second _ _ _ (lt-leb 128 c.args.n c.if-n-lt128.true))

pub returns-else-n-lt128 : goal.returns-else-n-lt128
unfolding ones_of
returns-else-n-lt128 c = sym (picks_first _ _ _ (le-leb 128 c.args.n c.if-n-lt128.false))
