-- `trim_end` meets its contract: each round takes a blank character from the end, and where none ends there the rest is the trimmed text.
-- Assumes nothing.
use Rattle.std.proofs.Common.{rules, arith, sym, ap, ◌∙◌}
use lib.Seq.{take-length, drop-length}
use Rattle.rst_bytes.specs.Trim.{blanks}
use Rattle.rst_bytes.proofs.TrimLaws.{blanks-none, without-one, without-two}
use Rattle.rst_bytes.proofs.trim.trim_end.Goals.{then-text-lt2+in-32-1, then-text-lt2+in_default+else-text-lt9+then-text-lt14, else-text-lt2+in-32-1, else-text-lt2+in_default+else-text-lt9-2+then-text-lt14-2}
use Rattle.rst_bytes.proofs.trim.trim_end.Goals as goal

pub loop-text-init : goal.loop-text-init
loop-text-init c = record { within = omega arith; front = sym (take-length c.args.s.now); after = ap blanks (drop-length c.args.s.now) ∙ blanks-none }

pub loop-text-preserved-in-9-to-13 : goal.loop-text-preserved-in-9-to-13
loop-text-preserved-in-9-to-13 c = without-two c.args.s.now c.loop-text.text.now c.loop-text.invariant (omega arith) (omega arith) (search rules)

pub loop-text-preserved : goal.loop-text-preserved
loop-text-preserved c = without-one c.args.s.now c.loop-text.text.now c.loop-text.invariant (search rules)
