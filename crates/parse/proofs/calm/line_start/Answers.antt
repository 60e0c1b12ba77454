-- `calm::line_start` meets its contract: where no target starts behind the LFs no block begins.
-- Assumes nothing.
use Rattle.std.proofs.Common.{inl, sym, ap, ◌∙◌, arith}
use Rattle.rst_bytes.proofs.Lists.{part-from}
use Rattle.restructured_text.specs.Target.{starts_target}
use Rattle.parse.proofs.BarredLaws.{unstarted}
use Rattle.parse.proofs.CalmLaws.{lfs_within}
use Rattle.parse.proofs.calm.line_start.Goals as goal

pub returns-in_default-2 : goal.returns-in_default-2
returns-in_default-2 c =
    let s = c.args.s.now in
    let n = c.newlines.result in (
      omega (arith, c.newlines.ensures, lfs_within s),
      c.newlines.ensures,
      inl (unstarted _ (ap starts_target (sym (part-from s n)) ∙ sym c.starts_target.ensures ∙ c.if-starts_target.false)),
    )
