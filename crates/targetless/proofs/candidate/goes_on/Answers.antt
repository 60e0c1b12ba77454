-- To begin with the indent and three spaces is to begin with the one and then with the others.
use Rattle.std.proofs.Common.{refl, sym, ap, ◌∙◌}
use Rattle.rst_bytes.specs.Tag.{starts_with}
use Rattle.rst_bytes.proofs.Lists.{part-from}
use Rattle.rst_bytes.proofs.TagLaws.{starts-le, starts-append}
use Rattle.restructured_text.specs.Block.{three}
use Rattle.targetless.proofs.candidate.goes_on.Goals as goal

pub slice_bounds-tag-count : goal.slice_bounds-tag-count
slice_bounds-tag-count c = starts-le _ _ (sym c.tag.ensures ∙ c.if-tag.true)

pub slice_bounds-tag-start : goal.slice_bounds-tag-start
slice_bounds-tag-start c = starts-le _ _ (sym c.tag.ensures ∙ c.if-tag.true)

pub returns-then-tag : goal.returns-then-tag
returns-then-tag c = rw (starts-append c.args.indent.now three c.args.s.now, ← c.tag.ensures, c.if-tag.true) (c.tag-then-tag.ensures ∙ ap (starts_with three) (part-from c.args.s.now _))

pub returns-else-tag : goal.returns-else-tag
returns-else-tag c = rw (starts-append c.args.indent.now three c.args.s.now, ← c.tag.ensures, c.if-tag.false) refl
