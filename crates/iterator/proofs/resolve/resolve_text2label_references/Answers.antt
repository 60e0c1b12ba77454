-- `resolve::resolve_text2label_references` meets its contract. The loop's invariant, `References`: the links that are kept, and those ahead
-- once they are resolved, are the links of the rows that were lent.
-- Assumes nothing.
use Rattle.std.proofs.Common.{sym, ap, ◌∙◌, Option}
use Rattle.restructured_text.specs.declared.Span.{Span}
use Rattle.iterator.specs.Inner.{found_of}
use Rattle.iterator.proofs.ReferenceLaws.{references-start, can-look, can-keep, references-dropped, references-more, references-done}
use Rattle.iterator.proofs.resolve.resolve_text2label_references.Goals.{in-Some, in_default}
use Rattle.iterator.proofs.resolve.resolve_text2label_references.Goals as goal

pub loop-i-init : goal.loop-i-init
loop-i-init c =
    references-start _ _ _ _ _ _ c.args.strings.short c.requires c.index_names.auto.numbers c.index_names.ensures.kept c.index_names.ensures.indexed _ c.default-r.ensures

pub goal_of-requires-clause-within : goal.goal_of-requires-clause-within
goal_of-requires-clause-within c = can-look _ _ _ _ _ _ _ c.loop-i.invariant.held _ c.link_at-x.ensures c.loop-i-test.true

pub keep-requires : goal.keep-requires
keep-requires c =
    can-keep _ _ _ _ _ _ _ c.loop-i.invariant.held _ c.link_at-x.ensures c.loop-i-test.true _ c.in-Some.ensures.within

pub loop-i-preserved : goal.loop-i-preserved
loop-i-preserved c =
    elim c.match-goal_of.branch [
      | in-Some w ↦
          references-more _ _ _ _ _ _ _ _ c.loop-i.invariant _ c.link_at-x.ensures c.loop-i-test.true _ w.in-Some.ensures.within w.in-Some.ensures.found
          _ _ (w.r-is ∙ w.keep.ensures.links) (w.numbers-is ∙ w.keep.ensures.row)
      | in_default w ↦
          let f = ap (λ (o : Option Span). found_of o c.args.strings.bytes.now) w.in_default.is in
          references-dropped _ _ _ _ _ _ _ _ c.loop-i.invariant _ c.link_at-x.ensures c.loop-i-test.true (sym f ∙ c.goal_of.ensures.found)
          _ _ w.r-is w.numbers-is
    ]

pub returns : goal.returns
returns c = references-done _ _ _ _ _ _ _ _ c.loop-i.invariant c.loop-i-test.false
