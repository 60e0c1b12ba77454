-- `read` meets its contract: what each call leaves is what the next one asks for, and the records are those of the definition.
-- Assumes nothing.
use Rattle.std.proofs.Common.{arith}
use Rattle.iterator.specs.Render.{render_number}
use Rattle.iterator.proofs.DocumentLaws.{Gathered, gathered, aliases-held, references-held, Listed, listed, told-short, writing, told-written}
use Rattle.iterator.proofs.read.Goals.{In_ok-c, After-resolve_text2label_references-r}
use Rattle.iterator.proofs.read.Goals as goal

-- what is collected: the document's links in both work areas
gather : (c : In_ok-c) → Gathered (render_number c.args.render) c.args.document.now c.collect.new.numbers c.collect.new.bytes c.in_ok-c.c
gather c =
    gathered _ _ _ _ _ c.requires.0 (omega (arith, c.requires.1.0, c.collect.auto.numbers), omega (arith, c.requires.1.1, c.collect.auto.bytes)) c.in_ok-c.ensures

-- the links that are resolved, where they stand in the work numbers
list :
    (c : After-resolve_text2label_references-r)
    → Gathered (render_number c.args.render) c.args.document.now c.collect.new.numbers c.collect.new.bytes c.in_ok-c.c
    → Listed (render_number c.args.render) c.args.document.now c.resolve_text2label_references-r.new.numbers c.collect.new.bytes c.resolve_text2label_references-r.result
list c g =
    listed
    _
    _
    _
    _
    _
    g
    _
    _
    c.resolve_label2label_references-names.auto.numbers
    c.resolve_label2label_references-names.ensures.held
    c.resolve_label2label_references-names.ensures.resolved
    _
    _
    c.resolve_text2label_references-r.auto.numbers
    c.resolve_text2label_references-r.ensures.links
    c.resolve_text2label_references-r.ensures.held

pub resolve_label2label_references-names-requires : goal.resolve_label2label_references-names-requires
resolve_label2label_references-names-requires c = aliases-held _ _ _ _ _ (gather (goal.at.resolve_label2label_references-names-requires c).In_ok-c)

pub resolve_text2label_references-r-requires : goal.resolve_text2label_references-r-requires
resolve_text2label_references-r-requires c =
    references-held _ _ _ _ _ (gather (goal.at.resolve_text2label_references-r-requires c).In_ok-c) _ _ c.resolve_label2label_references-names.auto.numbers c.resolve_label2label_references-names.ensures.held

pub returns-then-output-r : goal.returns-then-output-r
returns-then-output-r c =
    told-short _ _ _ _ _ (list (goal.at.returns-then-output-r c).After-resolve_text2label_references-r (gather (goal.at.returns-then-output-r c).In_ok-c)) _ c.if-output-r.true

pub write_records-requires : goal.write_records-requires
write_records-requires c =
    writing _ _ _ _ _ (list (goal.at.write_records-requires c).After-resolve_text2label_references-r (gather (goal.at.write_records-requires c).In_ok-c)) c.args.output.now c.if-output-r.false

pub returns : goal.returns
returns c =
    told-written _ _ _ _ _ (list (goal.at.returns c).After-resolve_text2label_references-r (gather (goal.at.returns c).In_ok-c)) _ _ c.if-output-r.false c.write_records.ensures
