-- A word of two bytes or more tells by its last bytes and its length.
use Rattle.std.proofs.Common.{arith}
use Rattle.targetless.proofs.WordLaws.{labelled-short, last_within, labelled-not, labelled-two, labelled-one}
use Rattle.targetless.proofs.runs.is_word_label.Goals as goal

pub returns-then-w-lt2 : goal.returns-then-w-lt2
returns-then-w-lt2 c = labelled-short c.args.v.now c.word_run-w.result c.word_run-w.ensures c.if-w-lt2.true

pub bounds-v-w : goal.bounds-v-w
bounds-v-w c = omega (arith, last_within c.args.v.now c.word_run-w.result c.word_run-w.ensures c.if-w-lt2.false)

pub bounds-v-w-2 : goal.bounds-v-w-2
bounds-v-w-2 c = last_within c.args.v.now c.word_run-w.result c.word_run-w.ensures c.if-w-lt2.false

pub returns-in-95-eq95 : goal.returns-in-95-eq95
returns-in-95-eq95 c = labelled-two c.args.v.now c.word_run-w.result c.word_run-w.ensures c.if-w-lt2.false c.in-95-eq95.is-0 c.in-95-eq95.is-1

pub returns-in_default-eq95 : goal.returns-in_default-eq95
returns-in_default-eq95 c = labelled-one c.args.v.now c.word_run-w.result c.word_run-w.ensures c.if-w-lt2.false c.in_default-eq95.is-0.1 c.in_default-eq95.is-1

pub returns-in_default : goal.returns-in_default
returns-in_default c = labelled-not c.args.v.now c.word_run-w.result c.word_run-w.ensures c.if-w-lt2.false c.in_default.is-1.1

pub returns-in_default-2 : goal.returns-in_default-2
returns-in_default-2 c = labelled-not c.args.v.now c.word_run-w.result c.word_run-w.ensures c.if-w-lt2.false c.in_default.is-1.1
