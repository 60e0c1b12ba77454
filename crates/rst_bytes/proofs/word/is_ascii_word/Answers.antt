-- `is_ascii_word` meets its contract: each way out has the bounds that decide the ranges.
-- Assumes nothing.
use mathlib.Core.Bool.{and-false, or-false}
use native.Mathlib.Omega.{arith}
use borrow.Author.Tests.{le-leb, lt-leb, ne_eqb}
use Rattle.rst_bytes.specs.Word.{is_ascii_word}
use Rattle.rst_bytes.proofs.word.is_ascii_word.Goals as goal

pub returns-then-c-ge97 : goal.returns-then-c-ge97
unfolding is_ascii_word
returns-then-c-ge97 c =
    let x = c.args.c in
    simp (lt-leb x 0x39 (omega arith), lt-leb x 0x5A (omega arith), le-leb 0x61 x (omega arith), ne_eqb x 0x2D (λ e. omega arith), ne_eqb x 0x5F (λ e. omega arith), and-false, or-false)

pub returns-then-c-lt48 : goal.returns-then-c-lt48
unfolding is_ascii_word
returns-then-c-lt48 c =
    let x = c.args.c in
    simp (lt-leb 0x30 x (omega arith), lt-leb 0x41 x (omega arith), lt-leb 0x61 x (omega arith), ne_eqb x 0x5F (λ e. omega arith), or-false)

pub returns-then-c-le57 : goal.returns-then-c-le57
unfolding is_ascii_word
returns-then-c-le57 c =
    let x = c.args.c in
    simp (le-leb 0x30 x (omega arith), le-leb x 0x39 (omega arith))

pub returns-then-c-lt65 : goal.returns-then-c-lt65
unfolding is_ascii_word
returns-then-c-lt65 c =
    let x = c.args.c in
    simp (lt-leb x 0x39 (omega arith), lt-leb 0x41 x (omega arith), lt-leb 0x61 x (omega arith), ne_eqb x 0x2D (λ e. omega arith), ne_eqb x 0x5F (λ e. omega arith), and-false)

pub returns-then-c-le90 : goal.returns-then-c-le90
unfolding is_ascii_word
returns-then-c-le90 c =
    let x = c.args.c in
    simp (lt-leb x 0x39 (omega arith), le-leb 0x41 x (omega arith), le-leb x 0x5A (omega arith), and-false)

pub returns : goal.returns
unfolding is_ascii_word
returns c =
    let x = c.args.c in
    simp (lt-leb x 0x39 (omega arith), lt-leb x 0x5A (omega arith), lt-leb 0x61 x (omega arith), ne_eqb x 0x2D (λ e. omega arith), and-false)
