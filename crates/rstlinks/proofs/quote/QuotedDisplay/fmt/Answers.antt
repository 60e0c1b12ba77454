-- One part more stands in quotes.
use Rattle.std.proofs.Common.{ℕ, List, [], ◌∷◌, ◌++◌, refl, ap, ◌∙◌, rules}
use Rattle.std.proofs.Output.{has_written_append}
use Rattle.std.proofs.lemmas.Grind.{put_three}
use Rattle.std.proofs.lemmas.List.{nil_from_length}
use Rattle.std.specs.Char.{encode_utf8}
use Rattle.rstlinks.proofs.QuoteLaws.{part-more, nothing-more}
use Rattle.rstlinks.proofs.quote.QuotedDisplay.fmt.Goals as goal

pub loop-part-preserved : goal.loop-part-preserved
loop-part-preserved g c =
    let steps = c.in-Some.ensures.steps in (
      steps.0 ∙ c.loop-part.invariant.0,
      λ plain.
          let now = c.loop-part.invariant.1 plain in (
            now.0 ++ c.shown.result.now,
            has_written_append _ _ _ _ _ _ now.1 (search rules),
            part-more now.0 c.in-Some.part.now _ _ _ _ steps.1.0 c.shown.ensures now.2,
          ),
    )

pub returns-clause-writes : goal.returns-clause-writes
unfolding encode_utf8
returns-clause-writes g c = λ plain ok.
    let first = c.in_ok-write_char.ensures.writes plain refl in
    let now = c.loop-part.invariant.1 first.plain in
    let all = nothing-more now.0 _ _ (nil_from_length _ c.in-None.ensures.steps.1.0) now.2 in
    put_three _ _ _ _ _ _ _ _ _ first now.1 (c.write_char-2.ensures.writes now.1.plain ok) (ap (λ (s : List ℕ). 0x22 ∷ (s ++ 0x22 ∷ [])) all)
