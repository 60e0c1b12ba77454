-- `rounds::reference_at` meets its contract: after blanks or at a start it is what `reference` finds, behind one of the openings if
-- there is one.
-- Assumes nothing.
use Rattle.std.proofs.Common.{◌≡◌, Bool, true, cond, get_or, sym, ap, ◌∙◌, rules}
use Rattle.parse.specs.Link.{behind}
use Rattle.parse.specs.Forms.{rst}
use Rattle.parse.specs.Scan.{is_opening, reference_at, followed}
use Rattle.parse.specs.Place.{rest_of}
use Rattle.parse.proofs.RoundLaws.{reference-opened}
use Rattle.parse.proofs.rounds.reference_at.Goals as goal

pub returns-clause-scan : goal.returns-clause-scan
returns-clause-scan c =
    let p = c.args.place in
    let b = c.is_opening.result in
    let e : b ≡ is_opening (get_or p.text.now p.at 0) = c.is_opening.ensures ∙ ap is_opening c.byte.ensures in
    let f : c.from.result ≡ cond b 1 0 = search rules in
    let g : c.args.spaced ≡ true = search rules in
    c.reference.ensures.scan
    ∙ reference-opened p.text.now p.at c.requires.inside _ b e f
    ∙ ap (λ (b : Bool). behind p.at (followed rst (rest_of p) (reference_at rst b (rest_of p)))) (sym g)
