-- A line that is refused has no block; else the verdict on the block's text tells.
use Rattle.std.proofs.Common.{ℕ, ◌≤◌, ◌++◌, true, false, length, drop, sym, ◌∙◌}
use Rattle.targetless.specs.Targetless.{NoTarget}
use Rattle.targetless.specs.Walk.{header_of}
use Rattle.targetless.proofs.CandidateLaws.{judged-then, some-if, indent-blank, free-refused, flagged, free-unnamed, free-dead}
use Rattle.targetless.proofs.walk.Walk.free_at_header.Goals as goal

pub returns-in_default : goal.returns-in_default
returns-in_default c =
    (c.blanks_at_end-k.ensures.within, free-refused c.args.before.now c.args.rest.now c.blanks_at_end-k.result c.blanks_at_end-k.ensures.blank c.args.self.now c.requires c.in_default.is c.args.named)

pub is_unnamed-requires : goal.is_unnamed-requires
is_unnamed-requires c =
    record {
      walked = c.requires;
      blank = indent-blank c.args.before.now c.args.rest.now c.blanks_at_end-k.result c.blanks_at_end-k.ensures.blank c.args.self.now c.requires;
      on = flagged c.args.before.now c.args.rest.now c.blanks_at_end-k.result c.blanks_at_end-k.ensures.blank c.args.self.now c.requires c.in-Some.next c.in-Some.is c.goes_on-on.result c.goes_on-on.ensures;
    }

pub returns-then-named : goal.returns-then-named
returns-then-named c =
    rw (c.then_some.ensures, c.if-named.true)
    (some-if (λ (k : ℕ). (k ≤ length c.args.before.now) × NoTarget (drop k c.args.before.now ++ (header_of true ++ c.args.rest.now))) c.is_unnamed.result c.blanks_at_end-k.result
    (λ r. (
      c.blanks_at_end-k.ensures.within,
      free-unnamed c.args.before.now c.args.rest.now c.blanks_at_end-k.result c.blanks_at_end-k.ensures.blank c.args.self.now c.requires c.in-Some.next c.in-Some.is (c.is_unnamed.ensures r),
    )))

pub returns-else-named : goal.returns-else-named
returns-else-named c =
    rw (c.then_some-else-named-2.ensures, c.if-named.false)
    (some-if (λ (k : ℕ). (k ≤ length c.args.before.now) × NoTarget (drop k c.args.before.now ++ (header_of false ++ c.args.rest.now))) c.judged.result c.blanks_at_end-k.result
    (λ r. (
      c.blanks_at_end-k.ensures.within,
      free-dead c.args.before.now c.args.rest.now c.blanks_at_end-k.result c.blanks_at_end-k.ensures.blank c.args.self.now c.requires c.in-Some.next c.in-Some.is c.goes_on-on.result
          (flagged c.args.before.now c.args.rest.now c.blanks_at_end-k.result c.blanks_at_end-k.ensures.blank c.args.self.now c.requires c.in-Some.next c.in-Some.is c.goes_on-on.result c.goes_on-on.ensures)
          (sym (judged-then _ c.args.self.now.near.target c.goes_on-on.result _ c.then_some-else-named.result c.then_some-else-named.ensures) ∙ sym c.judged.ensures ∙ r),
    )))
