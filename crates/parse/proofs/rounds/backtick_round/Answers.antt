-- `rounds::backtick_round` meets its contract. At a backtick that is known to open nothing (d) and (e) find nothing; where it is known that (d)
-- finds nothing there is (e) alone; else what they find is the answer. If that is nothing (f) passes on, and what is known then holds from the
-- next place on.
-- Assumes nothing.
use mathlib.Core.Path.{subst⁻¹}
use Rattle.std.proofs.Common.{◌+◌, sym, ap, ◌∙◌, arith}
use native.Mathlib.Nat.{le_refl}
use Rattle.parse.specs.declared.Known.{Known}
use Rattle.parse.specs.Link.{behind}
use Rattle.parse.specs.Forms.{tried, rst}
use Rattle.parse.specs.Scan.{ends}
use Rattle.parse.specs.Inner.{Tick, Any, NoPart, NoLink, NoBlock, Shut, Barren, Holds}
use Rattle.parse.specs.Place.{rest_of}
use Rattle.parse.proofs.RoundLaws.{is-scanned, inline-unlinked, text-found, text-passed, passed-le}
use Rattle.parse.proofs.BacktickLaws.{shut-inline, each-later, each-behind}
use Rattle.parse.proofs.rounds.backtick_round.Goals as goal

pub returns-then-place-known-clause-step : goal.returns-then-place-known-clause-step
returns-then-place-known-clause-step c =
    let p = c.args.place in
    let t = c.requires.tick in
    text-passed p.at (rest_of p) c.args.spaced _ (ap (behind p.at) (sym (shut-inline c.args.spaced p.text.now p.at t.0 _ c.requires.ready.known.0 c.if-place-known.true t.1))) c.passed.ensures

pub returns-in-Err-clause-step : goal.returns-in-Err-clause-step
returns-in-Err-clause-step c =
    let p = c.args.place in
    let t = c.requires.tick in
    let e = c.in-Err.ensures in
    let shut : Shut p.at (p.at + c.in-Err.n) p.text.now = each-behind (Tick NoPart) p.text.now _ p.at _ c.rest.ensures e.2 in
    text-passed p.at (rest_of p) c.args.spaced _ (ap (behind p.at) (sym (shut-inline c.args.spaced p.text.now p.at t.0 _ shut (omega (arith, e.0)) t.1))) c.passed-in-Err.ensures

pub returns-in-Err-clause-known : goal.returns-in-Err-clause-known
returns-in-Err-clause-known c =
    let p = c.args.place in
    let s = p.text.now in
    let g = passed-le s p.at _ c.requires.tick.0 c.passed-in-Err.ensures in
    let k = c.requires.ready.known in (
      each-later (Tick NoPart) s p.at _ _ g (each-behind (Tick NoPart) s _ p.at _ c.rest.ensures c.in-Err.ensures.2),
      each-later (Tick NoLink) s p.at _ _ g k.1,
      each-later (Any NoBlock) s p.at _ _ g k.2,
      k.3,
    )

pub reference_round-requires-clause-none : goal.reference_round-requires-clause-none
reference_round-requires-clause-none c =
    let p = c.args.place in
    let e = c.in-Some.ensures in
    let barren : Barren p.at (p.at + c.in-Some.n) p.text.now = each-behind (Tick NoLink) p.text.now _ p.at _ c.rest-2.ensures e.2 in
    barren p.at (le_refl p.at) (omega (arith, e.0)) c.requires.tick.1

pub reference_round-requires-clause-ready : goal.reference_round-requires-clause-ready
reference_round-requires-clause-ready c =
    let p = c.args.place in
    let k = c.requires.ready.known in
    record {
      room = c.requires.ready.room;
      known = (k.0, each-behind (Tick NoLink) p.text.now _ p.at _ c.rest-2.ensures c.in-Some.ensures.2, k.2, k.3);
    }

pub returns-in-Some-inline_at-clause-step : goal.returns-in-Some-inline_at-clause-step
returns-in-Some-inline_at-clause-step c =
    let p = c.args.place in
    ap ends (is-scanned c.in-Some-inline_at.is c.inline_at.new.scratch) ∙ text-found p.at (rest_of p) c.args.spaced c.inline_at.result c.inline_at.new.scratch c.inline_at.ensures.scan _ c.in-Some-inline_at.is

pub barren-requires-clause-none : goal.barren-requires-clause-none
barren-requires-clause-none c =
    let p = c.args.place in
    ap (tried rst.embedded) c.rest-3.ensures ∙ inline-unlinked p.at (rest_of p) c.args.spaced (is-scanned c.in_default-inline_at.is c.inline_at.new.scratch ∙ c.inline_at.ensures.scan)

pub returns-clause-step : goal.returns-clause-step
returns-clause-step c =
    let p = c.args.place in
    text-passed p.at (rest_of p) c.args.spaced _ (is-scanned c.in_default-inline_at.is c.inline_at.new.scratch ∙ c.inline_at.ensures.scan) c.passed-2.ensures

pub returns-clause-known : goal.returns-clause-known
returns-clause-known c =
    let p = c.args.place in
    let s = p.text.now in
    let g = passed-le s p.at _ c.requires.tick.0 c.passed-2.ensures in
    let k = subst⁻¹ (λ (z : Known). Holds p.at z p.marks.now s) c.in_default-inline_at.ensures.known c.requires.ready.known in (
      each-later (Tick NoPart) s p.at _ _ g k.0,
      each-later (Tick NoLink) s p.at _ _ g (each-behind (Tick NoLink) s _ p.at _ c.rest-3.ensures c.barren.ensures.barren),
      each-later (Any NoBlock) s p.at _ _ g k.2,
      k.3,
    )
