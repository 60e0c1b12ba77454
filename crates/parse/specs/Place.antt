-- What stands at a place of a text, what is found there, and what a step of a round asks there and learns.
-- Assumes nothing.
use Rattle.std.specs.Prelude.{Option, Some, None}
use Rattle.parse.specs.declared.Link.{Link}
use Rattle.std.specs.Prelude.{ℕ, ◌<◌, ◌≤◌, ◌≡◌, List, length, drop, get_or}
use Rattle.std.specs.declared.ops.ControlFlow.{ControlFlow}
use Rattle.std.specs.declared.ops.ControlFlow.TheVariants.{Break, Continue}
use Rattle.parse.specs.declared.Known.{Known}
use Rattle.parse.specs.declared.place.Place.{Place}
use Rattle.parse.specs.Link.{Scanned, behind}
use Rattle.parse.specs.Forms.{rst}
use Rattle.parse.specs.Scan.{followed}
use Rattle.parse.specs.Inner.{Holds, link_end, HoldsBehind}

abbrev pub rest_of : Place → List ℕ
rest_of p = drop p.at p.text.now

-- a backtick stands there
abbrev pub IsTick : Place → Type 0
IsTick p = (p.at < length p.text.now) × (get_or p.text.now p.at 0 ≡ 0x60)

-- what was found of links that are no blocks, with the block that follows
abbrev pub found_at : Place → Scanned → Scanned
found_at p x = behind p.at (followed rst (rest_of p) x)

-- the scratch is as long as the text, and what is known is true from the place on
pub record Ready (p : Place) (k : Known) (scratch : List ℕ) : Type 0 where
  pub room : length p.text.now ≤ length scratch
  pub known : Holds p.at k p.marks.now p.text.now

-- where a link was found what is known is true from behind it on, and where none was nothing was learnt
abbrev pub Learns : Place → Known → Known → Option Link → Type 0
Learns p old new (Some x) = Holds (link_end x) new p.marks.now p.text.now
Learns p old new None = new ≡ old

-- what is known is true from behind the link on, or from the place where it goes on
abbrev pub StepHolds : {C : Type 0} → Place → Known → (C → ℕ) → ControlFlow (Option Link) C → Type 0
StepHolds p known next (Break x) = HoldsBehind p.text.now known p.marks.now x
StepHolds p known next (Continue c) = Holds (next c) known p.marks.now p.text.now
