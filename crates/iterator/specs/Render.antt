-- The option of the document call, in the code: "render is not 0 or 1" is refused.
-- Assumes nothing.
use Rattle.std.specs.Prelude.{ℕ, ◌<◌, ◌≡◌, Result, MatchResult}
use Rattle.parse.specs.declared.refusal.Refusal.{Refusal}
use Rattle.parse.specs.declared.refusal.Refusal.TheVariants as refusals
use Rattle.iterator.specs.declared.render.Render.{Render}
use Rattle.iterator.specs.declared.render.Render.TheVariants.{Off, On}

-- its number
abbrev pub render_number : Render → ℕ
render_number Off = 0
render_number On = 1

-- the option with this number, or the refusal of a number that none has
abbrev pub Decodes : ℕ → Result Render Refusal → Type 0
Decodes render r = MatchResult r (λ v. render_number v ≡ render) (λ e. (e ≡ refusals.Render) × (1 < render))
