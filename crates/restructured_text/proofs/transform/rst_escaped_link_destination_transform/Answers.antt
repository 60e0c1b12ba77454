-- `transform::rst_escaped_link_destination_transform` meets its contract: whitespace is dropped, and then the part that was written is
-- unescaped in its place; or what `remove_whitespace` refuses is refused.
-- Assumes nothing.
use mathlib.Core.Path.{subst}
use Rattle.std.proofs.Common.{ℕ, Option}
use Rattle.restructured_text.specs.Transform.{kept_of, Leaves}
use Rattle.restructured_text.proofs.TransformLaws.{destination-part, destination-wrong}
use Rattle.restructured_text.proofs.transform.rst_escaped_link_destination_transform.Goals as goal

pub returns : goal.returns
returns c =
    destination-part _ _ _ _ _ (subst (λ (r : Option ℕ). Leaves (kept_of c.args.d.now) c.args.d.now c.remove_whitespace.new.d r) c.in_ok-n.was c.remove_whitespace.ensures) c.unescape.ensures

pub returns-in_err-n : goal.returns-in_err-n
returns-in_err-n c =
    rw c.from_residual.ensures
    (destination-wrong _ _ (subst (λ (r : Option ℕ). Leaves (kept_of c.args.d.now) c.args.d.now c.remove_whitespace.new.d r) c.in_err-n.was c.remove_whitespace.ensures))
