-- The slice that is lent is as long as the array, of which it is all.
use Rattle.std.proofs.Common.{ℕ, sym}
use Rattle.std.proofs.lemmas.List.{length-replicate}
use Rattle.vectors.proofs.main.Goals as goal

pub slice_bounds-replay_all-end : goal.slice_bounds-replay_all-end
slice_bounds-replay_all-end c = sym (length-replicate {A = ℕ} 655360 0)
