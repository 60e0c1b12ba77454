-- Where no target starts no block begins, so at places that are marked none does (`Barred`), in what stands further on too.
-- Assumes nothing.
use Prim.Native.Nat.{ℕ, ◌+◌}
use mathlib.Core.Path.{◌≡◌, sym, subst⁻¹, ◌∙◌}
use mathlib.Core.List.{List}
use mathlib.Core.Bool.{true, false}
use lib.ListN.{drop, replicate}
use lib.Seq.{drop-drop, get_or-drop}
use Rattle.restructured_text.specs.Target.{label2dest_of, label2label_of, starts_target}
use Rattle.restructured_text.proofs.TargetLaws.{no-label, no-destination}
use Rattle.targetless.specs.Targetless.{NoTarget, Marks}
use Rattle.targetless.proofs.WalkLaws.{marks-none}
use Rattle.parse.specs.Inner.{NoBlock, Barred}
use Rattle.parse.proofs.FormsLaws.{no_block}

-- where no target starts no block begins
no_target : (s : List ℕ) → NoTarget s → NoBlock s
unfolding label2label_of label2dest_of
no_target s f = no_block s (f true) (f false)

-- and where nothing stands that starts one
pub unstarted : (s : List ℕ) → starts_target s ≡ false → NoBlock s
unstarted s e = no_block s (no-label s e) (no-destination s e)

-- marks of targets are marks of blocks
pub marks-barred : (marks s : List ℕ) → Marks marks s → Barred marks s
marks-barred marks s f k e = no_target (drop k s) (f k e)

-- where nothing is marked nothing is claimed
pub barred-none : (n : ℕ) (s : List ℕ) → Barred (replicate n 0) s
barred-none n s = marks-barred (replicate n 0) s (marks-none n s)

-- marks of s tell of what stands at place k of it, by those from there on
pub barred-front : (marks s : List ℕ) → Barred marks s → (k : ℕ) → Barred (drop k marks) (drop k s)
barred-front marks s f k i g = subst⁻¹ NoBlock (drop-drop i k s) (f (k + i) (sym (get_or-drop k marks i 0) ∙ g))
