-- Up to a place the numbers rise, and none is greater than how many indents are shorter than the place, which are 127 at most.
use Rattle.std.proofs.Common.{◌≡◌, ◌≤◌, length}
use Rattle.targetless.proofs.IndentsLaws.{Rises}
use Rattle.targetless.proofs.indents.Indents.list.Given as goal

abbrev pub invariant-loop-k : goal.invariant-loop-k
invariant-loop-k l = Rises l.self.ranks l.k l.shorter × (l.shorter ≤ 127) × (length l.self.ranks ≡ 1025)
