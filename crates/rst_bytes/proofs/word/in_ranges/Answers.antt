-- `in_ranges` meets its contract: that the table's ranges are in order and apart makes their ends rise, as the search asks, and gives what
-- is found its meaning.
-- Assumes nothing.
use Rattle.std.proofs.Common.{◌≡◌, ◌∙◌, sym, ltb, rules}
use Rattle.std.proofs.lemmas.Option.{gets}
use Rattle.std.specs.List.{slice_get}
use Rattle.std.proofs.lemmas.List.Sorted.{IsPartitionPoint-from_clause, IsPartitionedBy-ltb}
use Rattle.rst_bytes.proofs.WordLaws.{ends-rise, in_first, begins_by}
use Rattle.rst_bytes.proofs.word.in_ranges.Goals as goal

pub returns : goal.returns
returns c =
    let t = c.args.t.now in
    let x = c.args.c in
    let k = c.partition_point-k.result in
    let parted = IsPartitionedBy-ltb (λ r. r.1) t x (ends-rise t c.requires) in
    let found : c.is_some_and.result ≡ begins_by x (slice_get t k) = search (rules, gets) in
    found
    ∙ sym (in_first x t c.requires k (IsPartitionPoint-from_clause (λ r. ltb r.1 x) t k c.partition_point-k.ensures.partitioned parted (λ a r q k. search rules)))
