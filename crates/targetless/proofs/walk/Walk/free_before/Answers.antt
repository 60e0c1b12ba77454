-- The header is the end of the text before, and its blanks stand before it.
use Rattle.std.proofs.Common.{rules, ◌-◌, true, false, length, take, arith}
use Rattle.targetless.specs.Walk.{header_of}
use Rattle.targetless.proofs.CandidateLaws.{ends, free-front}
use Rattle.targetless.proofs.walk.Walk.free_before.Goals as goal

pub returns-in-95 : goal.returns-in-95
returns-in-95 c =
    let s = c.args.front.now in
    free-front (take (length s - 3) s) s c.args.rest.now (header_of false) c.free_at_header-in-95.result
    (ends s (header_of false) (search rules) (search rules, (search rules, (search rules, tt)))) (omega arith) c.free_at_header-in-95.ensures

pub returns-in-46 : goal.returns-in-46
returns-in-46 c =
    let s = c.args.front.now in
    free-front (take (length s - 4) s) s c.args.rest.now (header_of true) c.free_at_header.result
    (ends s (header_of true) (omega arith) (omega arith, (omega arith, (omega arith, (omega arith, tt))))) (omega arith) c.free_at_header.ensures
