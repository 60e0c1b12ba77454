-- A read's bytes come behind those that stand there.
use Rattle.std.proofs.Common.{◌≡◌, ℕ, ◌+◌, ◌-◌, ◌≤◌, List, ◌++◌, rules, length, take, sym, ap, ◌∙◌, subst, length-take-le}
use Rattle.std.proofs.Math.Seq.{take-append-add}
use Rattle.std.proofs.lemmas.List.{take-append-le}
use Rattle.std.specs.Io.KnownBytes.{Consumes}
use Rattle.std.proofs.KnownBytes.{Consumes-trans}
use borrow.Rule.Slice.PartMut.{put_mid, post_of}
use Rattle.filling.proofs.read_full.Goals as goal

-- a bytes, and n of those that are put behind them
take_more-put_mid :
    (a k n : ℕ) (xs ys : List ℕ) → a ≤ length xs → n ≤ length ys → take (a + n) (put_mid a k xs ys) ≡ take a xs ++ take n ys
take_more-put_mid a k n xs ys within fits =
    let after = post_of a k xs in
    ap (λ m. take (m + n) (put_mid a k xs ys)) (sym (length-take-le a xs within))
    ∙ take-append-add (take a xs) (ys ++ after) n
    ∙ ap (λ t. take a xs ++ t) (take-append-le n ys after fits)

pub loop-done-preserved : goal.loop-done-preserved
loop-done-preserved g c =
    let l = c.loop-done in
    let n = c.in_ok-n.n in
    let more = take_more-put_mid l.done (length l.buf - l.done) n l.buf c.read.new.buf l.invariant.within c.in_ok-n.ensures.bound.0 in
    record {
      within = search rules;
      front = subst (Consumes _ _) (sym more) (Consumes-trans _ _ _ _ _ l.invariant.front c.in_ok-n.ensures.bytes.0);
    }
