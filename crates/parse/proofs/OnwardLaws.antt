-- What is handed on from scan to scan: what is known where a link is found is true of the text behind it, with places counted from there.
-- Assumes nothing.
use Rattle.std.proofs.Common.{Option, Some, None}
use Prim.Native.Nat.{ℕ, ◌+◌, ◌≤◌}
use native.Mathlib.Omega.{arith}
use mathlib.Core.Path.{◌≡◌, refl, sym, ap, subst, subst⁻¹, ◌∙◌}
use mathlib.Core.List.{List}
use mathlib.Core.Bool.{Bool}
use lib.ListN.{length, drop, replicate, length-drop}
use Rattle.parse.specs.declared.Known.{Known}
use Rattle.parse.specs.declared.Link.{Link}
use Rattle.parse.specs.declared.Link.TheVariants.{Text2Dest, TextLabel2Dest, Text2Label, Label2Dest, Label2Label}
use Rattle.parse.specs.Link.{Scanned, found, nothing, no_room, behind, link_of, found_of}
use Rattle.parse.specs.Forms.{rst}
use Rattle.parse.specs.Scan.{rounds}
use Rattle.parse.specs.Laws.{Inside}
use Rattle.parse.specs.Inner.{Tick, Any, NoPart, NoLink, NoBlock, Holds, nothing_known, known_from, link_end, EndsWithin, HoldsBehind}
use Rattle.parse.proofs.ScanLaws.{rounds-inside, rst-consuming}
use Rattle.parse.proofs.BacktickLaws.{each_none, each-front, holds_later}
use Rattle.parse.proofs.BarredLaws.{barred-none, barred-front}
use Rattle.parse.proofs.RoundLaws.{link-nothing, link-room}

-- nothing known, with nothing marked, is true of every text
pub holds-nothing : (s : List ℕ) (m n : ℕ) → Holds m nothing_known (replicate n 0) s
holds-nothing s m n = (
  each_none (Tick NoPart) s m 0 (omega arith),
  each_none (Tick NoLink) s m 0 (omega arith),
  each_none (Any NoBlock) s m 0 (omega arith),
  barred-none n s,
)

-- all that is known from m on is true of what stands from a later place on
holds-front :
    (s marks : List ℕ) (m k : ℕ) (known : Known) → m ≤ k → Holds m known marks s → Holds 0 (known_from k known) (drop k marks) (drop k s)
holds-front s marks m k known h w =
    (each-front (Tick NoPart) s m k known.shut h w.0, each-front (Tick NoLink) s m k known.barren h w.1, each-front (Any NoBlock) s m k known.blocks h w.2, barred-front marks s w.3 k)

-- and what `next_of` hands on
pub behind-holds :
    (s marks : List ℕ) (x : Link) (known k : Known) (n : ℕ) → Holds (link_end x) known marks s → n ≡ link_end x → k ≡ known_from n known
    → Holds 0 k (drop (link_end x) marks) (drop (link_end x) s)
behind-holds s marks x known k n w e f =
    subst⁻¹ (λ (z : Known). Holds 0 z (drop (link_end x) marks) (drop (link_end x) s)) (f ∙ ap (λ (m : ℕ). known_from m known) e)
    (holds-front s marks (link_end x) (link_end x) known (omega arith) w)

-- a link ends behind where it starts
link-inside : (i n : ℕ) (x : Link) (d : List ℕ) → Inside i n (link_of x d) → (i ≤ link_end x) × (link_end x ≤ n)
link-inside i n (Text2Dest a b k m) d w = (omega arith, w.2)
link-inside i n (TextLabel2Dest a b k m) d w = (omega arith, w.2)
link-inside i n (Text2Label a b k m) d w = (omega arith, w.2)
link-inside i n (Label2Dest a b k m) d w = (omega arith, w.2)
link-inside i n (Label2Label a b k m) d w = (omega arith, w.2)

-- the link that the rounds from place i on find ends within the text, and what is known at place i is true behind it
pub found_within :
    (s : List ℕ) (i : ℕ) (start : Bool) (d : List ℕ) (x : Option Link) → i ≤ length s → found_of x d ≡ rounds rst 0 start i (drop i s) → EndsWithin s x
found_within s i start d (Some x) h e =
    let v = link-inside i (i + length (drop i s)) x d (subst (Inside i (i + length (drop i s))) (sym e) (rounds-inside rst rst-consuming (drop i s) 0 start i)) in
    omega (arith, v.1, length-drop i s)
found_within s i start d None h e = tt

-- where a link is found, and where none is, what is known at place i is true behind it
pub found-holds :
    (s marks : List ℕ) (i : ℕ) (start : Bool) (known : Known) (d : List ℕ) (x : Option Link) → Holds i known marks s
    → found_of x d ≡ rounds rst 0 start i (drop i s) → HoldsBehind s known marks x
found-holds s marks i start known d (Some x) w e =
    let v = link-inside i (i + length (drop i s)) x d (subst (Inside i (i + length (drop i s))) (sym e) (rounds-inside rst rst-consuming (drop i s) 0 start i)) in
    holds_later s marks i (link_end x) known v.0 w
found-holds s marks i start known d None w e = tt

-- the end of what was found
abbrev end_of : Scanned → ℕ
end_of (found k x y m n) = m + n
end_of nothing = 0
end_of no_room = 0

link-end : (x : Link) (d : List ℕ) → link_end x ≡ end_of (link_of x d)
link-end (Text2Dest a b k m) d = refl
link-end (TextLabel2Dest a b k m) d = refl
link-end (Text2Label a b k m) d = refl
link-end (Label2Dest a b k m) d = refl
link-end (Label2Label a b k m) d = refl

-- a link that is found behind i bytes ends behind them: so what is known at place i is true behind it
pub after-holds :
    (s marks d : List ℕ) (i : ℕ) (known : Known) (x : Option Link) (z : Scanned) → Holds i known marks s → found_of x d ≡ behind i z
    → HoldsBehind s known marks x
after-holds s marks d i known (Some x) (found k u v m n) w e =
    holds_later s marks i (link_end x) known (omega (arith, link-end x d, ap end_of e)) w
after-holds s marks d i known (Some x) nothing w e = absurd (link-nothing x d e)
after-holds s marks d i known (Some x) no_room w e = absurd (link-room x d e)
after-holds s marks d i known None z w e = tt
