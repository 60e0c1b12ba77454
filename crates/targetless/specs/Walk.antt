-- What the contracts of private functions speak of: what is kept at a place while a text is gone through from its end to its front.
-- Assumes nothing.
use Rattle.std.specs.Prelude.{ℕ, ◌-◌, ◌≤◌, ◌≡◌, List, [], ◌∷◌, Bool, true, false, Option, Some, None, leb, length, drop}
use Rattle.rst_bytes.specs.Line.{space0_of, not_line_ending_of}
use Rattle.targetless.specs.declared.verdict.Verdict.{Verdict}
use Rattle.targetless.specs.declared.state.Size.{Size}
use Rattle.targetless.specs.declared.state.State.{State}
use Rattle.targetless.specs.declared.walk.Walk.{Walk}
use Rattle.targetless.specs.Indents.{Rising}
use Rattle.targetless.specs.Verdict.{everything, both_of, up_to_of, lone_of, over_of, judged_of, Tells, Follows}
use Rattle.targetless.specs.Runs.{is_dead, line_stop, StateTells}

-- where no further line can follow
abbrev pub last_of : State
last_of =
    record {
      destination = lone_of everything false;
      label = everything;
      plain = everything;
      quoted = everything;
      closed = lone_of everything false;
      target = lone_of everything false;
      size = record { kept = 0; ends = 0 };
    }

-- at a line's end
abbrev pub over_line : List ℕ → State → ℕ → Size → State
over_line ranks near blanks size =
    record {
      destination = over_of ranks near.destination false blanks;
      label = over_of ranks near.label true blanks;
      plain = over_of ranks near.plain true blanks;
      quoted = over_of ranks near.quoted true blanks;
      closed = over_of ranks near.closed false blanks;
      target = over_of ranks near.destination false blanks;
      size = size;
    }

-- at a line's end behind a colon, before a line that begins with q blanks, of which the line behind it has the first ones too
abbrev pub stop_of : List ℕ → ℕ → ℕ → Verdict → Verdict → Verdict
stop_of ranks q shared destination front =
    elim (leb 3 q) [
      | true ↦ elim (judged_of ranks front (leb q shared) (q - 3)) [ true ↦ lone_of destination true | false ↦ lone_of (both_of destination (up_to_of ranks (q - 1))) true ]
      | false ↦ lone_of destination true
    ]

-- the line at the front of s is refused; or it is not, and as many bytes are left from the next line on
abbrev pub Lined : Option ℕ → List ℕ → Type 0
Lined None s = not_line_ending_of s ≡ None
Lined (Some next) s = ((n : ℕ) × (not_line_ending_of s ≡ Some n)) × (next ≤ length s) × Follows (drop (length s - next) s) s

-- how many of the listed indents are shorter than each length
abbrev pub ranks_of : Walk → List ℕ
ranks_of w = w.indents.now.ranks

-- what is kept where s begins is true
pub record Walked (w : Walk) (s : List ℕ) : Type 0 where
  pub rising : Rising (ranks_of w)
  pub near : StateTells (ranks_of w) w.near s
  pub far : StateTells (ranks_of w) w.far (drop 1 s)
  pub stop : Tells (ranks_of w) line_stop w.stop s
  pub front : Tells (ranks_of w) is_dead w.front (drop (space0_of s) s)
  pub next : Lined w.next s

-- `.. _` if the flag says so, else `__ `
abbrev pub header_of : Bool → List ℕ
header_of true = 0x2E ∷ 0x2E ∷ 0x20 ∷ 0x5F ∷ []
header_of false = 0x5F ∷ 0x5F ∷ 0x20 ∷ []
