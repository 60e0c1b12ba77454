-- The single-link call's answer in numbers.
-- Assumes nothing.
use Rattle.std.specs.Prelude.{ℕ, ◌<◌, List}
use Rattle.parse.specs.declared.Link.{Link}
use Rattle.parse.specs.declared.Link.TheVariants.{Text2Dest, TextLabel2Dest, Text2Label, Label2Dest, Label2Label}
use Rattle.parse.specs.Single.{Outcome}
use Rattle.rstlinks_c.specs.declared.Taken.{Taken}

-- what the returned value says, with both buffers as the call left them
abbrev pub taken : Taken → List ℕ → List ℕ → Outcome
taken r f g =
    record {
      number = r.number;
      bytes = r.bytes;
      kind = r.kind;
      skipped = r.skipped;
      consumed = r.consumed;
      first = r.first;
      second = r.second;
      first_buffer = f;
      second_buffer = g;
    }

-- a length that 32 bits hold
abbrev pub Short : ℕ → Type 0
Short n = n < 4294967296

abbrev pub AllShort : ℕ → ℕ → ℕ → ℕ → Type 0
AllShort a b c d = Short a × (Short b × (Short c × Short d))

-- so are those of a link
abbrev pub LinkShort : Link → Type 0
LinkShort (Text2Dest a b skipped consumed) = AllShort a.len b.len skipped consumed
LinkShort (TextLabel2Dest a b skipped consumed) = AllShort a.len b.len skipped consumed
LinkShort (Text2Label a b skipped consumed) = AllShort a.len b.len skipped consumed
LinkShort (Label2Dest a b skipped consumed) = AllShort a.len b.len skipped consumed
LinkShort (Label2Label a b skipped consumed) = AllShort a.len b.len skipped consumed

-- a refusal, and a link of the case of that number, in numbers
abbrev pub refusal : ℕ → ℕ → Taken
refusal number bytes =
    record { number = number; bytes = bytes; kind = 0; skipped = 0; consumed = 0; first = 0; second = 0 }

abbrev pub acceptance : ℕ → ℕ → ℕ → ℕ → ℕ → Taken
acceptance kind first second skipped consumed =
    record { number = 0; bytes = 0; kind = kind; skipped = skipped; consumed = consumed; first = first; second = second }

abbrev pub link_taken : Link → Taken
link_taken (Text2Dest a b skipped consumed) = acceptance 1 a.len b.len skipped consumed
link_taken (TextLabel2Dest a b skipped consumed) = acceptance 2 a.len b.len skipped consumed
link_taken (Text2Label a b skipped consumed) = acceptance 3 a.len b.len skipped consumed
link_taken (Label2Dest a b skipped consumed) = acceptance 4 a.len b.len skipped consumed
link_taken (Label2Label a b skipped consumed) = acceptance 5 a.len b.len skipped consumed
