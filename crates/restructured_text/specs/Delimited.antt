-- "backtick, `escaped` up to a backtick, then .." and the like: a part that `escaped` reads between given bytes; and what a text
-- ends with.
-- Assumes nothing.
use Rattle.std.specs.Prelude.{Option, Some, None}
use Rattle.std.specs.Prelude.{ℕ, ◌-◌, List, [], ◌∷◌, Bool, true, false, ◌&&◌, leb, length, drop}
use Rattle.rst_bytes.specs.Escaped.{escaped_of}
use Rattle.rst_bytes.specs.Tag.{starts_with}

-- the part, up to p or q, that is read behind `left`, if it stands before `right`
unfoldable pub delimited_of : List ℕ → ℕ → ℕ → List ℕ → List ℕ → Option ℕ
delimited_of left p q right s =
    elim (starts_with left s) [
      | true ↦ elim (escaped_of p q (drop (length left) s)) [
        | Some n ↦ elim (starts_with right (drop n (drop (length left) s))) [ true ↦ Some n | false ↦ None ]
        | None ↦ None
      ]
      | false ↦ None
    ]

-- the last bytes are t
unfoldable pub ends_with : List ℕ → List ℕ → Bool
ends_with t s = leb (length t) (length s) && starts_with t (drop (length s - length t) s)

-- "then `_, for anonymous one more _"
abbrev pub closing : Bool → List ℕ
closing true = 0x60 ∷ 0x5F ∷ 0x5F ∷ []
closing false = 0x60 ∷ 0x5F ∷ []

-- "backtick, `escaped` up to a backtick, then `_, for anonymous one more _"
abbrev pub backticked_of : Bool → List ℕ → Option ℕ
backticked_of anonym s = delimited_of (0x60 ∷ []) 0x60 0x60 (closing anonym) s
