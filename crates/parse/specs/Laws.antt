-- What the scanner's laws speak of: where a link stands; that links are in order and apart; what LF and a tail behind a text leave as it
-- was.
-- Assumes nothing.
use Rattle.std.specs.Prelude.{ℕ, ◌+◌, ◌<◌, ◌≤◌, ◌≡◌, List, [], ◌∷◌, ◌++◌, length}
use Rattle.rst_bytes.specs.Appending.{Body}
use Rattle.parse.specs.Link.{Scanned, found, nothing, no_room}
use Rattle.parse.specs.Forms.{Form, Forms}
use Rattle.parse.specs.Scan.{Round, ends, passes}
use Rattle.parse.specs.Links.{Placed}

-- a link of at least one byte, that starts at place n or behind it and ends by place m; and there is always room to look
abbrev pub Inside : ℕ → ℕ → Scanned → Type 0
Inside n m (found k x y skipped consumed) = (n ≤ skipped) × (0 < consumed) × (skipped + consumed ≤ m)
Inside n m nothing = Unit {0}
Inside n m no_room = ⊥

-- such a link, or some of the bytes up to place m are passed
abbrev pub RoundInside : ℕ → Round → Type 0
RoundInside m (ends x) = Inside 0 m x
RoundInside m (passes n) = (0 < n) × (n ≤ m)

-- in order and apart: each starts at or after the end of the one before, the first at or after place n, and all end by place m
abbrev pub Apart : ℕ → ℕ → List Placed → Type 0
Apart n m [] = n ≤ m
Apart n m (x ∷ xs) = (n ≤ x.place) × Apart (x.place + x.consumed) m xs

-- each has at least one byte, and strings no longer than what it consumed
abbrev pub AllMeasured : List Placed → Type 0
AllMeasured [] = Unit {0}
AllMeasured (x ∷ xs) =
    (0 < x.consumed) × (length x.first ≤ x.consumed) × (length x.second ≤ x.consumed) × AllMeasured xs

-- what each form of a list finds is found on s ++ 10 ∷ t too, and nothing else is
abbrev pub AllKeeping : List ℕ → List Form → Type 0
AllKeeping t [] = Unit {0}
AllKeeping t (f ∷ fs) = ((s : List ℕ) → Body s → f.parser (s ++ 10 ∷ t) ≡ f.parser s) × AllKeeping t fs

abbrev pub Keeping : List ℕ → Forms → Type 0
Keeping t forms =
    AllKeeping t forms.blocks × AllKeeping t forms.embedded × AllKeeping t forms.references × AllKeeping t forms.unreported

-- a link behind place p, if any
abbrev pub Later : ℕ → Scanned → Type 0
Later p (found k x y skipped consumed) = p < skipped
Later p nothing = Unit {0}
Later p no_room = Unit {0}

-- the same link; or there was none, and now there is none up to place p
abbrev pub Stays : ℕ → Scanned → Scanned → Type 0
Stays p (found k x y m n) z = z ≡ found k x y m n
Stays p nothing z = Later p z
Stays p no_room z = ⊥

-- every link starts behind place p
abbrev pub AllBehind : ℕ → List Placed → Type 0
AllBehind p [] = Unit {0}
AllBehind p (x ∷ xs) = (p < x.place) × AllBehind p xs

-- the links xs, and then such links
abbrev pub Continues : ℕ → List Placed → List Placed → Type 0
Continues p xs ys = (u : List Placed) × (ys ≡ xs ++ u) × AllBehind p u
