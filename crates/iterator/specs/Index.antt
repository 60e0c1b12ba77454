-- The index of the names with a destination, as it stands in the work numbers. Each name belongs to one of 256 buckets. Of each bucket the
-- index has the last row, and of each row the one before it in its bucket: counted from 1, and 0 where there is none.
-- Assumes nothing.
use Rattle.std.specs.Prelude.{ℕ, ◌+◌, ◌*◌, ◌%◌, ◌<◌, ◌≤◌, ◌≡◌, List, [], ◌∷◌, get_or, set}
use Rattle.restructured_text.specs.Strings.{part}
use Rattle.iterator.specs.Rows.{span_at, destinations_at, aliases_at}

-- the bucket of a name, by all of its bytes
unfoldable pub bucket_from : ℕ → List ℕ → ℕ
bucket_from h [] = h
bucket_from h (b ∷ x) = bucket_from ((h * 9 + b) % 256) x

abbrev pub bucket_of : List ℕ → ℕ
bucket_of x = bucket_from 0 x

-- the bucket of the name of row i
abbrev pub row_bucket : List ℕ → List ℕ → ℕ → ℕ
row_bucket t w i = bucket_of (part (span_at t (destinations_at + 4 * i)) w)

-- where the last row of each bucket stands; the row before stands in the table of the aliases, which are resolved then
abbrev pub lasts_at : ℕ
lasts_at = 3840

-- of the first m rows, whose buckets f tells, the last of bucket b is the p-th, or p is 0
pub record Latest (f : ℕ → ℕ) (b m p : ℕ) : Type 0 where
  pub before : p ≤ m
  pub others : (j : ℕ) → p ≤ j → j < m → f j ≡ b → ⊥
  pub its : (j : ℕ) → p ≡ j + 1 → f j ≡ b

-- the first n rows are in the index
pub record IndexedBy (f : ℕ → ℕ) (n : ℕ) (t : List ℕ) : Type 0 where
  pub lasts : (b : ℕ) → b < 256 → Latest f b n (get_or t (lasts_at + b) 0)
  pub earlier : (i : ℕ) → i < n → Latest f (f i) i (get_or t (aliases_at + i) 0)

abbrev pub Indexed : ℕ → List ℕ → List ℕ → Type 0
Indexed n t w = IndexedBy (row_bucket t w) n t

-- row i, which is in bucket b, put into the index
abbrev pub with_row : ℕ → ℕ → List ℕ → List ℕ
with_row i b t = set (set t (aliases_at + i) (get_or t (lasts_at + b) 0)) (lasts_at + b) (i + 1)

-- the tables of the links and of the names with a destination are as they were
abbrev pub TablesKept : List ℕ → List ℕ → Type 0
TablesKept t t' = (k : ℕ) → k < aliases_at → get_or t' k 0 ≡ get_or t k 0
