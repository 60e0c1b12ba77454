-- The rows of one step of the walk through the aliases: what the rows that are left say where the target of the next has a destination,
-- which is then stored for the alias, and where it has none, so that the alias is passed.
-- Assumes nothing.
use Rattle.std.proofs.lemmas.List.{map_push}
use Prim.Native.Nat.{ℕ, suc, ◌+◌, ◌-◌, ◌*◌, ◌<◌, ◌≤◌}
use native.Mathlib.Omega.{arith}
use mathlib.Core.Path.{◌≡◌, ap, ap₂, sym, subst, subst⁻¹, ◌∙◌}
use mathlib.Core.List.{List, [], ◌∷◌, ◌++◌, map, append_assoc}
use lib.ListN.{length, length-append, length-map}
use Rattle.restructured_text.specs.declared.Span.{Span}
use Rattle.restructured_text.specs.Strings.{part}
use Rattle.iterator.specs.declared.rows.PairRow.{PairRow}
use Rattle.iterator.specs.declared.resolve.Walk.{Walk}
use Rattle.iterator.specs.Collect.{Pair}
use Rattle.iterator.specs.Resolve.{has, none, lookup}
use Rattle.iterator.specs.Rows.{
  pair_at,
  put_pair,
  pair_rows,
  pair_of,
  pairs_of,
  destinations_at,
  aliases_at,
  room,
  SpanWithin,
  PairWithin,
  PairsWithin,
}
use Rattle.iterator.specs.Inner.{Roomy, goes_on, left_of, queue_of, walk_of, Without, Walking, Tryable, steps_left, LinksKept, PairSmall}
use Rattle.iterator.proofs.RowsLaws.{length-put-pair, length_pairs, pairs-put, pairs-pair-after, pairs-pair-before, links-pair-after, pairs-within-snoc, pair_small}
use Rattle.iterator.proofs.ResolveLaws.{goes-miss, goes-hit}
use Rattle.iterator.proofs.LookupLaws.{none-fewer}

-- Aliases whose targets have no destination: with one more, and as the rows are that say them
without-snoc :
    (stored aliases : List Pair) (x : Pair) → Without stored aliases → lookup x.to stored ≡ none
    → Without stored (aliases ++ x ∷ [])
unfolding Without
without-snoc stored [] x h e = (e, tt)
without-snoc stored (y ∷ aliases) x h e = (h.0, without-snoc stored aliases x h.1 e)

without-rows :
    (w : List ℕ) (a a' b b' : List PairRow) → a' ≡ a → b' ≡ b → Without (map (pair_of w) a) (map (pair_of w) b)
    → Without (map (pair_of w) a') (map (pair_of w) b')
without-rows w a a' b b' e f h =
    subst⁻¹ (λ (l : List PairRow). Without (map (pair_of w) l) (map (pair_of w) b')) e
    (subst⁻¹ (λ (l : List PairRow). Without (map (pair_of w) a) (map (pair_of w) l)) f h)

-- the walk with one alias passed more, and with one left out whose target's destination was stored
abbrev pub passed_one : Walk → Walk
passed_one v = record v { passed = v.passed + 1; next = v.next + 1; misses = v.misses + 1 }

abbrev pub stored_one : Walk → Walk
stored_one v = record v { next = v.next + 1; misses = 0; destinations = v.destinations + 1 }

-- what trying an alias keeps: t and t' are the work numbers before and after, v and r the walk
abbrev pub Tried : List ℕ → List ℕ → List ℕ → Walk → Walk → Type 0
Tried t t' w v r =
    record {
      walk : walk_of t' w r ≡ walk_of t w v;
      walking : Walking t' w r;
      fewer : steps_left r < steps_left v;
      links : LinksKept t t';
    }

-- the rows from the next alias on, and those behind it
abbrev ahead_rows : List ℕ → Walk → List PairRow
ahead_rows t v = pair_rows (v.end - v.next) (aliases_at + 4 * v.next) t

abbrev behind_rows : List ℕ → Walk → List PairRow
behind_rows t v = pair_rows (v.end - (v.next + 1)) (aliases_at + 4 * (v.next + 1)) t

-- the aliases that are left without the next
abbrev rest_of : List ℕ → List ℕ → Walk → List Pair
rest_of t w v = map (pair_of w) (behind_rows t v) ++ pairs_of v.passed aliases_at t w

-- the names with a destination
abbrev stored_in : List ℕ → List ℕ → Walk → List Pair
stored_in t w v = pairs_of v.destinations destinations_at t w

-- as many as the walk says are left
pub length-queue : (t w : List ℕ) (v : Walk) → length (queue_of t w v) ≡ left_of v
length-queue t w v = simp (length-append, length-map, length_pairs) (omega arith)

-- the next row, and those behind it
rows-cons : (t : List ℕ) (v : Walk) → v.next < v.end → ahead_rows t v ≡ pair_at t (aliases_at + 4 * v.next) ∷ behind_rows t v
unfolding pair_rows
rows-cons t v h =
    let e : v.end - v.next ≡ suc (v.end - (v.next + 1)) = omega arith in
    let f : aliases_at + 4 * (v.next + 1) ≡ aliases_at + 4 * v.next + 4 = omega arith in
    rw (e, f)

-- An alias that is tried: its row is x
module _ (t w : List ℕ) (v : Walk) (p : Tryable t w v) (x : PairRow) (e : x ≡ pair_at t (aliases_at + 4 * v.next)) where
  rows_next : ahead_rows t v ≡ x ∷ behind_rows t v
  rows_next = rows-cons t v p.more ∙ ap (λ (y : PairRow). y ∷ behind_rows t v) (sym e)

  within-next : PairWithin room x × PairsWithin room (behind_rows t v)
  unfolding PairsWithin
  within-next = subst (PairsWithin room) rows_next p.walking.ahead_within

  without-next :
      (lookup (part x.to w) (pairs_of v.known destinations_at t w) ≡ none)
      × Without (pairs_of v.known destinations_at t w) (map (pair_of w) (behind_rows t v))
  unfolding Without
  without-next =
      subst (λ (rows : List PairRow). Without (pairs_of v.known destinations_at t w) (map (pair_of w) rows)) rows_next p.walking.ahead-without

  pub tried-small : PairSmall x
  tried-small = pair_small room x within-next.0 (omega arith)

  -- its target, which is looked up
  pub tried-inside : x.to.start + x.to.len ≤ length w
  tried-inside = omega (arith, within-next.0.1.0, p.walking.roomy.1)

  pub tried-others : (name : List ℕ) → name ≡ part x.to w → lookup name (pairs_of v.known destinations_at t w) ≡ none
  tried-others name f = ap (λ (n : List ℕ). lookup n (pairs_of v.known destinations_at t w)) f ∙ without-next.0

  queue-next : queue_of t w v ≡ pair_of w x ∷ rest_of t w v
  queue-next = ap (λ (rows : List PairRow). map (pair_of w) rows ++ pairs_of v.passed aliases_at t w) rows_next

  walk-next : walk_of t w v ≡ goes_on v.misses (pair_of w x ∷ rest_of t w v) (stored_in t w v)
  walk-next = ap (λ (q : List Pair). goes_on v.misses q (stored_in t w v)) queue-next

  misses-fewer : v.misses < length (pair_of w x ∷ rest_of t w v)
  misses-fewer = subst (λ n. v.misses < n) (sym (length-queue t w v) ∙ ap length queue-next) p.unmissed

  -- a row y that is put at place m, before those behind the next
  module _ (m : ℕ) (y : PairRow) where
    put-roomy : Roomy (put_pair t m y) w
    put-roomy = (omega (arith, length-put-pair t m y, p.walking.roomy.0), p.walking.roomy.1)

    put-behind : m ≤ aliases_at + 4 * v.next → behind_rows (put_pair t m y) v ≡ behind_rows t v
    put-behind h = pairs-pair-before (v.end - (v.next + 1)) (aliases_at + 4 * (v.next + 1)) m t y (omega arith)

    put-links : destinations_at ≤ m → LinksKept t (put_pair t m y)
    put-links h = λ n k. links-pair-after n 0 m t y (omega arith)

  -- It is passed: its row is put behind those that were passed
  passed-behind : behind_rows (put_pair t (aliases_at + 4 * v.passed) x) v ≡ behind_rows t v
  passed-behind = put-behind (aliases_at + 4 * v.passed) x (omega arith)

  passed-rows :
      pair_rows (v.passed + 1) aliases_at (put_pair t (aliases_at + 4 * v.passed) x) ≡ pair_rows v.passed aliases_at t ++ x ∷ []
  passed-rows = pairs-put v.passed aliases_at t x (omega arith)

  passed-destinations :
      (n : ℕ) → n ≤ v.destinations
      → pair_rows n destinations_at (put_pair t (aliases_at + 4 * v.passed) x) ≡ pair_rows n destinations_at t
  passed-destinations n h = pairs-pair-after n destinations_at (aliases_at + 4 * v.passed) t x (omega arith)

  passed-all :
      pair_rows v.destinations destinations_at (put_pair t (aliases_at + 4 * v.passed) x)
      ≡ pair_rows v.destinations destinations_at t
  passed-all = passed-destinations v.destinations (omega arith)

  passed-queue : queue_of (put_pair t (aliases_at + 4 * v.passed) x) w (passed_one v) ≡ rest_of t w v ++ pair_of w x ∷ []
  passed-queue =
      ap₂ (λ (a b : List PairRow). map (pair_of w) a ++ map (pair_of w) b) passed-behind passed-rows
      ∙ ap (λ (l : List Pair). map (pair_of w) (behind_rows t v) ++ l) (map_push (pair_of w) (pair_rows v.passed aliases_at t) x)
      ∙ sym (append_assoc (map (pair_of w) (behind_rows t v)) (pairs_of v.passed aliases_at t w) (pair_of w x ∷ []))

  passed-walk :
      lookup (part x.to w) (stored_in t w v) ≡ none
      → walk_of (put_pair t (aliases_at + 4 * v.passed) x) w (passed_one v) ≡ walk_of t w v
  passed-walk g =
      ap₂ (goes_on (v.misses + 1)) passed-queue (ap (map (pair_of w)) passed-all)
      ∙ sym (walk-next ∙ goes-miss (stored_in t w v) v.misses (pair_of w x) (rest_of t w v) misses-fewer g)

  passed-more :
      lookup (part x.to w) (stored_in t w v) ≡ none
      → Without (pairs_of v.fresh destinations_at t w) (map (pair_of w) (pair_rows v.passed aliases_at t ++ x ∷ []))
  passed-more g =
      subst⁻¹ (Without (pairs_of v.fresh destinations_at t w)) (map_push (pair_of w) (pair_rows v.passed aliases_at t) x)
      (without-snoc (pairs_of v.fresh destinations_at t w) (pairs_of v.passed aliases_at t w) (pair_of w x) p.walking.passed-without
      (none-fewer t w (part x.to w) v.fresh (v.destinations - v.fresh) v.destinations (omega (arith, p.walking.fresh-few)) g))

  passed-walking :
      lookup (part x.to w) (stored_in t w v) ≡ none → Walking (put_pair t (aliases_at + 4 * v.passed) x) w (passed_one v)
  passed-walking g =
      record {
        roomy = put-roomy (aliases_at + 4 * v.passed) x;
        passed-before = omega arith;
        next-before = omega arith;
        few = omega arith;
        end-few = p.walking.end-few;
        misses-few = omega arith;
        destinations-within = subst⁻¹ (PairsWithin room) passed-all p.walking.destinations-within;
        ahead_within = subst⁻¹ (PairsWithin room) passed-behind within-next.1;
        passed-within =
            subst⁻¹ (PairsWithin room) passed-rows
            (pairs-within-snoc room (pair_rows v.passed aliases_at t) x p.walking.passed-within within-next.0);
        known-few = p.walking.known-few;
        fresh-few = p.walking.fresh-few;
        ahead-without = without-rows w _ _ _ _ (passed-destinations v.known p.walking.known-few) passed-behind without-next.1;
        passed-without = without-rows w _ _ _ _ (passed-destinations v.fresh p.walking.fresh-few) passed-rows (passed-more g);
      }

  pub passed :
      (name : List ℕ) → name ≡ part x.to w → none ≡ lookup name (stored_in t w v)
      → (t' : List ℕ) → t' ≡ put_pair t (aliases_at + 4 * v.passed) x → Tried t t' w v (passed_one v)
  passed name f g t' h =
      let e : lookup (part x.to w) (stored_in t w v) ≡ none = sym (g ∙ ap (λ (n : List ℕ). lookup n (stored_in t w v)) f) in
      subst⁻¹ (λ (l : List ℕ). Tried t l w v (passed_one v)) h (record {
        walk = passed-walk e;
        walking = passed-walking e;
        fewer = omega arith;
        links = put-links (aliases_at + 4 * v.passed) x (omega arith);
      })

  -- Its target's destination is stored under its name, by a row y, and it is left out
  module _ (y : PairRow) where
    stored-behind : behind_rows (put_pair t (destinations_at + 4 * v.destinations) y) v ≡ behind_rows t v
    stored-behind = put-behind (destinations_at + 4 * v.destinations) y (omega arith)

    stored-passed : pair_rows v.passed aliases_at (put_pair t (destinations_at + 4 * v.destinations) y) ≡ pair_rows v.passed aliases_at t
    stored-passed = pairs-pair-before v.passed aliases_at (destinations_at + 4 * v.destinations) t y (omega arith)

    stored-rows :
        pair_rows (v.destinations + 1) destinations_at (put_pair t (destinations_at + 4 * v.destinations) y)
        ≡ pair_rows v.destinations destinations_at t ++ y ∷ []
    stored-rows = pairs-put v.destinations destinations_at t y (omega arith)

    stored-destinations :
        (n : ℕ) → n ≤ v.destinations
        → pair_rows n destinations_at (put_pair t (destinations_at + 4 * v.destinations) y) ≡ pair_rows n destinations_at t
    stored-destinations n h = pairs-pair-after n destinations_at (destinations_at + 4 * v.destinations) t y (omega arith)

    stored-walking : PairWithin room y → Walking (put_pair t (destinations_at + 4 * v.destinations) y) w (stored_one v)
    stored-walking b =
        record {
          roomy = put-roomy (destinations_at + 4 * v.destinations) y;
          passed-before = omega arith;
          next-before = omega arith;
          few = omega arith;
          end-few = p.walking.end-few;
          misses-few = omega arith;
          destinations-within =
              subst⁻¹ (PairsWithin room) stored-rows
              (pairs-within-snoc room (pair_rows v.destinations destinations_at t) y p.walking.destinations-within b);
          ahead_within = subst⁻¹ (PairsWithin room) stored-behind within-next.1;
          passed-within = subst⁻¹ (PairsWithin room) stored-passed p.walking.passed-within;
          known-few = omega arith;
          fresh-few = omega arith;
          ahead-without = without-rows w _ _ _ _ (stored-destinations v.known p.walking.known-few) stored-behind without-next.1;
          passed-without =
              without-rows w _ _ _ _ (stored-destinations v.fresh p.walking.fresh-few) stored-passed p.walking.passed-without;
        }

  -- the row that is stored
  module _ (to : Span) (b : SpanWithin room to) where
    abbrev stored_row : PairRow
    stored_row = record { name = x.name; to = to }

    stored-walk :
        lookup (part x.to w) (stored_in t w v) ≡ has (part to w)
        → walk_of (put_pair t (destinations_at + 4 * v.destinations) stored_row) w (stored_one v) ≡ walk_of t w v
    stored-walk g =
        ap₂ (goes_on 0)
        (ap₂ (λ (a b : List PairRow). map (pair_of w) a ++ map (pair_of w) b) (stored-behind stored_row) (stored-passed stored_row))
        (ap (map (pair_of w)) (stored-rows stored_row) ∙ map_push (pair_of w) (pair_rows v.destinations destinations_at t) stored_row)
        ∙ sym (walk-next ∙ goes-hit (stored_in t w v) v.misses (pair_of w x) (rest_of t w v) misses-fewer (part to w) g)

    pub stored-small : PairSmall stored_row
    stored-small = pair_small room stored_row (within-next.0.0, b) (omega arith)

    pub stored :
        (name : List ℕ) → name ≡ part x.to w → has (part to w) ≡ lookup name (stored_in t w v)
        → (t' : List ℕ) → t' ≡ put_pair t (destinations_at + 4 * v.destinations) stored_row → Tried t t' w v (stored_one v)
    stored name f g t' h =
        subst⁻¹ (λ (l : List ℕ). Tried t l w v (stored_one v)) h (record {
          walk = stored-walk (sym (g ∙ ap (λ (n : List ℕ). lookup n (stored_in t w v)) f));
          walking = stored-walking stored_row (within-next.0.0, b);
          fewer = omega arith;
          links = put-links (destinations_at + 4 * v.destinations) stored_row (omega arith);
        })
