-- The walk through the aliases, over its steps: at the end of the rows it begins with the first again, which are those that were passed;
-- and where all that are left were missed one after the other, what is stored is what `resolve_aliases` gives.
-- Assumes nothing.
use Prim.Native.Nat.{ℕ, ◌-◌, ◌<◌, ◌≤◌}
use native.Mathlib.Omega.{arith}
use mathlib.Core.Path.{◌≡◌, refl, ap, sym, subst⁻¹, ◌∙◌}
use mathlib.Core.List.{List, [], ◌∷◌, ◌++◌, append-nil}
use lib.Dec.{eqb}
use borrow.Author.Tests.{eqb-true, eqb-false}
use Rattle.rst_bytes.proofs.TestLaws.{by-test}
use Rattle.iterator.specs.declared.resolve.Walk.{Walk}
use Rattle.iterator.specs.Collect.{Pair}
use Rattle.iterator.specs.Resolve.{lookup, resolve_aliases}
use Rattle.iterator.specs.Rows.{pair_rows, pairs_of, destinations_at, aliases_at, PairsWithin}
use Rattle.iterator.specs.Inner.{goes_on, left_of, queue_of, walk_of, wrap, Without, Walking, Tryable, LinksKept, AliasesHeld, AliasesResolved}
use Rattle.iterator.proofs.ResolveLaws.{goes-start, goes-stop}
use Rattle.iterator.proofs.TriedLaws.{Tried, length-queue}

-- At the end, the first again
abbrev wrapped_one : Walk → Walk
wrapped_one v =
    record v { passed = 0; next = 0; end = v.passed; known = v.fresh; fresh = v.destinations }

-- what wrapping keeps, where not all that are left were missed
record Wrapped (t w : List ℕ) (v u : Walk) : Type 0 where
  pub tryable : Tryable t w u
  pub walk : walk_of t w u ≡ walk_of t w v

module _ (t w : List ℕ) (v : Walk) (ok : Walking t w v) (k : v.misses < left_of v) where
  queue-wrap : v.next ≡ v.end → queue_of t w (wrapped_one v) ≡ queue_of t w v
  unfolding pair_rows
  queue-wrap e =
      let f : v.passed - 0 ≡ v.passed = omega arith in
      let g : v.end - v.next ≡ 0 = omega arith in
      rw (f, g, append-nil)

  wrapped-end : v.next ≡ v.end → Wrapped t w v (wrapped_one v)
  unfolding PairsWithin Without pair_rows
  wrapped-end e =
      let f : v.passed - 0 ≡ v.passed = omega arith in
      record {
        tryable = record {
          walking = record {
            roomy = ok.roomy;
            passed-before = omega arith;
            next-before = omega arith;
            few = omega arith;
            end-few = omega arith;
            misses-few = omega arith;
            destinations-within = ok.destinations-within;
            ahead_within = rw f ok.passed-within;
            passed-within = tt;
            known-few = ok.fresh-few;
            fresh-few = omega arith;
            ahead-without = rw f ok.passed-without;
            passed-without = tt;
          };
          more = omega arith;
          unmissed = omega arith;
        };
        walk = ap (λ (q : List Pair). goes_on v.misses q (pairs_of v.destinations destinations_at t w)) (queue-wrap e);
      }

  wrapped-on : (v.next ≡ v.end → ⊥) → Wrapped t w v v
  wrapped-on e = record { tryable = record { walking = ok; more = omega arith; unmissed = k }; walk = refl }

  wrapped-by : (u : Walk) → u ≡ wrap v → Wrapped t w v u
  wrapped-by u e =
      subst⁻¹ (Wrapped t w v) e
      (by-test (Wrapped t w v) (eqb v.next v.end) _ _ (λ f. wrapped-end (eqb-true _ _ f)) (λ f. wrapped-on (eqb-false _ _ f)))

-- where nothing is stored, no alias has a target with a destination
without-stored : (aliases : List Pair) → Without [] aliases
unfolding Without lookup
without-stored [] = tt
without-stored (x ∷ aliases) = (refl, without-stored aliases)

-- The whole walk: the work numbers were t and are t'
pub record Walked (aliases destinations : ℕ) (t t' w : List ℕ) (v : Walk) : Type 0 where
  pub walking : Walking t' w v
  pub walk : walk_of t' w v ≡ resolve_aliases (pairs_of aliases aliases_at t w) (pairs_of destinations destinations_at t w)
  pub links : LinksKept t t'

module _ (aliases destinations : ℕ) (t w : List ℕ) where
  begun-queue : pairs_of (aliases - 0) aliases_at t w ++ pairs_of 0 aliases_at t w ≡ pairs_of aliases aliases_at t w
  unfolding pair_rows
  begun-queue = let f : aliases - 0 ≡ aliases = omega arith in rw (f, append-nil)

  pub begun :
      AliasesHeld aliases destinations t w
      → Walked
      aliases
      destinations
      t
      t
      w
      (record {
        passed = 0;
        next = 0;
        end = aliases;
        misses = 0;
        destinations = destinations;
        known = 0;
        fresh = destinations;
      })
  unfolding PairsWithin Without pair_rows
  begun h =
      let f : aliases - 0 ≡ aliases = omega arith in
      record {
        walking =
            record {
              roomy = h.roomy;
              passed-before = omega arith;
              next-before = omega arith;
              few = omega arith;
              end-few = omega arith;
              misses-few = omega arith;
              destinations-within = h.destinations-within;
              ahead_within = rw f h.aliases-within;
              passed-within = tt;
              known-few = omega arith;
              fresh-few = omega arith;
              ahead-without = without-stored (pairs_of (aliases - 0) aliases_at t w);
              passed-without = tt;
            };
        walk =
            ap (λ (q : List Pair). goes_on 0 q (pairs_of destinations destinations_at t w)) begun-queue
            ∙ sym (goes-start (pairs_of destinations destinations_at t w) (pairs_of aliases aliases_at t w));
        links = λ n b. refl;
      }

  module _ (t' : List ℕ) (v : Walk) (ok : Walked aliases destinations t t' w v) where
    -- wrapped at the end, an alias can be tried
    pub can-try : v.misses < left_of v → (u : Walk) → u ≡ wrap v → Tryable t' w u
    can-try k u e = (wrapped-by t' w v ok.walking k u e).tryable

    -- and once it is tried
    pub walked_on :
        v.misses < left_of v → (u : Walk) → u ≡ wrap v → (t'' : List ℕ) (r : Walk) → Tried t' t'' w u r
        → Walked aliases destinations t t'' w r
    walked_on k u e t'' r b =
        record {
          walking = b.walking;
          walk = b.walk ∙ (wrapped-by t' w v ok.walking k u e).walk ∙ ok.walk;
          links = λ n h. b.links n h ∙ ok.links n h;
        }

    pub ended :
        left_of v ≤ v.misses
        → record {
          resolved :
              pairs_of v.destinations destinations_at t' w
              ≡ resolve_aliases (pairs_of aliases aliases_at t w) (pairs_of destinations destinations_at t w);
          held : AliasesResolved v.destinations t t';
        }
    ended h =
        let stop = goes-stop (pairs_of v.destinations destinations_at t' w) v.misses (queue_of t' w v) (omega (arith, length-queue t' w v)) in
        record {
          resolved = sym stop ∙ ok.walk;
          held = record { few = omega (arith, ok.walking.few); within = ok.walking.destinations-within; links = ok.links };
        }
