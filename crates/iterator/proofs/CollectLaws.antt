-- Collecting in the work areas is collecting: a row more in a table is a link, a name or an alias more; a numbered label or name stands
-- behind what is taken, so the strings of the rows are as they were.
-- Assumes nothing.
use Rattle.std.proofs.lemmas.List.{map_push}
use Prim.Native.Nat.{ℕ, zero, suc, ◌+◌, ◌*◌, ◌<◌, ◌≤◌}
use native.Mathlib.Nat.{zero-add}
use native.Mathlib.Omega.{arith}
use mathlib.Core.Path.{◌≡◌, refl, sym, ap, subst, ◌∙◌}
use mathlib.Core.Logic.{⊎_elim}
use mathlib.Core.List.{List, [], ◌∷◌, ◌++◌, map}
use lib.ListN.{length, length-map}
use Rattle.std.specs.Prelude.{Ok, Err}
use Rattle.parse.specs.declared.refusal.Refusal.{Refusal}
use Rattle.parse.specs.declared.refusal.Refusal.TheVariants as refusals
use Rattle.parse.specs.Refusal.{number_of, bytes_of}
use borrow.Author.Tests.{lt-ltb, le-ltb}
use Rattle.rst_bytes.proofs.TestLaws.{lt-or-le}
use Rattle.iterator.specs.declared.rows.PairRow.{PairRow}
use Rattle.iterator.specs.declared.rows.LinkRow.{LinkRow}
use Rattle.iterator.specs.declared.collect.MarkupLinkCollection.{MarkupLinkCollection}
use Rattle.iterator.specs.declared.rows.Table.TheVariants.{Destinations, Aliases}
use Rattle.iterator.specs.Collect.{Pair, Item, Collection, Collected, collected, refused, and_then, add_link, add_destination, add_alias, with_link, with_destination, with_alias, definitions}
use Rattle.iterator.specs.Rows.{pair_rows, link_rows, pairs_of, items_of, pair_of, item_of, put_pair, put_link, destinations_at, aliases_at, PairWithin, LinkWithin, PairsWithin, LinksWithin}
use Rattle.iterator.specs.Inner.{Held, Step, StepHeld, collection_of, step_of, one_link, one_name, names, if_room, link_added, with_link_row, name_added, with_name_row, both_added, with_both_rows}
use Rattle.iterator.proofs.RowsLaws.{length-put-link, length_pairs, pairs-put, links-put, pairs-pair-after, pairs-pair-before, links-pair-after, pairs-link-before, pairs-within-snoc, links-within-snoc}

abbrev collection : List Item → List Pair → List Pair → ℕ → ℕ → Collection
collection x y z m n = record { links = x; label2dest = y; label2label = z; references = m; targets = n }

-- a table's list is as long as the table
pub items-length : (n a : ℕ) (s t w : List ℕ) → length (items_of n a s t w) ≡ n
unfolding link_rows
items-length zero a s t w = refl
items-length (suc n) a s t w = ap suc (items-length n (a + 7) s t w)

pairs-length : (n a : ℕ) (t w : List ℕ) → length (pairs_of n a t w) ≡ n
pairs-length n a t w = length-map (pair_rows n a t) (pair_of w) ∙ length_pairs n a t

-- one more has room, or not
module _ {A : Type 0} (n : ℕ) (x y : A) where
  pub room-some : n < 256 → if_room n x y ≡ x
  room-some h = rw (lt-ltb n 256 h, if_room)

  pub room-none : 256 ≤ n → if_room n x y ≡ y
  room-none h = rw (le-ltb n 256 h, if_room)

-- fewer of those that were numbered are missing from the tables than may be
pub held-wider : (i i' j j' : ℕ) (t : List ℕ) (c : MarkupLinkCollection) → i ≤ i' → j ≤ j' → Held i j t c → Held i' j' t c
held-wider i i' j j' t c h g k =
    record {
      tables = k.tables;
      inside = k.inside;
      references-few = omega (arith, k.references-few);
      targets-few = omega (arith, k.targets-few);
      filled = k.filled;
    }

-- two collections alike in each part
pub alike :
    {x x' : List Item} {y y' z z' : List Pair} {m m' n n' : ℕ} → x ≡ x' → y ≡ y' → z ≡ z' → m ≡ m' → n ≡ n'
    → collection x y z m n ≡ collection x' y' z' m' n'
alike {x} {x'} {y} {y'} {z} {z'} {m} {m'} {n} {n'} e f g h k =
    ap (λ (u : List Item). collection u y z m n) e
    ∙ ap (λ (u : List Pair). collection x' u z m n) f
    ∙ ap (λ (u : List Pair). collection x' y' u m n) g
    ∙ ap (λ (u : ℕ). collection x' y' z' u n) h
    ∙ ap (λ (u : ℕ). collection x' y' z' m' u) k

-- A link more.
module _ (i j : ℕ) (t : List ℕ) (c : MarkupLinkCollection) (x : LinkRow) (k : Held (suc i) j t c) (g : c.links < 256) (l : 4096 ≤ length t) where
  links-rows : link_rows (c.links + 1) 0 (put_link t (7 * c.links) x) ≡ link_rows c.links 0 t ++ x ∷ []
  links-rows =
      subst
      (λ (z : ℕ). link_rows (c.links + 1) 0 (put_link t z x) ≡ link_rows c.links 0 t ++ x ∷ [])
      (zero-add (7 * c.links))
      (links-put c.links 0 t x (omega arith))

  destinations-rows : pair_rows c.label2dest destinations_at (put_link t (7 * c.links) x) ≡ pair_rows c.label2dest destinations_at t
  destinations-rows = pairs-link-before c.label2dest destinations_at (7 * c.links) t x (omega arith)

  aliases-rows : pair_rows c.label2label aliases_at (put_link t (7 * c.links) x) ≡ pair_rows c.label2label aliases_at t
  aliases-rows = pairs-link-before c.label2label aliases_at (7 * c.links) t x (omega arith)

  link-collection : (s w : List ℕ) → collection_of s (put_link t (7 * c.links) x) w (one_link c) ≡ with_link (item_of s w x) (collection_of s t w c)
  link-collection s w =
      alike (ap (map (item_of s w)) links-rows ∙ map_push (item_of s w) (link_rows c.links 0 t) x) (ap (map (pair_of w)) destinations-rows) (ap (map (pair_of w)) aliases-rows) refl refl

  link-held : LinkWithin c.at c.taken x → Held i j (put_link t (7 * c.links) x) (one_link c)
  link-held h =
      record {
        tables =
            record {
              links-few = omega arith;
              names-few = k.tables.names-few;
              links-within = subst (LinksWithin c.at c.taken) (sym links-rows) (links-within-snoc c.at c.taken (link_rows c.links 0 t) x k.tables.links-within h);
              destinations-within = subst (PairsWithin c.taken) (sym destinations-rows) k.tables.destinations-within;
              aliases-within = subst (PairsWithin c.taken) (sym aliases-rows) k.tables.aliases-within;
            };
        inside = k.inside;
        references-few = omega (arith, k.references-few);
        targets-few = k.targets-few;
        filled = k.filled;
      }

-- A name with a destination more.
module _ (i j : ℕ) (t : List ℕ) (c : MarkupLinkCollection) (x : PairRow) (k : Held i (suc j) t c) (g : names c < 256) (l : 4096 ≤ length t) where
  links-rows₂ : link_rows c.links 0 (put_pair t (destinations_at + 4 * c.label2dest) x) ≡ link_rows c.links 0 t
  links-rows₂ = links-pair-after c.links 0 (destinations_at + 4 * c.label2dest) t x (omega (arith, k.tables.links-few))

  destinations-rows₂ : pair_rows (c.label2dest + 1) destinations_at (put_pair t (destinations_at + 4 * c.label2dest) x) ≡ pair_rows c.label2dest destinations_at t ++ x ∷ []
  destinations-rows₂ = pairs-put c.label2dest destinations_at t x (omega arith)

  aliases-rows₂ : pair_rows c.label2label aliases_at (put_pair t (destinations_at + 4 * c.label2dest) x) ≡ pair_rows c.label2label aliases_at t
  aliases-rows₂ = pairs-pair-before c.label2label aliases_at (destinations_at + 4 * c.label2dest) t x (omega arith)

  destination-collection : (s w : List ℕ) → collection_of s (put_pair t (destinations_at + 4 * c.label2dest) x) w (one_name Destinations c) ≡ with_destination (pair_of w x) (collection_of s t w c)
  destination-collection s w =
      alike (ap (map (item_of s w)) links-rows₂) (ap (map (pair_of w)) destinations-rows₂ ∙ map_push (pair_of w) (pair_rows c.label2dest destinations_at t) x) (ap (map (pair_of w)) aliases-rows₂) refl refl

  destination-held : PairWithin c.taken x → Held i j (put_pair t (destinations_at + 4 * c.label2dest) x) (one_name Destinations c)
  destination-held h =
      record {
        tables =
            record {
              links-few = k.tables.links-few;
              names-few = omega arith;
              links-within = subst (LinksWithin c.at c.taken) (sym links-rows₂) k.tables.links-within;
              destinations-within = subst (PairsWithin c.taken) (sym destinations-rows₂) (pairs-within-snoc c.taken (pair_rows c.label2dest destinations_at t) x k.tables.destinations-within h);
              aliases-within = subst (PairsWithin c.taken) (sym aliases-rows₂) k.tables.aliases-within;
            };
        inside = k.inside;
        references-few = k.references-few;
        targets-few = omega (arith, k.targets-few);
        filled = k.filled;
      }

-- An alias more.
module _ (i j : ℕ) (t : List ℕ) (c : MarkupLinkCollection) (x : PairRow) (k : Held i (suc j) t c) (g : names c < 256) (l : 4096 ≤ length t) where
  links-rows₃ : link_rows c.links 0 (put_pair t (aliases_at + 4 * c.label2label) x) ≡ link_rows c.links 0 t
  links-rows₃ = links-pair-after c.links 0 (aliases_at + 4 * c.label2label) t x (omega (arith, k.tables.links-few))

  destinations-rows₃ : pair_rows c.label2dest destinations_at (put_pair t (aliases_at + 4 * c.label2label) x) ≡ pair_rows c.label2dest destinations_at t
  destinations-rows₃ = pairs-pair-after c.label2dest destinations_at (aliases_at + 4 * c.label2label) t x (omega arith)

  aliases-rows₃ : pair_rows (c.label2label + 1) aliases_at (put_pair t (aliases_at + 4 * c.label2label) x) ≡ pair_rows c.label2label aliases_at t ++ x ∷ []
  aliases-rows₃ = pairs-put c.label2label aliases_at t x (omega arith)

  alias-collection : (s w : List ℕ) → collection_of s (put_pair t (aliases_at + 4 * c.label2label) x) w (one_name Aliases c) ≡ with_alias (pair_of w x) (collection_of s t w c)
  alias-collection s w =
      alike (ap (map (item_of s w)) links-rows₃) (ap (map (pair_of w)) destinations-rows₃) (ap (map (pair_of w)) aliases-rows₃ ∙ map_push (pair_of w) (pair_rows c.label2label aliases_at t) x) refl refl

  alias-held : PairWithin c.taken x → Held i j (put_pair t (aliases_at + 4 * c.label2label) x) (one_name Aliases c)
  alias-held h =
      record {
        tables =
            record {
              links-few = k.tables.links-few;
              names-few = omega arith;
              links-within = subst (LinksWithin c.at c.taken) (sym links-rows₃) k.tables.links-within;
              destinations-within = subst (PairsWithin c.taken) (sym destinations-rows₃) k.tables.destinations-within;
              aliases-within = subst (PairsWithin c.taken) (sym aliases-rows₃) (pairs-within-snoc c.taken (pair_rows c.label2label aliases_at t) x k.tables.aliases-within h);
            };
        inside = k.inside;
        references-few = k.references-few;
        targets-few = omega (arith, k.targets-few);
        filled = k.filled;
      }

-- What is added to a collection, by its test.
module _ (c : Collection) where
  add-link-some : (x : Item) → length c.links < 256 → add_link x c ≡ collected (with_link x c)
  add-link-some x h = room-some (length c.links) (collected (with_link x c)) (refused 5) h

  add-link-none : (x : Item) → 256 ≤ length c.links → add_link x c ≡ refused 5
  add-link-none x h = room-none (length c.links) (collected (with_link x c)) (refused 5) h

  add-destination-some : (x : Pair) → definitions c < 256 → add_destination x c ≡ collected (with_destination x c)
  add-destination-some x h = room-some (definitions c) (collected (with_destination x c)) (refused 6) h

  add-destination-none : (x : Pair) → 256 ≤ definitions c → add_destination x c ≡ refused 6
  add-destination-none x h = room-none (definitions c) (collected (with_destination x c)) (refused 6) h

  add-alias-some : (x : Pair) → definitions c < 256 → add_alias x c ≡ collected (with_alias x c)
  add-alias-some x h = room-some (definitions c) (collected (with_alias x c)) (refused 6) h

  add-alias-none : (x : Pair) → 256 ≤ definitions c → add_alias x c ≡ refused 6
  add-alias-none x h = room-none (definitions c) (collected (with_alias x c)) (refused 6) h

-- a step by what it is
pub step_by : (s w t t' : List ℕ) (r r' : Step) → t ≡ t' → r ≡ r' → step_of s t w r ≡ step_of s t' w r'
step_by s w t t' r r' e f = ap (λ (z : List ℕ). step_of s z w r) e ∙ ap (step_of s t' w) f

pub step-held-by : (n : ℕ) (t t' : List ℕ) (r r' : Step) → t ≡ t' → r ≡ r' → StepHeld n t' r' → StepHeld n t r
step-held-by n t t' r r' e f h = subst (λ (z : List ℕ). StepHeld n z r) (sym e) (subst (StepHeld n t') (sym f) h)

-- A step that has room for one more of n, and is then r with the work numbers t', or is refused: what it says, and what it keeps, go by
-- the two cases.
module _ (n : ℕ) (t t' : List ℕ) (r : Step) (e : Refusal) where
  room-step :
      (s w : List ℕ) (z : Collected) → (n < 256 → step_of s t' w r ≡ z) → (256 ≤ n → refused (number_of e) ≡ z)
      → step_of s (if_room n t' t) w (if_room n r (Err e)) ≡ z
  room-step s w z f g =
      ⊎_elim
      (λ h. step_by s w _ _ _ _ (room-some n t' t h) (room-some n r (Err e) h) ∙ f h)
      (λ h. step_by s w _ _ _ _ (room-none n t' t h) (room-none n r (Err e) h) ∙ g h)
      (lt-or-le n 256)

  room-held : (m : ℕ) → bytes_of e ≡ 0 → (n < 256 → StepHeld m t' r) → StepHeld m (if_room n t' t) (if_room n r (Err e))
  room-held m z f =
      ⊎_elim
      (λ h. step-held-by m _ _ _ _ (room-some n t' t h) (room-some n r (Err e) h) (f h))
      (λ h. step-held-by m _ _ _ _ (room-none n t' t h) (room-none n r (Err e) h) z)
      (lt-or-le n 256)

-- A link more, or 5.
module _ (t : List ℕ) (c : MarkupLinkCollection) (x : LinkRow) (l : 4096 ≤ length t) where
  pub link-step :
      (j : ℕ) → Held 1 j t c → (s w : List ℕ)
      → step_of s (with_link_row t c x) w (link_added c) ≡ add_link (item_of s w x) (collection_of s t w c)
  link-step j k s w =
      let n = items-length c.links 0 s t w in
      room-step c.links t (put_link t (7 * c.links) x) (Ok (one_link c)) refusals.Links s w _
      (λ h. ap collected (link-collection 0 j t c x k h l s w) ∙ sym (add-link-some (collection_of s t w c) (item_of s w x) (omega (arith, n))))
      (λ h. sym (add-link-none (collection_of s t w c) (item_of s w x) (omega (arith, n))))

  pub link-step-held : Held 1 0 t c → LinkWithin c.at c.taken x → StepHeld c.at (with_link_row t c x) (link_added c)
  link-step-held k v =
      room-held c.links t (put_link t (7 * c.links) x) (Ok (one_link c)) refusals.Links c.at refl (λ h. (link-held 0 0 t c x k h l v, refl))

-- A name with a destination, or an alias, more, or 6.
module _ (t : List ℕ) (c : MarkupLinkCollection) (x : PairRow) (l : 4096 ≤ length t) where
  defined : (s w : List ℕ) → definitions (collection_of s t w c) ≡ names c
  defined s w = ap (λ (z : ℕ). z + length (pairs_of c.label2label aliases_at t w)) (pairs-length c.label2dest destinations_at t w) ∙ ap (λ (z : ℕ). c.label2dest + z) (pairs-length c.label2label aliases_at t w)

  pub destination-step :
      (i : ℕ) → Held i 1 t c → (s w : List ℕ)
      → step_of s (with_name_row Destinations t c x) w (name_added Destinations c) ≡ add_destination (pair_of w x) (collection_of s t w c)
  destination-step i k s w =
      room-step (names c) t (put_pair t (destinations_at + 4 * c.label2dest) x) (Ok (one_name Destinations c)) refusals.Names s w _
      (λ h. ap collected (destination-collection i 0 t c x k h l s w) ∙ sym (add-destination-some (collection_of s t w c) (pair_of w x) (omega (arith, defined s w))))
      (λ h. sym (add-destination-none (collection_of s t w c) (pair_of w x) (omega (arith, defined s w))))

  pub destination-step-held : Held 0 1 t c → PairWithin c.taken x → StepHeld c.at (with_name_row Destinations t c x) (name_added Destinations c)
  destination-step-held k v =
      room-held (names c) t (put_pair t (destinations_at + 4 * c.label2dest) x) (Ok (one_name Destinations c)) refusals.Names c.at refl
      (λ h. (destination-held 0 0 t c x k h l v, refl))

  pub alias-step :
      Held 0 1 t c → (s w : List ℕ)
      → step_of s (with_name_row Aliases t c x) w (name_added Aliases c) ≡ add_alias (pair_of w x) (collection_of s t w c)
  alias-step k s w =
      room-step (names c) t (put_pair t (aliases_at + 4 * c.label2label) x) (Ok (one_name Aliases c)) refusals.Names s w _
      (λ h. ap collected (alias-collection 0 0 t c x k h l s w) ∙ sym (add-alias-some (collection_of s t w c) (pair_of w x) (omega (arith, defined s w))))
      (λ h. sym (add-alias-none (collection_of s t w c) (pair_of w x) (omega (arith, defined s w))))

  pub alias-step-held : Held 0 1 t c → PairWithin c.taken x → StepHeld c.at (with_name_row Aliases t c x) (name_added Aliases c)
  alias-step-held k v =
      room-held (names c) t (put_pair t (aliases_at + 4 * c.label2label) x) (Ok (one_name Aliases c)) refusals.Names c.at refl
      (λ h. (alias-held 0 0 t c x k h l v, refl))

-- A link and then a name with a destination, or 5, or 6.
module _ (t : List ℕ) (c : MarkupLinkCollection) (x : LinkRow) (y : PairRow) (l : 4096 ≤ length t) where
  longer : 4096 ≤ length (put_link t (7 * c.links) x)
  longer = subst (λ (n : ℕ). 4096 ≤ n) (sym (length-put-link t (7 * c.links) x)) l

  pub both-step :
      Held 1 1 t c → LinkWithin c.at c.taken x → (s w : List ℕ)
      → step_of s (with_both_rows t c x y) w (both_added c)
      ≡ and_then (add_link (item_of s w x) (collection_of s t w c)) (add_destination (pair_of w y))
  both-step k v s w =
      let n = items-length c.links 0 s t w in
      room-step c.links t (with_name_row Destinations (put_link t (7 * c.links) x) c y) (name_added Destinations (one_link c)) refusals.Links s w _
      (λ h. destination-step (put_link t (7 * c.links) x) (one_link c) y longer 0 (link-held 0 1 t c x k h l v) s w
      ∙ ap (add_destination (pair_of w y)) (link-collection 0 1 t c x k h l s w)
      ∙ sym (ap (λ (z : Collected). and_then z (add_destination (pair_of w y))) (add-link-some (collection_of s t w c) (item_of s w x) (omega (arith, n)))))
      (λ h. sym (ap (λ (z : Collected). and_then z (add_destination (pair_of w y))) (add-link-none (collection_of s t w c) (item_of s w x) (omega (arith, n)))))

  pub both-step-held : Held 1 1 t c → LinkWithin c.at c.taken x → PairWithin c.taken y → StepHeld c.at (with_both_rows t c x y) (both_added c)
  both-step-held k v u =
      room-held c.links t (with_name_row Destinations (put_link t (7 * c.links) x) c y) (name_added Destinations (one_link c)) refusals.Links c.at refl
      (λ h. destination-step-held (put_link t (7 * c.links) x) (one_link c) y longer (link-held 0 1 t c x k h l v) u)
