-- Reading goes on behind each link: the scanner is lent the bytes that are not taken, which are enough, so it finds what it finds in the
-- rest of the document; what is added then is what collecting adds, and what it knows of backticks is true of what is read next; and where
-- nothing is found, all is collected.
-- Assumes nothing.
use Rattle.std.proofs.Common.{Result}
use Rattle.restructured_text.specs.declared.ParseError.{ParseError}
use Rattle.restructured_text.specs.declared.ParseError.TheVariants.{NotFound, NoRoom}
use Prim.Native.Nat.{ℕ, ◌+◌, ◌-◌, ◌<◌, ◌≤◌}
use native.Mathlib.Omega.{arith}
use mathlib.Core.Path.{◌≡◌, refl, sym, ap, subst, subst⁻¹, ◌∙◌}
use mathlib.Core.List.{List, ◌++◌, append-nil}
use lib.ListN.{length, take, drop, length-drop, drop_of_length-le}
use lib.Seq.{drop_at, drop-drop, length-take-le}
use borrow.Rule.Slice.PartMut.{put_mid, post_of}
use Rattle.std.specs.Prelude.{Ok, Err}
use Rattle.rst_bytes.proofs.Lists.{part-from}
use Rattle.restructured_text.specs.Strings.{part}
use Rattle.restructured_text.proofs.PartLaws.{put-before}
use Rattle.parse.specs.declared.Link.{Link}
use Rattle.parse.specs.declared.Known.{Known}
use Rattle.parse.specs.declared.refusal.Refusal.{Refusal}
use Rattle.parse.specs.Link.{Kind, Scanned, found, link_of, scanned_of, Ends, lent}
use Rattle.parse.specs.Forms.{rst}
use Rattle.parse.specs.Scan.{scan_of}
use Rattle.parse.specs.Inner.{first_of, second_of, link_end, Holds, TrueBehind, nothing_known}
use Rattle.parse.specs.Links.{Placed, placed, links_from, links_by, links_of}
use Rattle.parse.proofs.ScanLaws.{rst-consuming, scan-of-within, scan-of-room}
use Rattle.parse.proofs.LinksLaws.{links-equation}
use Rattle.parse.proofs.RoundLaws.{lent-enough}
use Rattle.parse.proofs.OnwardLaws.{holds-nothing}
use Rattle.iterator.specs.declared.collect.MarkupLinkCollection.{MarkupLinkCollection}
use Rattle.iterator.specs.Collect.{Collection, Collected, collected, refused, collect_from, collect_all, add}
use Rattle.iterator.specs.Rows.{link_rows, pair_rows, destinations_at, aliases_at, room, LinksWithin, PairsWithin}
use Rattle.iterator.specs.Inner.{Held, collection_of, Roomy, Unmarked, kind_of, skipped_by, consumed_by, Scannable, placed_behind, AddsScanned, Collects}
use Rattle.iterator.proofs.RowsLaws.{pairs-kept, items_kept}
use Rattle.iterator.proofs.CollectLaws.{alike}
use Rattle.iterator.proofs.ScannedLaws.{link-is, end_is}

-- what is collected goes on behind a link, or is refused
abbrev goes_on : ℕ → List ℕ → List Placed → Collected → Collected
goes_on render s rest (collected d) = collect_from render s d rest
goes_on render s rest (refused number) = refused number

goes_by :
    (render : ℕ) (s : List ℕ) (rest : List Placed) (z : Collected)
    → elim z [ collected d ↦ collect_from render s d rest | refused number ↦ refused number ] ≡ goes_on render s rest z
goes_by render s rest (collected d) = refl
goes_by render s rest (refused number) = refl

-- the first link is added, and then the others
adds-first :
    (render n : ℕ) (s p : List ℕ) (c : Collection) (kind : Kind) (x y : List ℕ) (m k : ℕ)
    → collect_from render s c (links_by rst n p (found kind x y m k))
    ≡ goes_on render s (links_from rst 0 (n + (m + k)) (drop (m + k) p)) (add render s (placed n kind x y m k) c)
unfolding collect_from
adds-first render n s p c kind x y m k =
    goes_by render s (links_from rst 0 (n + (m + k)) (drop (m + k) p)) (add render s (placed n kind x y m k) c)

-- all that is behind place a is replaced by y
put_rest : (a : ℕ) (d y : List ℕ) → a ≤ length d → drop a (put_mid a (length d - a) d y) ≡ y
put_rest a d y h =
    drop_at (take a d) (y ++ post_of a (length d - a) d) a (length-take-le a d h)
    ∙ ap (λ (z : List ℕ). y ++ z) (drop_of_length-le (drop a d) {i = length d - a} (omega (arith, length-drop a d)))
    ∙ append-nil y

-- Document s, work numbers t and work bytes w before a scan; its answer r, and y, what it left in the bytes that it was lent.
module _ (s t w : List ℕ) (c : MarkupLinkCollection) (k : Held 0 0 t c) (h : c.at ≤ length s) (l : length s ≤ 16384) (q : Roomy t w) where
  filled : c.taken + 16384 ≤ room
  filled = omega (arith, k.filled, k.inside, k.references-few, k.targets-few, k.tables.links-few, k.tables.names-few)

  -- what is collected, with what the scanner left behind it
  scanned-kept : (y : List ℕ) → collection_of s t (put_mid c.taken (length w - c.taken) w y) c ≡ collection_of s t w c
  scanned-kept y =
      let e = put-before c.taken (length w - c.taken) w y 0 c.taken (omega arith) (omega (arith, filled, q.1)) in
      alike
      (items_kept c.at c.taken (link_rows c.links 0 t) s w (put_mid c.taken (length w - c.taken) w y) k.tables.links-within e)
      (pairs-kept c.taken (pair_rows c.label2dest destinations_at t) w (put_mid c.taken (length w - c.taken) w y) k.tables.destinations-within e)
      (pairs-kept c.taken (pair_rows c.label2label aliases_at t) w (put_mid c.taken (length w - c.taken) w y) k.tables.aliases-within e)
      refl
      refl

  -- what it left stands behind the bytes that are taken
  scanned-rest : (y : List ℕ) → drop c.taken (put_mid c.taken (length w - c.taken) w y) ≡ y
  scanned-rest y = put_rest c.taken w y (omega (arith, filled, q.1))

  module _ (r : Result Link ParseError) (y : List ℕ) (e : scanned_of r y ≡ lent (take (length s - c.at) (drop c.at s)) (take (length w - c.taken) (drop c.taken w)) (scan_of (take (length s - c.at) (drop c.at s)))) where
    scans : scanned_of r y ≡ scan_of (drop c.at s)
    scans =
        e
        ∙ sym (lent-enough (take (length s - c.at) (drop c.at s)) (take (length w - c.taken) (drop c.taken w)) (scan_of (take (length s - c.at) (drop c.at s))) long)
        ∙ ap scan_of (part-from s c.at)
      where
        long : length (take (length s - c.at) (drop c.at s)) ≤ length (take (length w - c.taken) (drop c.taken w))
        long =
            omega (arith, ap length (part-from s c.at), ap length (part-from w c.taken), length-drop c.at s, length-drop c.taken w, filled, q.1)

    -- the room is never too short
    pub room-always : r ≡ Err NoRoom → ⊥
    room-always f = scan-of-room (drop c.at s) (sym scans ∙ ap (λ (z : Result Link ParseError). scanned_of z y) f)

-- nothing is collected
abbrev pub nothing_yet : MarkupLinkCollection
nothing_yet =
    record { at = 0; taken = 0; links = 0; label2dest = 0; label2label = 0; counters = record { references = 0; targets = 0 } }

-- The document s is read up to place c.at, with work numbers t and work bytes w: what all links give is what those behind it add to c.
pub record Reading (render : ℕ) (s t w : List ℕ) (c : MarkupLinkCollection) : Type 0 where
  pub short : length s ≤ 16384
  pub roomy : Roomy t w
  pub held : Held 0 0 t c
  pub inside : c.at ≤ length s
  pub goes :
      collect_all render s (links_of s) ≡ collect_from render s (collection_of s t w c) (links_from rst 0 c.at (drop c.at s))

-- at the front of the document, nothing is collected
pub reading-starts :
    (render : ℕ) (s t w : List ℕ) (c : MarkupLinkCollection) → length s ≤ 16384 → Roomy t w → c ≡ nothing_yet → Reading render s t w c
unfolding links_of link_rows pair_rows LinksWithin PairsWithin
reading-starts render s t w c l q e =
    subst⁻¹
    (Reading render s t w)
    e
    (record {
      short = l;
      roomy = q;
      held =
          record {
            tables =
                record { links-few = omega arith; names-few = omega arith; links-within = tt; destinations-within = tt; aliases-within = tt };
            inside = omega arith;
            references-few = omega arith;
            targets-few = omega arith;
            filled = omega arith;
          };
      inside = omega arith;
      goes = refl;
    })

pub starts : (c : MarkupLinkCollection) → (c.at ≡ 0) × ((c.taken ≡ 0) × ((c.links ≡ 0) × ((c.label2dest ≡ 0) × ((c.label2label ≡ 0) × ((c.counters.references ≡ 0) × (c.counters.targets ≡ 0)))))) → c ≡ nothing_yet
starts c e = λ i. record { at = e.0 i; taken = e.1.0 i; links = e.1.1.0 i; label2dest = e.1.1.1.0 i; label2label = e.1.1.1.1.0 i; counters = record { references = e.1.1.1.1.1.0 i; targets = e.1.1.1.1.1.1 i } }

-- there nothing is known, and no place is marked
pub known-starts :
    (s marks : List ℕ) (n : ℕ) (k : Known) → n ≡ 0 → k ≡ nothing_known → Unmarked s marks
    → Holds 0 k (drop n marks) (drop n s)
known-starts s marks n k e f u =
    subst⁻¹ (λ (z : Known). Holds 0 z (drop n marks) (drop n s)) f
    (subst⁻¹
    (λ (k : ℕ). Holds 0 nothing_known (drop k marks) (drop k s))
    e
    (subst⁻¹ (λ (z : List ℕ). Holds 0 nothing_known z s) u.1 (holds-nothing s 0 (length marks))))

-- Before a scan.
module _ (render : ℕ) (s t w : List ℕ) (c : MarkupLinkCollection) (v : Reading render s t w c) where
  -- at the end of the document, all is collected
  pub reading-ends : length s ≤ c.at → Collects render s t w (Ok c)
  unfolding collect_from links_from
  reading-ends h =
      record {
        step =
            sym (ap (λ (z : List ℕ). collect_from render s (collection_of s t w c) (links_from rst 0 c.at z)) (drop_of_length-le s {i = c.at} h))
            ∙ sym v.goes;
        held = (v.held, v.inside);
      }

  -- Its answer r, and y, what it left in the bytes that it was lent.
  module _ (r : Result Link ParseError) (y : List ℕ) (e : scanned_of r y ≡ lent (take (length s - c.at) (drop c.at s)) (take (length w - c.taken) (drop c.taken w)) (scan_of (take (length s - c.at) (drop c.at s)))) where
    abbrev w' : List ℕ
    w' = put_mid c.taken (length w - c.taken) w y

    found-by : scanned_of r y ≡ scan_of (drop c.at s)
    found-by = scans s t w c v.held v.inside v.short v.roomy r y e

    kept : collection_of s t w' c ≡ collection_of s t w c
    kept = scanned-kept s t w c v.held v.inside v.short v.roomy y

    -- where none was found, all is collected
    pub reading-none : r ≡ Err NotFound → Collects render s t w' (Ok c)
    unfolding scan_of collect_from
    reading-none f =
        record {
          step =
              ap collected kept
              ∙ sym (ap (collect_from render s (collection_of s t w c)) (links-equation rst rst-consuming c.at (drop c.at s) ∙ ap (links_by rst c.at (drop c.at s)) (sym found-by ∙ ap (λ (z : Result Link ParseError). scanned_of z y) f)))
              ∙ sym v.goes;
          held = (v.held, v.inside);
        }

    -- so where a scan fails, none was found
    pub reading-missed : (e : ParseError) → r ≡ Err e → Collects render s t w' (Ok c)
    reading-missed NotFound f = reading-none f
    reading-missed NoRoom f = absurd (room-always s t w c v.held v.inside v.short v.roomy r y e f)

    -- where a link was found
    module _ (x : Link) (f : r ≡ Ok x) where
      abbrev found_is : Scanned
      found_is = found (kind_of x) (part (first_of x) (drop c.taken w')) (part (second_of x) (drop c.taken w')) (skipped_by x) (consumed_by x)

      link : scan_of (drop c.at s) ≡ found_is
      link = sym (ap (λ (z : Result Link ParseError). scanned_of z y) (sym f) ∙ found-by) ∙ ap (link_of x) (sym (scanned-rest s t w c v.held v.inside v.short v.roomy y)) ∙ link-is x (drop c.taken w')

      -- it has at least one byte, and ends in the document
      pub inside : (0 < link_end x) × (c.at + link_end x ≤ length s)
      inside =
          let h = scan-of-within (drop c.at s) _ _ _ _ _ link in
          (omega (arith, end_is x, h.0), omega (arith, end_is x, h.1, length-drop c.at s, v.inside))

      pub scannable : length w' ≡ length w → Ends r → Scannable t w' x c
      scannable g u =
          record {
            roomy = (v.roomy.0, omega (arith, g, v.roomy.1));
            held = v.held;
            ends = subst Ends f u;
            inside = omega (arith, inside.1, v.short);
          }

      -- what is known behind it is true of what is read next, with the marks u that were lent from there on
      pub next_known :
          (known : Known) (m u : List ℕ) → length s ≤ length m → TrueBehind (take (length s - c.at) (drop c.at s)) u known r
          → (n : ℕ) → n ≡ c.at + link_end x → Holds 0 known (drop n (put_mid c.at (length m - c.at) m u)) (drop n s)
      next_known known m u l b n g =
          subst (λ (z : List ℕ). Holds 0 known z (drop n s))
          (ap (drop (link_end x)) (sym (put_rest c.at m u (omega (arith, v.inside, l)))) ∙ drop-drop (link_end x) c.at (put_mid c.at (length m - c.at) m u) ∙ ap (λ (z : ℕ). drop z (put_mid c.at (length m - c.at) m u)) (sym g))
          (subst (Holds 0 known (drop (link_end x) u))
          (ap (drop (link_end x)) (part-from s c.at) ∙ drop-drop (link_end x) c.at s ∙ ap (λ (z : ℕ). drop z s) (sym g))
          (subst (TrueBehind (take (length s - c.at) (drop c.at s)) u known) f b))

      abbrev rest_of : List Placed
      rest_of = links_from rst 0 (c.at + link_end x) (drop (c.at + link_end x) s)

      -- what all links add, by what this one adds
      goes : collect_all render s (links_of s) ≡ goes_on render s rest_of (add render s (placed_behind c.at x (drop c.taken w')) (collection_of s t w' c))
      unfolding scan_of
      goes =
          v.goes
          ∙ ap (collect_from render s (collection_of s t w c)) (links-equation rst rst-consuming c.at (drop c.at s) ∙ ap (links_by rst c.at (drop c.at s)) link)
          ∙ adds-first render c.at s (drop c.at s) (collection_of s t w c) (kind_of x) _ _ (skipped_by x) (consumed_by x)
          ∙ ap (λ (n : ℕ). goes_on render s (links_from rst 0 (c.at + n) (drop n (drop c.at s))) (add render s (placed_behind c.at x (drop c.taken w')) (collection_of s t w c))) (sym (end_is x))
          ∙ ap (λ (z : List ℕ). goes_on render s (links_from rst 0 (c.at + link_end x) z) (add render s (placed_behind c.at x (drop c.taken w')) (collection_of s t w c))) (drop-drop (link_end x) c.at s)
          ∙ ap (λ (z : Collection). goes_on render s rest_of (add render s (placed_behind c.at x (drop c.taken w')) z)) (sym kept)

      module _ (t'' w'' : List ℕ) where
        -- it is added
        pub reading-next :
            (d : MarkupLinkCollection) → Roomy t'' w'' → AddsScanned render c x t w' t'' w'' (Ok d)
            → Reading render s t'' w'' d × (d.at ≡ c.at + link_end x)
        reading-next d q u =
            let h = u.held in (
              record {
                short = v.short;
                roomy = q;
                held = h.0;
                inside = omega (arith, h.1, inside.1);
                goes =
                    goes
                    ∙ ap (goes_on render s rest_of) (sym (u.step s))
                    ∙ ap (λ (n : ℕ). collect_from render s (collection_of s t'' w'' d) (links_from rst 0 n (drop n s))) (sym h.1);
              },
              h.1,
            )

        -- or refused
        pub reading-refused : (e : Refusal) → AddsScanned render c x t w' t'' w'' (Err e) → Collects render s t'' w'' (Err e)
        reading-refused e u = record { step = sym (goes ∙ ap (goes_on render s rest_of) (sym (u.step s))); held = u.held }
