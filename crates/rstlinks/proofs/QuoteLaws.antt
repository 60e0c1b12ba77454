-- The laws of specs/Quote.antt: what stands in quotes is ASCII; one byte more; one part more.
use Rattle.std.proofs.Common.{◌≡◌, ℕ, suc, refl, ◌+◌, ◌/◌, ◌%◌, ◌<◌, ◌≤◌, sym, ap, ◌∙◌, arith, rules, Bool, true, false, List, [], ◌∷◌, ◌++◌, length, take, get_or, append_assoc, append-nil}
use Rattle.std.proofs.lemmas.Bool.Decides.{nat_tests}
use Rattle.std.proofs.lemmas.List.{take_all, take_more}
use Rattle.std.proofs.lemmas.Str.{IsAscii-append, IsUtf8-from_ascii}
use Rattle.std.proofs.lemmas.Str.Ascii.{IsAscii-nil, IsAscii-cons, IsAscii-from_all}
use Rattle.std.specs.Str.{IsAscii, IsUtf8}
use Rattle.rstlinks.specs.Quote.{is_plain, hex_digit, shown_byte, shown_bytes}

plain-ascii : (b : ℕ) → is_plain b ≡ true → b < 128
unfolding is_plain
plain-ascii b e = grind (arith, nat_tests)

digit-ascii : (n : ℕ) → n < 16 → hex_digit n < 128
unfolding hex_digit
digit-ascii n h = grind (arith, nat_tests)

ascii-byte : (b : ℕ) (t : Bool) → is_plain b ≡ t → b < 256 → IsAscii (shown_byte b)
ascii-byte b true e h = rw (e, shown_byte) (IsAscii-cons b [] (plain-ascii b e) IsAscii-nil)
ascii-byte b false e h =
    let first : hex_digit (b / 16) < 128 = digit-ascii (b / 16) (omega arith) in
    let second : hex_digit (b % 16) < 128 = digit-ascii (b % 16) (omega arith) in
    rw (e, shown_byte) (IsAscii-from_all (0x5C ∷ hex_digit (b / 16) ∷ hex_digit (b % 16) ∷ []) (search rules))

shown-ascii : (s : List ℕ) → ((i : ℕ) → get_or s i 0 < 256) → IsAscii (shown_bytes s)
unfolding shown_bytes
shown-ascii [] h = IsAscii-nil
shown-ascii (b ∷ s) h =
    IsAscii-append (shown_byte b) (shown_bytes s) (ascii-byte b (is_plain b) refl (h 0)) (shown-ascii s (λ (i : ℕ). h (suc i)))

pub shown-utf8 : (s t : List ℕ) (n : ℕ) → ((i : ℕ) → get_or s i 0 < 256) → length s ≤ n → t ≡ shown_bytes (take n s) → IsUtf8 t
shown-utf8 s t n h l e = rw (e, take_all n s l) (IsUtf8-from_ascii (shown_bytes s) (shown-ascii s h))

shown-append : (s t : List ℕ) → shown_bytes (s ++ t) ≡ shown_bytes s ++ shown_bytes t
unfolding shown_bytes
shown-append [] t = refl
shown-append (b ∷ s) t =
    ap (λ (u : List ℕ). shown_byte b ++ u) (shown-append s t) ∙ sym (append_assoc (shown_byte b) (shown_bytes s) (shown_bytes t))

shown-snoc : (s : List ℕ) (b : ℕ) → shown_bytes (s ++ b ∷ []) ≡ shown_bytes s ++ shown_byte b
unfolding shown_bytes
shown-snoc s b = shown-append s (b ∷ []) ∙ ap (λ (t : List ℕ). shown_bytes s ++ t) (append-nil (shown_byte b))

pub shown-more :
    (s : List ℕ) (i : ℕ) → i < length s → shown_bytes (take i s) ++ shown_byte (get_or s i 0) ≡ shown_bytes (take (i + 1) s)
shown-more s i h = sym (ap shown_bytes (take_more s i 0 h) ∙ shown-snoc (take i s) (get_or s i 0))

pub part-more :
    (done part rest all whole shown : List ℕ) → all ≡ part ++ rest → shown ≡ shown_bytes part → done ++ shown_bytes all ≡ whole
    → (done ++ shown) ++ shown_bytes rest ≡ whole
part-more done part rest all whole shown p e h = rw (e, append_assoc, ← shown-append part rest, ← p) h

pub nothing-more :
    (done all whole : List ℕ) → all ≡ [] → done ++ shown_bytes all ≡ whole → done ≡ whole
unfolding shown_bytes
nothing-more done all whole e h = sym (append-nil done) ∙ rw e at h
