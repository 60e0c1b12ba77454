-- The link of the record at the front, by the parts that are split off.
use Rattle.std.proofs.Common.{◌≡◌, ℕ, ◌+◌, List, take, drop, ap, ap₂, ◌∙◌}
use Rattle.std.proofs.lemmas.List.{drop-drop}
use Rattle.iterator.specs.Resolve.{Hyperlink}
use Rattle.iterator.specs.ReadBack.{word_at, text_len_of, link_at_front, after_front}
use Rattle.rstlinks.specs.declared.head.Head.{Head}
use Rattle.rstlinks.specs.Head.{head_of}

module _
    (end : ℕ) (s r text r₁ dest r₂ : List ℕ) (h : Head) (e : h ≡ head_of s) (after_head : r ≡ drop 8 s) (is_text : text ≡ take h.text r)
    (after_text : r₁ ≡ drop h.text r) (is_dest : dest ≡ take h.dest r₁) (after_dest : r₂ ≡ drop h.dest r₁) where
  behind_text : r₁ ≡ drop (8 + text_len_of (word_at s)) s
  behind_text = after_text ∙ ap₂ drop (ap (λ (x : Head). x.text) e) after_head ∙ drop-drop _ _ s

  pub link-front : ◌≡◌ {A = Hyperlink} (record { place = end + h.skipped; consumed = h.consumed; text = text; dest = dest }) (link_at_front end s)
  link-front =
      ap (λ (x : Head). record { place = end + x.skipped; consumed = x.consumed; text = text; dest = dest }) e
      ∙ ap₂ (λ (t d : List ℕ). record (link_at_front end s) { text = t; dest = d })
      (is_text ∙ ap₂ take (ap (λ (x : Head). x.text) e) after_head)
      (is_dest ∙ ap₂ take (ap (λ (x : Head). x.dest) e) behind_text)

  pub rest-front : r₂ ≡ after_front s
  rest-front = after_dest ∙ ap₂ drop (ap (λ (x : Head). x.dest) e) behind_text ∙ drop-drop _ _ s
