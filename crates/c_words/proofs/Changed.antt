-- A walk's words of which some are stored alone: the slice then holds what storing all eighteen would leave, since the others came from it.
-- Assumes nothing.
-- two stores in a row
use Prim.Native.Nat.{ℕ, zero, suc, ◌+◌, ◌≤◌}
use mathlib.Core.Path.{◌≡◌, refl, sym, ap, ◌∙◌}
use mathlib.Core.List.{List, [], ◌∷◌, ◌++◌}
use native.Mathlib.Omega.{arith}
use lib.ListN.{length, get_or, drop, set}
use lib.Seq.{drop-cons}
use Rattle.spans.specs.Span.{put}
use Rattle.pages.specs.declared.Place.{Place}
use Rattle.walks.specs.declared.OldPlace.{OldPlace}
use Rattle.walks.specs.declared.Walk.{Walk}
use Rattle.walks.specs.Walk.{behind_of}
use Rattle.c_words.specs.Words.{written, walk_in, walk_words, aged_to, head_to}
use Rattle.c_words.proofs.Laws.{written-length, written-whole}

pub put_two : (o : List ℕ) (k a b : ℕ) → put o k (a ∷ b ∷ []) ≡ set (set o k a) (k + 1) b
unfolding put
put_two o k a b = refl

module _ (ws : List ℕ) where
  -- n words from word i on
  abbrev words : ℕ → ℕ → List ℕ
  words zero i = []
  words (suc n) i = get_or ws i 0 ∷ words n (suc i)

  words_drop : (n i : ℕ) → i + n ≤ length ws → drop i ws ≡ words n i ++ drop (i + n) ws
  words_drop zero i h = let e : i ≡ i + 0 = omega arith in ap (λ (k : ℕ). drop k ws) e
  words_drop (suc n) i h =
      let e : suc i + n ≡ i + suc n = omega arith in
      drop-cons ws i 0 (omega (arith, h)) ∙ ap (λ (z : List ℕ). get_or ws i 0 ∷ z) (words_drop n (suc i) (omega (arith, h)) ∙ ap (λ (k : ℕ). words n (suc i) ++ drop k ws) e)

  module _ (h : 18 ≤ length ws) where
    words_are : ws ≡ walk_words (walk_in ws) ++ drop 18 ws
    unfolding walk_in
    words_are = words_drop 18 0 h

    changed : (k : ℕ) (x : List ℕ) (w : Walk) → put (walk_words (walk_in ws) ++ drop 18 ws) k x ≡ walk_words w ++ drop 18 ws → put ws k x ≡ written (walk_words w) ws
    changed k x w e = ap (λ (z : List ℕ). put z k x) words_are ∙ e ∙ sym (written-whole (walk_words w) ws h)

    pub older_changed : (slot left : ℕ) → put ws 16 (slot ∷ left ∷ []) ≡ written (walk_words (aged_to (walk_in ws) slot left)) ws
    unfolding put
    older_changed slot left = changed 16 (slot ∷ left ∷ []) (aged_to (walk_in ws) slot left) refl

    pub on_changed : (p heads : ℕ) (key : Place) → put ws 6 (p ∷ heads ∷ key.at ∷ key.len ∷ []) ≡ written (walk_words (head_to (walk_in ws) p heads key)) ws
    unfolding put
    on_changed p heads key = changed 6 (p ∷ heads ∷ key.at ∷ key.len ∷ []) (head_to (walk_in ws) p heads key) refl

    abbrev older_words : OldPlace → List ℕ
    older_words o = o.page.at ∷ o.page.elems ∷ o.page.front ∷ o.page.end ∷ o.page.prefix_len ∷ o.link.0 ∷ o.slot ∷ o.left ∷ []

    pub entered_changed : (o : OldPlace) → put ws 10 (older_words o) ≡ written (walk_words (behind_of (walk_in ws) o)) ws
    unfolding put behind_of
    entered_changed o = changed 10 (older_words o) (behind_of (walk_in ws) o) refl

    -- nothing stored
    pub none_changed : ws ≡ written (walk_words (walk_in ws)) ws
    none_changed = words_are ∙ sym (written-whole (walk_words (walk_in ws)) ws h)

    -- a walk written over another one
    pub written_over : (v w : Walk) → written (walk_words w) (written (walk_words v) ws) ≡ written (walk_words w) ws
    written_over v w =
        let l : 18 ≤ length (written (walk_words v) ws) = omega (arith, h, written-length (walk_words v) ws) in
        written-whole (walk_words w) (written (walk_words v) ws) l
        ∙ ap (λ (z : List ℕ). walk_words w ++ drop 18 z) (written-whole (walk_words v) ws h) ∙ sym (written-whole (walk_words w) ws h)
