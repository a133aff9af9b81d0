-- The key of a head behind p bytes: copied in one piece or in two.
-- Assumes nothing.
use mathlib.Core.Path.{◌≡◌, refl, sym, ap, ◌∙◌}
use mathlib.Core.List.{List, ◌++◌}
use Prim.Native.Nat.{ℕ, ◌+◌, ◌-◌, ◌*◌, ◌≤◌, ◌<◌}
use native.Mathlib.Omega.{arith}
use lib.ListN.{length, drop, length-append}
use lib.Seq.{drop-append_seam, drop-append-le, drop-drop}
use Rattle.spans.specs.Span.{part, put}
use Rattle.spans.proofs.Part.{length_part, part_zero}
use Rattle.spans.proofs.Put.{length-put, put-append, part-put-below}
use Rattle.frames.specs.declared.Body.{Body}
use Rattle.frames.specs.Layout.{base_len}
use Rattle.pages.specs.Meaning.{prefix_of}
use Rattle.build_pen.proofs.WritingList.{drop-part}
use Rattle.build_page_pen.specs.Told.{key_told, KeyBelow}

drop-behind : (x y : List ℕ) (p : ℕ) → length x ≤ p → drop p (x ++ y) ≡ drop (p - length x) y
drop-behind x y p h =
    let e : length x + (p - length x) ≡ p = omega arith in
    ap (λ (k : ℕ). drop k (x ++ y)) (sym e) ∙ sym (drop-drop (p - length x) (length x) (x ++ y)) ∙ ap (drop (p - length x)) (drop-append_seam x y)

module _ (a : List ℕ) (b : Body) (rest len at p : ℕ) (k : KeyBelow at b rest len) (pl : p ≤ b.prefix_len + len) (room : at + (b.prefix_len + len - p) ≤ length a) where
  abbrev n : ℕ
  n = b.prefix_len

  abbrev pat : ℕ
  pat = b.at + base_len + 4 * b.elems

  abbrev whole : List ℕ
  whole = drop p (key_told a b rest len)

  fore_long : length (part a pat n) ≡ n
  fore_long = length_part a pat n (omega (arith, k.prefix, room))

  key-is : key_told a b rest len ≡ part a pat n ++ part a rest len
  unfolding prefix_of
  key-is = refl

  -- the page's prefix is shorter than the new one
  module _ (s : n < p) where
    back : whole ≡ part a (rest + (p - n)) (len - (p - n))
    back =
        ap (drop p) key-is
        ∙ drop-behind (part a pat n) (part a rest len) p (omega (arith, fore_long, s))
        ∙ ap (λ (j : ℕ). drop (p - j) (part a rest len)) fore_long
        ∙ drop-part a rest len (p - n) (omega (arith, k.all, room)) (omega (arith, pl))

    pub back_asks : (rest + (p - n) + (len - (p - n)) ≤ at) × (at + (len - (p - n)) ≤ length a)
    back_asks = (omega (arith, k.all, pl, s), omega (arith, room, pl, s))

    pub back_done : (a₁ : List ℕ) → a₁ ≡ put a at (part a (rest + (p - n)) (len - (p - n))) → (len - (p - n) ≡ length whole) × (a₁ ≡ put a at whole)
    back_done a₁ e = (sym (ap length back ∙ length_part a (rest + (p - n)) (len - (p - n)) (omega (arith, k.all, room, pl, s))), e ∙ ap (put a at) (sym back))

  -- or not
  module _ (s : p ≤ n) where
    both : whole ≡ part a (pat + p) (n - p) ++ part a rest len
    both =
        ap (drop p) key-is
        ∙ drop-append-le p (part a pat n) (part a rest len) (omega (arith, fore_long, s))
        ∙ ap (λ (x : List ℕ). x ++ part a rest len) (drop-part a pat n p (omega (arith, k.prefix, room)) s)

    fore_in : pat + p + (n - p) ≤ length a
    fore_in = omega (arith, k.prefix, room, s)

    rest_in : rest + len ≤ length a
    rest_in = omega (arith, k.all, room)

    -- they are as long
    pub same_asks : n - p ≡ 0 → (rest + len ≤ at) × (at + len ≤ length a)
    same_asks z = (k.all, omega (arith, room, s, z))

    pub same_done : n - p ≡ 0 → (a₁ : List ℕ) → a₁ ≡ put a at (part a rest len) → (len ≡ length whole) × (a₁ ≡ put a at whole)
    same_done z a₁ e =
        let y : whole ≡ part a rest len = both ∙ ap (λ (j : ℕ). part a (pat + p) j ++ part a rest len) z ∙ ap (λ (x : List ℕ). x ++ part a rest len) (part_zero a (pat + p)) in
        (sym (ap length y ∙ length_part a rest len rest_in), e ∙ ap (put a at) (sym y))

    pub fore_asks : (pat + p + (n - p) ≤ at) × (at + (n - p) ≤ length a)
    fore_asks = (omega (arith, k.prefix, s), omega (arith, room, s))

    module _ (a₁ : List ℕ) (e₁ : a₁ ≡ put a at (part a (pat + p) (n - p))) where
      pub rest_asks : (rest + len ≤ at + (n - p)) × (at + (n - p) + len ≤ length a₁)
      rest_asks = (omega (arith, k.all), omega (arith, room, s, ap length e₁, length-put a at (part a (pat + p) (n - p))))

      pub both_done : (a₂ : List ℕ) → a₂ ≡ put a₁ (at + (n - p)) (part a₁ rest len) → (n - p + len ≡ length whole) × (a₂ ≡ put a at whole)
      both_done a₂ e₂ =
          let l = length_part a (pat + p) (n - p) fore_in in
          let y : part a₁ rest len ≡ part a rest len = ap (λ (x : List ℕ). part x rest len) e₁ ∙ part-put-below a at (part a (pat + p) (n - p)) rest len k.all in (
            omega (arith, ap length both, length-append (part a (pat + p) (n - p)) (part a rest len), l, length_part a rest len rest_in),
            e₂ ∙ ap (put a₁ (at + (n - p))) y ∙ ap (λ (x : List ℕ). put x (at + (n - p)) (part a rest len)) e₁
                ∙ ap (λ (j : ℕ). put (put a at (part a (pat + p) (n - p))) (at + j) (part a rest len)) (sym l)
                ∙ sym (put-append a at (part a (pat + p) (n - p)) (part a rest len)) ∙ ap (put a at) (sym both),
          )
