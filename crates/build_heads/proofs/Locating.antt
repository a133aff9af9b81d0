-- The locator: settling it changes no place, and at hand stands the first of the places to come.
-- Assumes nothing.
use mathlib.Core.Path.{◌≡◌, refl, sym, ◌∙◌}
use mathlib.Core.List.{List, [], ◌∷◌, ◌++◌}
use mathlib.Core.Bool.{Bool, true, false}
use Prim.Native.Nat.{ℕ, zero, suc, ◌+◌, ◌-◌, ◌≤◌, ◌<◌}
use native.Mathlib.Numerals.{sub-one}
use native.Mathlib.Omega.{arith}
use lib.ListN.{take, drop}
use Rattle.frames.specs.Layout.{frame_len}
use Rattle.frames.specs.Limits.{max_budget}
use Rattle.build_paging.specs.Cuts.{cuts}
use Rattle.build_sources.specs.Source.{Entry}
use Rattle.build_image.specs.declared.Call.{Call}
use Rattle.build_image.specs.Sizes.{costs_of}
use Rattle.build_image.specs.Image.{places_in, places, page_end, history_end}
use Rattle.build_history.specs.declared.PageAhead.{PageAhead}
use Rattle.build_history.specs.Runs.{Sane, run_of}
use Rattle.build_history.proofs.Ahead.{Tells, tells_of}
use Rattle.build_heads.specs.declared.Loc.{Loc}
use Rattle.build_heads.specs.Located.{places_at, end_at, Settled, onward_of}

up_page : (limit at : ℕ) (es : List Entry) → at ≤ page_end limit at es
unfolding page_end
up_page limit at es = omega arith

pub up_history : (limit : ℕ) (ns : List ℕ) (at : ℕ) (es : List Entry) → at ≤ history_end limit at ns es
unfolding history_end
up_history limit [] at es = omega arith
up_history limit (n ∷ ns) at es = omega (arith, up_page limit at (take n es), up_history limit ns (page_end limit at (take n es)) (drop n es))

no_clash : {x : Bool} → x ≡ true → x ≡ false → ⊥
no_clash p q = let z : ◌≡◌ {A = Bool} true false = sym p ∙ q in let y : ◌≡◌ {A = ℕ} 0 1 = cc in omega arith

pub on_head : (q : Loc) (b : Bool) → b ≡ false → q ≡ onward_of b q
on_head q b e = rw e

pub on-old : (q : Loc) (b : Bool) → b ≡ true → record { page = q.page; slot = q.slot + 1; left = q.left - 1; next = q.next } ≡ onward_of b q
on-old q b e = rw e

-- none is named
pub unnamed : (limit budget : ℕ) (os : List Entry) (b : Bool) (p : Loc) → b ≡ false → Settled limit budget os b p p
unnamed limit budget os b p e = record { same = refl; ends = refl; some = λ t. absurd (no_clash t e); slots = λ h. h }

-- one is at hand
pub stays : (limit budget : ℕ) (os : List Entry) (b : Bool) (p : Loc) → 0 < p.left → Settled limit budget os b p p
stays limit budget os b p h = record { same = refl; ends = refl; some = λ _ z. absurd (omega arith); slots = λ h. h }

-- the next page
module _ (m : Call) (os : List Entry) (b : Bool) (p : Loc) (sane : Sane m) (z : p.left ≤ 0) (r : PageAhead) (re : r ≡ run_of m.limit m.budget os) where
  t : Tells m.limit m.budget os r
  t = tells_of m.limit m.budget os r sane.limit sane.budget re

  pub run_small : r.size ≤ max_budget
  run_small = t.small

  z0 : p.left ≡ 0
  z0 = omega arith

  pub settled-end : r.count ≡ 0 → Settled m.limit m.budget os b p p
  settled-end e = record { same = refl; ends = refl; some = λ _ _. t.none e; slots = λ h. h }

  at_zero : places_at m.limit m.budget p os ≡ places m.limit p.next (cuts m.budget (costs_of m.limit os)) os
  unfolding places_at places_in
  at_zero = rw z0

  end_zero : end_at m.limit m.budget p os ≡ history_end m.limit p.next (cuts m.budget (costs_of m.limit os)) os
  unfolding end_at
  end_zero = rw z0

  module _ (nz : r.count ≡ 0 → ⊥) (x : ℕ) (ex : x ≡ frame_len r.size) where
    pos : 0 < r.count
    pos = omega (arith, nz)

    abbrev here : Loc
    here = record { page = p.next; slot = 0; left = r.count; next = p.next + x + r.remote }

    past : p.next + x + r.remote ≡ page_end m.limit p.next (take r.count os)
    unfolding page_end
    past = rw (ex, t.size, t.remote)

    same-places : places_at m.limit m.budget here os ≡ places_at m.limit m.budget p os
    unfolding places_at places
    same-places = rw past (sym (at_zero ∙ rw (t.cut pos)))

    same_end : end_at m.limit m.budget here os ≡ end_at m.limit m.budget p os
    unfolding end_at history_end
    same_end = rw past (sym (end_zero ∙ rw (t.cut pos)))

    pub turned : Settled m.limit m.budget os b p here
    turned = record { same = same-places; ends = same_end; some = λ _ e. absurd (nz e); slots = λ _. omega (arith, t.small, t.many) }

    pub turned-fits : end_at m.limit m.budget p os ≤ 18446744073709551615 → p.next + x + r.remote ≤ 18446744073709551615
    unfolding end_at
    turned-fits h =
        let ns = cuts m.budget (costs_of m.limit (drop r.count os)) in
        omega (arith, same_end, up_history m.limit ns (p.next + x + r.remote) (drop r.count os))

-- the place at hand, and the places past it
hand : (limit budget pg s nx : ℕ) (n : ℕ) (e : Entry) (os : List Entry) → 0 < n
    → places_in pg s n ++ places limit nx (cuts budget (costs_of limit (drop n (e ∷ os)))) (drop n (e ∷ os))
    ≡ record { page = pg; slot = s } ∷ (places_in pg (s + 1) (n - 1) ++ places limit nx (cuts budget (costs_of limit (drop (n - 1) os))) (drop (n - 1) os))
unfolding places_in
hand limit budget pg s nx zero e os h = absurd (omega arith)
hand limit budget pg s nx (suc n) e os h = rw sub-one

pub at_hand : (limit budget : ℕ) (e : Entry) (os : List Entry) (p : Loc) → 0 < p.left
    → places_at limit budget p (e ∷ os) ≡ record { page = p.page; slot = p.slot } ∷ places_at limit budget (onward_of true p) os
unfolding places_at
at_hand limit budget e os p h = hand limit budget p.page p.slot p.next p.left e os h

end_hand : (limit budget nx : ℕ) (n : ℕ) (e : Entry) (os : List Entry) → 0 < n
    → history_end limit nx (cuts budget (costs_of limit (drop n (e ∷ os)))) (drop n (e ∷ os)) ≡ history_end limit nx (cuts budget (costs_of limit (drop (n - 1) os))) (drop (n - 1) os)
end_hand limit budget nx zero e os h = absurd (omega arith)
end_hand limit budget nx (suc n) e os h = rw sub-one

-- the pages end where they did
pub end_on : (limit budget : ℕ) (e : Entry) (os : List Entry) (p : Loc) → 0 < p.left → end_at limit budget p (e ∷ os) ≡ end_at limit budget (onward_of true p) os
unfolding end_at
end_on limit budget e os p h = end_hand limit budget p.next p.left e os h

-- the first page's address gives all places, and the end
pub first-places : (limit budget at : ℕ) (os : List Entry)
    → places_at limit budget (record { page = 0; slot = 0; left = 0; next = at }) os ≡ places limit at (cuts budget (costs_of limit os)) os
unfolding places_at places_in
first-places limit budget at os = refl

pub first-end : (limit budget at : ℕ) (os : List Entry) → end_at limit budget (record { page = 0; slot = 0; left = 0; next = at }) os ≡ history_end limit at (cuts budget (costs_of limit os)) os
unfolding end_at
first-end limit budget at os = refl

-- one is at hand where one is left
pub some_left : (limit budget : ℕ) (e : Entry) (os : List Entry) (b : Bool) (p q : Loc) → Settled limit budget (e ∷ os) b p q → b ≡ true → 0 < q.left
some_left limit budget e os b p q s t = positive q.left (λ z. cons_not_nil (s.some t z))
  where
    cons_not_nil : e ∷ os ≡ [] → ⊥
    cons_not_nil h = let z : ◌≡◌ {A = ℕ} 0 1 = cc in omega arith

    positive : (n : ℕ) → (n ≡ 0 → ⊥) → 0 < n
    positive n h = omega (arith, h)
