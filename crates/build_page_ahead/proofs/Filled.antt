-- Filling a page: with no entry, a head, an old version, one part and then another; from an empty page on it is the page that comes next.
-- Assumes nothing.
use Prim.Native.Nat.{ℕ, ◌+◌, ◌≤◌}
use mathlib.Core.Path.{◌≡◌, refl, sym, ap, ◌∙◌}
use mathlib.Core.List.{List, [], ◌∷◌, ◌++◌}
use mathlib.Core.Bool.{Bool, true, false, cond}
use mathlib.Core.Logic.{⊎_elim}
use native.Mathlib.Omega.{arith}
use lib.ListN.{length}
use Rattle.frames.specs.Layout.{base_len}
use Rattle.frames.specs.Limits.{max_budget}
use Rattle.build_paging.specs.Cuts.{fits}
use Rattle.build_paging.proofs.Cutting.{fits_says}
use Rattle.build_sources.specs.Source.{Entry, olds, only}
use Rattle.build_image.specs.Sizes.{remote_len, cost}
use Rattle.build_history.specs.declared.PageAhead.{PageAhead}
use Rattle.build_history.specs.Runs.{run_of}
use Rattle.build_history.proofs.Ahead.{run_from, from_first, from_nil, from_stop, from_go}
use Rattle.build_page_ahead.specs.Filled.{page_of, page_with, with_entry, filled, Sized}

-- a page that is not full
pub open_page : (r : PageAhead) → r.more ≡ false → r ≡ page_of r.count r.size r.remote false
open_page r e = ap (page_of r.count r.size r.remote) e

-- an entry in front, seen by the old versions alone
olds-old : (e : Entry) (es : List Entry) → e.old ≡ true → olds (e ∷ es) ≡ e ∷ olds es
unfolding only
olds-old e es o = rw o refl

olds_head : (e : Entry) (es : List Entry) → e.old ≡ false → olds (e ∷ es) ≡ olds es
unfolding only
olds_head e es o = rw o refl

olds_nil : olds [] ≡ []
unfolding only
olds_nil = refl

-- a head changes nothing, whether the page is full or not
with_head_lem : (b : Bool) (r x : PageAhead) (o : Bool) → o ≡ false → cond b r (cond o x r) ≡ r
with_head_lem true r x o h = refl
with_head_lem false r x o h = rw h refl

module _ (limit budget : ℕ) where
  pub filled_nil : (r : PageAhead) (es : List Entry) → es ≡ [] → filled limit budget r es ≡ r
  unfolding filled
  filled_nil r es e = rw e refl

  pub filled-over : (r : PageAhead) (es fs : List Entry) → filled limit budget r (es ++ fs) ≡ filled limit budget (filled limit budget r es) fs
  unfolding filled
  filled-over r [] fs = refl
  filled-over r (e ∷ es) fs = filled-over (with_entry limit budget r e) es fs

  with_full : (r : PageAhead) (e : Entry) → r.more ≡ true → with_entry limit budget r e ≡ r
  unfolding with_entry
  with_full r e h = rw h refl

  pub filled_full : (r : PageAhead) (es : List Entry) → r.more ≡ true → filled limit budget r es ≡ r
  unfolding filled
  filled_full r [] h = refl
  filled_full r (e ∷ es) h = ap (λ (x : PageAhead). filled limit budget x es) (with_full r e h) ∙ filled_full r es h

  pub filled_head : (r : PageAhead) (e : Entry) (es : List Entry) → e.old ≡ false → filled limit budget r (e ∷ es) ≡ filled limit budget r es
  unfolding filled with_entry
  filled_head r e es h = ap (λ (x : PageAhead). filled limit budget x es) (with_head_lem r.more r (page_with limit budget r e) e.old h)

  -- an old version, and n stand in the page, which is t long, its remote frames f
  module _ (n t f : ℕ) (e : Entry) (es : List Entry) (o : e.old ≡ true) where
    pub filled_stop : fits budget n t (cost limit e) ≡ false → filled limit budget (page_of n t f false) (e ∷ es) ≡ page_of n t f true
    unfolding filled with_entry page_with
    filled_stop h = rw (o, h) (filled_full (page_of n t f true) es refl)

    pub filled_go : fits budget n t (cost limit e) ≡ true
        → filled limit budget (page_of n t f false) (e ∷ es) ≡ filled limit budget (page_of (n + 1) (t + cost limit e) (f + remote_len limit (length e.val) e.kept) false) es
    unfolding filled with_entry page_with
    filled_go h = rw (o, h) refl

  -- the page that comes next
  from-here : (n t f : ℕ) (es : List Entry) → filled limit budget (page_of n t f false) es ≡ run_from limit budget n t f (olds es)
  from-here n t f [] = filled_nil (page_of n t f false) [] refl ∙ from_nil limit budget n t f (olds []) olds_nil
  from-here n t f (e ∷ es) =
      by e.old refl (fits budget n t (cost limit e)) refl (from-here n t f es) (from-here (n + 1) (t + cost limit e) (f + remote_len limit (length e.val) e.kept) es)
    where
      by : (o : Bool) → e.old ≡ o → (b : Bool) → fits budget n t (cost limit e) ≡ b → filled limit budget (page_of n t f false) es ≡ run_from limit budget n t f (olds es)
          → filled limit budget (page_of (n + 1) (t + cost limit e) (f + remote_len limit (length e.val) e.kept) false) es ≡ run_from limit budget (n + 1) (t + cost limit e) (f + remote_len limit (length e.val) e.kept) (olds es)
          → filled limit budget (page_of n t f false) (e ∷ es) ≡ run_from limit budget n t f (olds (e ∷ es))
      by false o b h u v = filled_head (page_of n t f false) e es o ∙ u ∙ ap (run_from limit budget n t f) (sym (olds_head e es o))
      by true o false h u v = filled_stop n t f e es o h ∙ from_stop limit budget n t f e (olds es) h ∙ ap (run_from limit budget n t f) (sym (olds-old e es o))
      by true o true h u v = filled_go n t f e es o h ∙ v ∙ sym (ap (run_from limit budget n t f) (olds-old e es o) ∙ from_go limit budget n t f e (olds es) h)

  pub filled-first : (es : List Entry) → filled limit budget (page_of 0 base_len 0 false) es ≡ run_of limit budget (olds es)
  filled-first es = from-here 0 base_len 0 es ∙ from_first limit budget (olds es)

-- ---- sizes

pub sized-first : Sized (page_of 0 base_len 0 false)
sized-first = record { small = omega arith; many = omega arith; first = λ e. refl; away = omega arith }

module _ (n t f : ℕ) (z : Sized (page_of n t f false)) where
  pub sized_full : Sized (page_of n t f true)
  sized_full = record { small = z.small; many = z.many; first = z.first; away = z.away }

  -- with one more: x long, y its remote frame
  pub sized_go : (budget x y : ℕ) → budget ≤ max_budget → 21 ≤ x → x ≤ 65565 → y ≤ 65600 → fits budget n t x ≡ true → Sized (page_of (n + 1) (t + x) (f + y) false)
  sized_go budget x y bh lo hi yh h =
      record {
        small = ⊎_elim (λ q. let k : t ≡ base_len = z.first q in omega arith) (λ q. omega arith) (fits_says budget n t x h);
        many = omega (arith, z.many);
        first = λ q. absurd (omega arith);
        away = omega (arith, z.away);
      }
