-- A sweep over entries, whatever holds them: finishing from here gives the answer. It stands behind the entry x, if one is seen, and in front of
-- `rest`, the last part of `all`.
-- Assumes nothing.
use mathlib.Core.Path.{◌≡◌, refl, sym, ap, ◌∙◌}
use mathlib.Core.List.{List, [], ◌∷◌}
use mathlib.Core.Bool.{Bool, true, false, cond}
use Prim.Native.Nat.{ℕ, ◌+◌, ◌≤◌, ◌<◌}
use native.Mathlib.Omega.{arith}
use lib.ListN.{length}
use Rattle.order.specs.Order.{cmp_bytes}
use Rattle.frames.specs.Limits.{max_budget, max_entries, max_key, max_limit, max_value}
use Rattle.values.specs.Vals.{size_of}
use Rattle.build_sources.specs.Source.{Entry, only}
use Rattle.build_sources.specs.Judged.{above_by, above, rising_from, rising}
use Rattle.build_image.specs.Sizes.{remote_len, cost}
use Rattle.build_sweep.specs.declared.Tally.{Tally}
use Rattle.build_sweep.specs.declared.Pages.{Pages}
use Rattle.build_sweep.specs.declared.Cut.{Cut}
use Rattle.build_sweep.specs.Tally.{nothing, with_old, with_head, with_one, tally_of}
use Rattle.build_sweep.specs.Pages.{pages_of}
use Rattle.build_sweep.specs.Bounds.{Bounded}
use Rattle.build_sweep.specs.Cuts.{begun, cut_with, closed_of, pages_from, Slim}
use Rattle.build_sweep.specs.Swept.{last_key}
use Rattle.build_sweep.specs.Adding.{Adding, Summed}
use Rattle.build_sweep.proofs.Tallying.{up, one-bounded, tally_nil}
use Rattle.build_sweep.proofs.Cutting.{folds, near_begin, near_slim, near_turn, near-end}
use Rattle.std.specs.declared.cmp.Ordering.{Ordering}

-- ---- the order

unfoldable pub rises_on : Bool → Entry → List Entry → Bool
unfolding rising_from rising
rises_on seen x es = cond seen (rising_from x es) (rising es)

abbrev pub before : Bool → Entry → List ℕ
before seen x = cond seen x.key []

pub record Climbing (all rest : List Entry) (seen : Bool) (x : Entry) : Type 0 where
  pub rises : rises_on seen x rest ≡ rising all
  pub last : last_key (before seen x) rest ≡ last_key [] all
  pub fresh : seen ≡ false → rest ≡ all

pub climb_begin : (all : List Entry) (x : Entry) → Climbing all all false x
unfolding rises_on
climb_begin all x = record { rises = refl; last = refl; fresh = λ e. refl }

-- of the entry before only key and version count
rising_like : (a b : Entry) → a.key ≡ b.key → a.ver ≡ b.ver → (es : List Entry) → rising_from a es ≡ rising_from b es
unfolding rising_from above
rising_like a b k v [] = refl
rising_like a b k v (c ∷ es) = rw (k, v) refl

rises-first : (seen : Bool) (x e : Entry) (es : List Entry) (o : Ordering) → o ≡ cond seen (cmp_bytes x.key e.key) Ordering.Less
    → rises_on seen x (e ∷ es) ≡ cond (above_by o x.ver e.ver) (rising_from e es) false
unfolding rises_on rising_from above rising
rises-first true x e es o q = rw q refl
rises-first false x e es o q = rw q refl

rises_nil : (seen : Bool) (x : Entry) → rises_on seen x [] ≡ true
unfolding rises_on rising_from rising
rises_nil true x = refl
rises_nil false x = refl

module _ (all rest : List Entry) (seen : Bool) (x : Entry) (h : Climbing all rest seen x) where
  -- the end is reached
  pub climb_up : rest ≡ [] → rising all ≡ true
  climb_up e = sym (ap (rises_on seen x) (sym e) ∙ h.rises) ∙ rises_nil seen x

  pub climb_last : rest ≡ [] → 0 < length all → x.key ≡ last_key [] all
  unfolding last_key
  climb_last e n = go seen refl
    where
      go : (b : Bool) → seen ≡ b → x.key ≡ last_key [] all
      go true q = ap (λ (b : Bool). cond b x.key []) (sym q) ∙ ap (λ (es : List Entry). last_key (before seen x) es) (sym e) ∙ h.last
      go false q = absurd (omega (arith, ap length (h.fresh q), ap length e, n))

  -- one entry on
  module _ (e : Entry) (es : List Entry) (er : rest ≡ e ∷ es) (o : Ordering) (eo : o ≡ cond seen (cmp_bytes x.key e.key) Ordering.Less) where
    rises-is : rising all ≡ cond (above_by o x.ver e.ver) (rising_from e es) false
    rises-is = sym h.rises ∙ ap (rises_on seen x) er ∙ rises-first seen x e es o eo

    pub climb_falls : above_by o x.ver e.ver ≡ false → rising all ≡ false
    climb_falls q = rises-is ∙ rw q refl

    -- y is the entry before from then on, by its key and version
    pub climb_on : above_by o x.ver e.ver ≡ true → (y : Entry) → e.key ≡ y.key → e.ver ≡ y.ver → Climbing all es true y
    unfolding rises_on last_key
    climb_on q y k v =
        record {
          rises = rising_like y e (sym k) (sym v) es ∙ sym (rises-is ∙ rw q refl);
          last = ap (λ (z : List ℕ). last_key z es) (sym k) ∙ ap (last_key (before seen x)) (sym er) ∙ h.last;
          fresh = λ f. absurd (let z : ◌≡◌ {A = ℕ} 0 1 = cc in omega arith);
        }

-- ---- the sums

pub add_begin : (all : List Entry) (p next limit budget : ℕ) → Adding all all p next limit budget nothing (begun next)
add_begin all p next limit budget =
    record {
      tally = refl;
      pages = folds limit budget next (only true all);
      count = omega arith;
      few = omega arith;
      bounded = record { heads = omega arith; olds = omega arith; sums = omega arith; counted = omega arith; remotes = omega arith; aged = omega arith; remote = omega arith };
      near = near_begin next;
    }

pages_nil : (limit budget : ℕ) (g : Cut) (es : List Entry) → es ≡ [] → pages_from limit budget g (only true es) ≡ closed_of g
unfolding pages_from only
pages_nil limit budget g es e = rw e refl

module _ (all rest : List Entry) (p next limit budget : ℕ) (t : Tally) (g : Cut) (h : Adding all rest p next limit budget t g) where
  pub add_bounded : Bounded t max_entries
  add_bounded = up t (t.heads + t.olds) max_entries h.few h.bounded

  pub add_slim : next ≤ 9223372036854775807 → Slim g
  add_slim nh = near_slim next t.olds g h.near (let q = h.few in omega arith) nh

  pub add-end : rest ≡ [] → (r : Pages) → r ≡ closed_of g → Summed all p next limit budget t r
  add-end e r er =
      let n = near-end next t.olds g h.near (let z = h.few in omega arith) in
      record {
        tally = sym (tally_nil limit p t rest e) ∙ h.tally;
        pages = er ∙ sym (pages_nil limit budget g rest e) ∙ h.pages;
        few = omega (arith, h.count, h.few, ap length e);
        bounded = add_bounded;
        end = omega (arith, ap (λ (y : Pages). y.end) er, n.0);
        count = omega (arith, ap (λ (y : Pages). y.count) er, n.1);
      }

  -- one entry on: a key of k bytes, a value of v, kept
  module _ (e : Entry) (es : List Entry) (er : rest ≡ e ∷ es) (k v kept : ℕ) (ek : length e.key ≡ k) (ev : length e.val ≡ v) (ep : e.kept ≡ kept) where
    pub add_many : max_entries ≤ t.heads + t.olds → max_entries < length all
    add_many q = omega (arith, h.count, ap length er)

    -- what the entry adds
    tally-is : (b : Bool) → e.old ≡ b → tally_of limit p (with_one limit p t b k v kept) es ≡ tally_of limit p nothing all
    unfolding tally_of
    tally-is b q =
        sym (ap (tally_of limit p t) er
        ∙ ap (λ (y : Bool). tally_of limit p (with_one limit p t y (length e.key) (length e.val) e.kept) es) q
        ∙ ap (λ (y : ℕ). tally_of limit p (with_one limit p t b y (length e.val) e.kept) es) ek
        ∙ ap (λ (y : ℕ). tally_of limit p (with_one limit p t b k y e.kept) es) ev
        ∙ ap (λ (y : ℕ). tally_of limit p (with_one limit p t b k v y) es) ep)
        ∙ h.tally

    pages_head : e.old ≡ false → pages_from limit budget g (only true es) ≡ pages_of limit budget 0 next (only true all)
    unfolding only
    pages_head q =
        sym (ap (λ (z : List Entry). pages_from limit budget g (only true z)) er
        ∙ ap (λ (b : Bool). pages_from limit budget g (cond b (e ∷ only true es) (only true es))) q)
        ∙ h.pages

    cost-is : cost limit e ≡ 12 + size_of false limit v + 4
    unfolding cost
    cost-is = ap (λ (y : ℕ). 12 + size_of false limit y + 4) ev

    pages-old : e.old ≡ true
        → pages_from limit budget (cut_with budget g (12 + size_of false limit v + 4) (remote_len limit v kept)) (only true es) ≡ pages_of limit budget 0 next (only true all)
    unfolding only pages_from
    pages-old q =
        sym (ap (λ (z : List Entry). pages_from limit budget g (only true z)) er
        ∙ ap (λ (b : Bool). pages_from limit budget g (cond b (e ∷ only true es) (only true es))) q
        ∙ ap (λ (y : ℕ). pages_from limit budget (cut_with budget g y (remote_len limit (length e.val) e.kept)) (only true es)) cost-is
        ∙ ap (λ (y : ℕ). pages_from limit budget (cut_with budget g (12 + size_of false limit v + 4) (remote_len limit y e.kept)) (only true es)) ev
        ∙ ap (λ (y : ℕ). pages_from limit budget (cut_with budget g (12 + size_of false limit v + 4) (remote_len limit v y)) (only true es)) ep)
        ∙ h.pages

    module _ (kh : k ≤ max_key) (vh : v ≤ max_value) (fw : t.heads + t.olds < max_entries) where
      pub add_head : e.old ≡ false → (r : Tally) → r ≡ with_head limit p t k v kept → Adding all es p next limit budget r g
      unfolding with_one
      add_head q r re =
          rw re
          (record {
            tally = tally-is false q;
            pages = pages_head q;
            count = omega (arith, h.count, ap length er);
            few = omega (arith, fw);
            bounded = up _ (t.heads + t.olds + 1) (t.heads + 1 + t.olds) (omega arith) (one-bounded limit p t false k v kept (t.heads + t.olds) h.bounded kh vh);
            near = h.near;
          })

      pub add_old : limit ≤ max_limit → budget ≤ max_budget → e.old ≡ true → (r : Tally) → r ≡ with_old limit t v kept → (d : Cut)
          → d ≡ cut_with budget g (12 + size_of false limit v + 4) (remote_len limit v kept) → Adding all es p next limit budget r d
      unfolding with_one
      add_old lh bh q r re d de =
          rw (re, de)
          (record {
            tally = tally-is true q;
            pages = pages-old q;
            count = omega (arith, h.count, ap length er);
            few = omega (arith, fw);
            bounded = up _ (t.heads + t.olds + 1) (t.heads + (t.olds + 1)) (omega arith) (one-bounded limit p t true k v kept (t.heads + t.olds) h.bounded kh vh);
            near = near_turn limit budget next t.olds g v kept lh bh vh h.near;
          })
