-- Sums that go on: over no entry, over one part and then another, over one entry.
-- Assumes nothing.
use Prim.Native.Nat.{ℕ, ◌+◌, ◌≤◌, ◌<◌}
use mathlib.Core.Path.{◌≡◌, refl, subst}
use mathlib.Core.List.{List, [], ◌∷◌, ◌++◌, append_assoc}
use mathlib.Core.Bool.{true, false}
use lib.ListN.{length}
use Rattle.frames.specs.Limits.{max_budget, max_entries, max_key, max_limit, max_value}
use Rattle.values.specs.Vals.{size_of}
use Rattle.build_sources.specs.Source.{Entry}
use Rattle.build_image.specs.Sizes.{remote_len}
use Rattle.build_sweep.specs.declared.Tally.{Tally}
use Rattle.build_sweep.specs.declared.Cut.{Cut}
use Rattle.build_sweep.specs.Tally.{with_old, with_head}
use Rattle.build_sweep.specs.Bounds.{Bounded}
use Rattle.build_sweep.specs.Cuts.{cut_with, Slim}
use Rattle.build_sweep.specs.Adding.{Adding}
use Rattle.build_sweep.proofs.Sweeping.{add_bounded, add_slim, add_head, add_old}
use Rattle.build_page_sweep.specs.Going.{Due, Goes}

module _ (p limit budget : ℕ) (es fs : List Entry) (t : Tally) (g : Cut) where
  pub go_same : es ≡ fs → Goes p limit budget es t g fs t g
  go_same e all rest next h = subst (λ (x : List Entry). Adding all (x ++ rest) p next limit budget t g) e h

  module _ (u : Tally) (k : Cut) (m : Goes p limit budget es t g fs u k) where
    pub go_then : (hs : List Entry) (v : Tally) (l : Cut) → Goes p limit budget fs u k hs v l → Goes p limit budget es t g hs v l
    go_then hs v l n all rest next h = n all rest next (m all rest next h)

    pub due-on : Due p limit budget es t g → Due p limit budget fs u k
    due-on d = record { all = d.all; rest = d.rest; next = d.next; low = d.low; adds = m d.all d.rest d.next d.adds }

  -- what comes behind a part stays
  pub go_front : (u : Tally) (k : Cut) → Goes p limit budget es t g [] u k → Goes p limit budget (es ++ fs) t g fs u k
  go_front u k m all rest next h = m all (fs ++ rest) next (subst (λ (x : List Entry). Adding all x p next limit budget t g) (append_assoc es fs rest) h)

  pub due-front : Due p limit budget (es ++ fs) t g → Due p limit budget es t g
  due-front d =
      record {
        all = d.all;
        rest = fs ++ d.rest;
        next = d.next;
        low = d.low;
        adds = subst (λ (x : List Entry). Adding d.all x p d.next limit budget t g) (append_assoc es fs d.rest) d.adds;
      }

-- what the sums so far are bounded by
module _ (p limit budget : ℕ) (es : List Entry) (t : Tally) (g : Cut) (d : Due p limit budget es t g) where
  pub due-few : t.heads + t.olds ≤ max_entries
  due-few = d.adds.few

  pub due-bounded : Bounded t max_entries
  due-bounded = add_bounded d.all (es ++ d.rest) p d.next limit budget t g d.adds

  pub due_slim : Slim g
  due_slim = add_slim d.all (es ++ d.rest) p d.next limit budget t g d.adds d.low

-- one entry: a key of j bytes, a value of v, kept
module _ (p limit budget : ℕ) (e : Entry) (es : List Entry) (t : Tally) (g : Cut) (j v kept : ℕ) (ej : length e.key ≡ j) (ev : length e.val ≡ v) (ep : e.kept ≡ kept) (jh : j ≤ max_key) (vh : v ≤ max_value) (fw : t.heads + t.olds < max_entries) where
  pub go_head : e.old ≡ false → (u : Tally) → u ≡ with_head limit p t j v kept → Goes p limit budget (e ∷ es) t g es u g
  go_head q u eu all rest next h = add_head all (e ∷ (es ++ rest)) p next limit budget t g h e (es ++ rest) refl j v kept ej ev ep jh vh fw q u eu

  pub go_old : limit ≤ max_limit → budget ≤ max_budget → e.old ≡ true → (u : Tally) → u ≡ with_old limit t v kept → (k : Cut)
      → k ≡ cut_with budget g (12 + size_of false limit v + 4) (remote_len limit v kept) → Goes p limit budget (e ∷ es) t g es u k
  go_old lh bh q u eu k ek all rest next h = add_old all (e ∷ (es ++ rest)) p next limit budget t g h e (es ++ rest) refl j v kept ej ev ep jh vh fw lh bh q u eu k ek
