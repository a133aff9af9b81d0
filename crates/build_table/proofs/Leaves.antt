-- Leaves judged page by page: what the sweeps add up is what the table says of all entries.
-- Assumes nothing.
use Prim.Native.Nat.{ℕ, ◌+◌, ◌-◌, ◌≤◌, ◌<◌}
use mathlib.Core.Path.{◌≡◌, refl, sym, ap, subst, ◌∙◌}
use mathlib.Core.List.{List, [], ◌++◌, append-nil}
use native.Mathlib.Omega.{arith}
use lib.ListN.{length}
use Rattle.frames.specs.declared.Body.{Body}
use Rattle.frames.specs.Limits.{max_entries}
use Rattle.frames.specs.declared.Refusal.TheVariants.{TooBig}
use Rattle.build_sources.specs.Source.{Entry}
use Rattle.build_image.specs.declared.Call.{Call}
use Rattle.build_bounds.specs.declared.Boundaries.{Boundaries}
use Rattle.build_bounds.specs.Boundaries.{bounds_of}
use Rattle.law_rows.specs.Rows.{leaf_entries}
use Rattle.build_sweep.specs.declared.Tally.{Tally}
use Rattle.build_sweep.specs.declared.Pages.{Pages}
use Rattle.build_sweep.specs.declared.Cut.{Cut}
use Rattle.build_sweep.specs.Tally.{nothing}
use Rattle.build_sweep.specs.Cuts.{begun, closed_of, Slim}
use Rattle.build_sweep.specs.Adding.{Adding, Summed}
use Rattle.build_sweep.proofs.Sweeping.{add_begin, add_slim, add-end}
use Rattle.build_page_sweep.specs.Going.{Due, Goes, Over}
use Rattle.build_page_sweep.specs.Sweeps.{PageSweptBy}
use Rattle.build_table.specs.Leaf.{leaf_verdict, weighed}
use Rattle.build_table.specs.Pages.{in_leaves, Leaves}
use Rattle.build_table.proofs.Leafing.{leaf_many, leaf_weighed}
use Rattle.std.proofs.Common.{Option, Some, None, Result, Err}
use Rattle.build_totals.specs.declared.Totals.{Totals}
use Rattle.frames.specs.declared.Refusal.{Refusal}

pub swept_fits : (w : List ℕ) (b : Body) (from end p limit budget : ℕ) (t : Tally) (g : Cut) (r : Option (Tally × Cut)) (u : Tally) (k : Cut) → PageSweptBy w b from end p limit budget t g r → r ≡ Some (u, k)
    → Goes p limit budget (leaf_entries w b (end - from) from) t g [] u k
swept_fits w b from end p limit budget t g r u k h e = rw e at h

pub swept_many : (w : List ℕ) (b : Body) (from end p limit budget : ℕ) (t : Tally) (g : Cut) (r : Option (Tally × Cut)) → PageSweptBy w b from end p limit budget t g r → r ≡ None
    → Over p limit budget (leaf_entries w b (end - from) from) t g
swept_many w b from end p limit budget t g r h e = rw e at h

module _ (o w : List ℕ) (b : Body) (from end : ℕ) (d : Body) (n len next : ℕ) (m : Call) (e : Boundaries) (l : Leaves o w b from end d n e (in_leaves w b from end d n)) (low : next ≤ 9223372036854775807) where
  abbrev es : List Entry
  es = in_leaves w b from end d n

  abbrev right : List Entry
  right = leaf_entries w d n 0

  abbrev Adds : List Entry → Tally → Cut → Type 0
  Adds rest t g = Adding es rest e.prefix next m.limit m.budget t g

  first : Adds es nothing (begun next)
  first = add_begin es e.prefix next m.limit m.budget

  pub due-first : Due e.prefix m.limit m.budget (leaf_entries w b (end - from) from) nothing (begun next)
  due-first = record { all = es; rest = right; next = next; low = low; adds = first }

  too_many : max_entries < length es → Err TooBig ≡ leaf_verdict len next m (bounds_of o o w e) es
  too_many q = leaf_many m o o w e l.held len next es l.rises l.inside (length es) refl q

  pub many-first : Over e.prefix m.limit m.budget (leaf_entries w b (end - from) from) nothing (begun next) → Err TooBig ≡ leaf_verdict len next m (bounds_of o o w e) es
  many-first x = too_many (x es right next first)

  module _ (t : Tally) (g : Cut) (k : Goes e.prefix m.limit m.budget (leaf_entries w b (end - from) from) nothing (begun next) [] t g) where
    second : Adds right t g
    second = k es right next first

    right_is : right ≡ leaf_entries w d (n - 0) 0 ++ []
    right_is =
        let z : n ≡ n - 0 = omega arith in
        ap (λ (j : ℕ). leaf_entries w d j 0) z ∙ sym (append-nil (leaf_entries w d (n - 0) 0))

    second-due : Adds (leaf_entries w d (n - 0) 0 ++ []) t g
    second-due = subst (λ (xs : List Entry). Adds xs t g) right_is second

    pub due-second : Due e.prefix m.limit m.budget (leaf_entries w d (n - 0) 0) t g
    due-second = record { all = es; rest = []; next = next; low = low; adds = second-due }

    pub many-second : Over e.prefix m.limit m.budget (leaf_entries w d (n - 0) 0) t g → Err TooBig ≡ leaf_verdict len next m (bounds_of o o w e) es
    many-second x = too_many (x es [] next second-due)

    module _ (u : Tally) (h : Cut) (q : Goes e.prefix m.limit m.budget (leaf_entries w d (n - 0) 0) t g [] u h) where
      third : Adds [] u h
      third = q es [] next second-due

      pub third_slim : Slim h
      third_slim = add_slim es [] e.prefix next m.limit m.budget u h third low

      module _ (r : Pages) (er : r ≡ closed_of h) where
        pub summed : Summed es e.prefix next m.limit m.budget u r
        summed = add-end es [] e.prefix next m.limit m.budget u h third refl r er

        pub leaves-weighed : (v : Result Totals Refusal) → v ≡ weighed len e.lo.len e.hi.len u r → v ≡ leaf_verdict len next m (bounds_of o o w e) es
        leaves-weighed v ev =
            ev ∙ leaf_weighed m o o w e l.held len next es l.rises l.inside (length es) refl summed.few u summed.tally r summed.pages
