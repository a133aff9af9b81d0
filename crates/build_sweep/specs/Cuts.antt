-- History pages as a fold over the old versions: pages that are closed, where the next stands, and the page under way.
-- Assumes nothing.
use Rattle.std.specs.Prelude.{ℕ, ◌+◌, ◌*◌, ◌≤◌, ◌≡◌, List, [], ◌∷◌, cond, length, eqb}
use Rattle.frames.specs.Layout.{base_len, frame_len}
use Rattle.frames.specs.Limits.{max_budget, max_entries}
use Rattle.build_paging.specs.Cuts.{fits}
use Rattle.build_sources.specs.Source.{Entry}
use Rattle.build_image.specs.Sizes.{remote_len, cost}
use Rattle.build_sweep.specs.declared.Pages.{Pages}
use Rattle.build_sweep.specs.declared.Cut.{Cut}

abbrev pub begun : ℕ → Cut
begun at = record { pages = 0; to = at; count = 0; size = base_len; remote = 0 }

-- one more of size s, with a remote frame of f bytes, in the page under way
abbrev pub cut_more : Cut → ℕ → ℕ → Cut
cut_more g s f = record { pages = g.pages; to = g.to; count = g.count + 1; size = g.size + s; remote = g.remote + f }

-- the page under way is closed, and a next one begins with it
abbrev pub cut_next : Cut → ℕ → ℕ → Cut
cut_next g s f = record { pages = g.pages + 1; to = g.to + frame_len g.size + g.remote; count = 1; size = base_len + s; remote = f }

unfoldable pub cut_with : ℕ → Cut → ℕ → ℕ → Cut
unfolding fits
cut_with budget g s f = cond (fits budget g.count g.size s) (cut_more g s f) (cut_next g s f)

-- the last page is closed
unfoldable pub closed_of : Cut → Pages
closed_of g =
    cond (eqb g.count 0) (record { count = g.pages; end = g.to }) (record { count = g.pages + 1; end = g.to + frame_len g.size + g.remote })

unfoldable pub pages_from : ℕ → ℕ → Cut → List Entry → Pages
unfolding cut_with closed_of cost remote_len
pages_from limit budget g [] = closed_of g
pages_from limit budget g (e ∷ es) = pages_from limit budget (cut_with budget g (cost limit e) (remote_len limit (length e.val) e.kept)) es

-- how large it can be: j old versions are counted, the first page stands at `at`
pub record Near (at j : ℕ) (g : Cut) : Type 0 where
  pub many : g.pages + g.count ≤ j
  pub to : g.to + 65583 * g.count ≤ at + 131112 * g.pages + 65583 * j
  pub remote : g.remote ≤ 65583 * g.count
  pub size : g.size ≤ max_budget
  pub first : g.count ≡ 0 → g.size ≡ base_len

-- what a step asks
pub record Slim (g : Cut) : Type 0 where
  pub pages : g.pages ≤ max_entries
  pub count : g.count ≤ max_entries
  pub to : g.to ≤ 9223372049745510307
  pub remote : g.remote ≤ 4297981905
  pub size : g.size ≤ max_budget
