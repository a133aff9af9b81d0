-- The history of a source: what a look ahead finds, and the image's pages as its passes write them.
-- Assumes nothing.
use Rattle.std.specs.Prelude.{ℕ, ◌≤◌, List, [], ◌∷◌, Bool, true, false, cond, take, drop}
use Rattle.frames.specs.Limits.{max_budget, max_limit}
use Rattle.build_paging.specs.Cuts.{taken, cuts, first_cut}
use Rattle.build_sources.specs.declared.Cursor.{Cursor}
use Rattle.build_sources.specs.Source.{Entry, entries, only}
use Rattle.build_image.specs.declared.Call.{Call}
use Rattle.build_image.specs.Sizes.{costs_of, remotes_len}
use Rattle.build_image.specs.Image.{hist_size, hist_page, page_end, history, history_end}
use Rattle.build_history.specs.declared.PageAhead.{PageAhead}

-- what number 1 allows
pub record Sane (m : Call) : Type 0 where
  pub limit : m.limit ≤ max_limit
  pub budget : m.budget ≤ max_budget

-- the first n of one kind of entries from a cursor on, in a slice or in an arena below an address
abbrev pub these : List ℕ → List ℕ → ℕ → Bool → Cursor → ℕ → List Entry
these l a footing b c n = take n (only b (entries l (take footing a) c))

-- whether any are left
abbrev pub any : List Entry → Bool
any [] = false
any (e ∷ es) = true

-- the page that takes the first k
abbrev pub run_at : ℕ → ℕ → List Entry → PageAhead
run_at limit k os = record { count = k; size = hist_size limit (take k os); remote = remotes_len limit (take k os); more = any (drop k os) }

-- the first page of these old versions
unfoldable pub run_of : ℕ → ℕ → List Entry → PageAhead
unfolding taken costs_of
run_of limit budget os = run_at limit (first_cut budget (costs_of limit os)) os

-- the page that a look ahead told of
abbrev pub run_page : Call → ℕ → PageAhead → List Entry → List ℕ
run_page m at r os = hist_page m at (cond r.more (page_end m.limit at (take r.count os)) 0) (take r.count os)

abbrev pub history_at : Call → ℕ → List Entry → List ℕ
history_at m at os = history m at (cuts m.budget (costs_of m.limit os)) os

abbrev pub history_end_at : Call → ℕ → List Entry → ℕ
history_end_at m at os = history_end m.limit at (cuts m.budget (costs_of m.limit os)) os
