-- A history page that fills up with one entry after another, until one does not fit.
-- Assumes nothing.
use Rattle.std.specs.Prelude.{ℕ, ◌+◌, ◌*◌, ◌≤◌, ◌≡◌, List, [], ◌∷◌, Bool, true, false, cond, length}
use Rattle.frames.specs.Layout.{base_len}
use Rattle.frames.specs.Limits.{max_budget}
use Rattle.build_paging.specs.Cuts.{fits}
use Rattle.build_sources.specs.Source.{Entry}
use Rattle.build_image.specs.Sizes.{remote_len, cost}
use Rattle.build_history.specs.declared.PageAhead.{PageAhead}

-- a page of n old versions, t long, its remote frames f; whether more are left
abbrev pub page_of : ℕ → ℕ → ℕ → Bool → PageAhead
page_of n t f b = record { count = n; size = t; remote = f; more = b }

-- with an old version: taken where it fits
unfoldable pub page_with : ℕ → ℕ → PageAhead → Entry → PageAhead
unfolding fits cost remote_len
page_with limit budget r e =
    cond (fits budget r.count r.size (cost limit e)) (page_of (r.count + 1) (r.size + cost limit e) (r.remote + remote_len limit (length e.val) e.kept) false)
    (page_of r.count r.size r.remote true)

-- with an entry: a full page takes none, and none takes a head
unfoldable pub with_entry : ℕ → ℕ → PageAhead → Entry → PageAhead
unfolding page_with
with_entry limit budget r e = cond r.more r (cond e.old (page_with limit budget r e) r)

-- with some entries, one by one
unfoldable pub filled : ℕ → ℕ → PageAhead → List Entry → PageAhead
unfolding with_entry
filled limit budget r [] = r
filled limit budget r (e ∷ es) = filled limit budget (with_entry limit budget r e) es

-- how large it can be: one that is too large alone has its own page
pub record Sized (r : PageAhead) : Type 0 where
  pub small : r.size ≤ max_budget
  pub many : 21 * r.count + base_len ≤ r.size
  pub first : r.count ≡ 0 → r.size ≡ base_len
  pub away : r.remote ≤ 65600 * r.count
