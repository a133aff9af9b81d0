-- The history pages of a source: how many, and where they end.
-- Assumes nothing.
use Rattle.std.specs.Prelude.{ℕ, ◌+◌, List, length}
use Rattle.build_paging.specs.Cuts.{cuts_from, cuts}
use Rattle.build_sources.specs.Source.{Entry}
use Rattle.build_image.specs.Sizes.{costs_of}
use Rattle.build_image.specs.Image.{history_end}
use Rattle.build_sweep.specs.declared.Pages.{Pages}

unfoldable pub pages_of : ℕ → ℕ → ℕ → ℕ → List Entry → Pages
unfolding cuts_from costs_of history_end
pages_of limit budget n at os =
    record { count = n + length (cuts budget (costs_of limit os)); end = history_end limit at (cuts budget (costs_of limit os)) os }
