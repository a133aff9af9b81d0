-- The sums of a sweep under way: finishing from here gives the answer. `rest` is the last part of the entries `all`; history pages stand from `next` on.
-- Assumes nothing.
use Rattle.std.specs.Prelude.{ℕ, ◌+◌, ◌≤◌, ◌≡◌, List, true, length}
use Rattle.frames.specs.Limits.{max_entries}
use Rattle.build_sources.specs.Source.{Entry, only}
use Rattle.build_sweep.specs.declared.Tally.{Tally}
use Rattle.build_sweep.specs.declared.Pages.{Pages}
use Rattle.build_sweep.specs.declared.Cut.{Cut}
use Rattle.build_sweep.specs.Tally.{nothing, tally_of}
use Rattle.build_sweep.specs.Pages.{pages_of}
use Rattle.build_sweep.specs.Bounds.{Bounded}
use Rattle.build_sweep.specs.Cuts.{pages_from, Near}

pub record Adding (all rest : List Entry) (p next limit budget : ℕ) (t : Tally) (g : Cut) : Type 0 where
  pub tally : tally_of limit p t rest ≡ tally_of limit p nothing all
  pub pages : pages_from limit budget g (only true rest) ≡ pages_of limit budget 0 next (only true all)
  pub count : t.heads + t.olds + length rest ≡ length all
  pub few : t.heads + t.olds ≤ max_entries
  pub bounded : Bounded t (t.heads + t.olds)
  pub near : Near next t.olds g

-- what is summed up at the end
pub record Summed (all : List Entry) (p next limit budget : ℕ) (t : Tally) (g : Pages) : Type 0 where
  pub tally : t ≡ tally_of limit p nothing all
  pub pages : g ≡ pages_of limit budget 0 next (only true all)
  pub few : length all ≤ max_entries
  pub bounded : Bounded t max_entries
  pub end : g.end ≤ next + 12890734500
  pub count : g.count ≤ max_entries
