-- Sums that go on over a part of the entries, whatever list it is a part of and whatever follows it.
-- Assumes nothing.
use Rattle.std.specs.Prelude.{ℕ, ◌≤◌, ◌<◌, List, ◌++◌, length}
use Rattle.frames.specs.Limits.{max_entries}
use Rattle.build_sources.specs.Source.{Entry}
use Rattle.build_sweep.specs.declared.Tally.{Tally}
use Rattle.build_sweep.specs.declared.Cut.{Cut}
use Rattle.build_sweep.specs.Adding.{Adding}

-- the entries es come next in some list, behind those that t and g sum up
pub record Due (p limit budget : ℕ) (es : List Entry) (t : Tally) (g : Cut) : Type 0 where
  pub all : List Entry
  pub rest : List Entry
  pub next : ℕ
  pub low : next ≤ 9223372036854775807
  pub adds : Adding all (es ++ rest) p next limit budget t g

-- where es come next with the sums t and g, fs come next with u and k once the entries between them are added
abbrev pub Goes : ℕ → ℕ → ℕ → List Entry → Tally → Cut → List Entry → Tally → Cut → Type 0
Goes p limit budget es t g fs u k = (all rest : List Entry) (next : ℕ) → Adding all (es ++ rest) p next limit budget t g → Adding all (fs ++ rest) p next limit budget u k

-- where es come next, the list has more entries than a page takes
abbrev pub Over : ℕ → ℕ → ℕ → List Entry → Tally → Cut → Type 0
Over p limit budget es t g = (all rest : List Entry) (next : ℕ) → Adding all (es ++ rest) p next limit budget t g → max_entries < length all
