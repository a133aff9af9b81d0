-- What a look ahead over pages is asked and answers.
-- Assumes nothing.
use Rattle.std.specs.Prelude.{ℕ, ◌-◌, ◌≤◌, ◌≡◌, List, ◌++◌}
use Rattle.frames.specs.declared.Addr.{Addr}
use Rattle.build_sources.specs.Source.{olds}
use Rattle.law_rows.specs.Rows.{old_entries, leaf_entries}
use Rattle.build_history.specs.declared.PageAhead.{PageAhead}
use Rattle.build_history.specs.Runs.{run_of}
use Rattle.build_rows.specs.Judged.{Judged}
use Rattle.build_rows.specs.Hand.{Known}
use Rattle.build_page_ahead.specs.declared.Rest.{Rest}
use Rattle.build_page_ahead.specs.declared.Filling.{Filling}
use Rattle.build_page_ahead.specs.Filled.{filled, Sized}

-- a page that fills up, and the history page in hand, or none
pub record Ready (w : List ℕ) (x : Filling) : Type 0 where
  pub known : Known w x.hand
  pub sized : Sized x.run

-- filled with n old versions from a slot on, whatever key's they are
abbrev pub FilledBy : List ℕ → ℕ → ℕ → PageAhead → ℕ → Addr → ℕ → PageAhead → Type 0
FilledBy w limit budget r n a i u = (key : List ℕ) → u ≡ filled limit budget r (old_entries w key n a i)

-- the heads that follow stand in judged leaves
pub record Follow (w : List ℕ) (z : Rest) : Type 0 where
  pub body : Judged w z.body 0
  pub then : Judged w z.then 0
  pub end : z.end ≤ z.body.elems
  pub n : z.n ≤ z.then.elems

-- the page that comes next, of n old versions from a slot on, whatever key's they are, and of those of the heads that follow
abbrev pub AheadBy : List ℕ → ℕ → ℕ → ℕ → Addr → ℕ → Rest → PageAhead → Type 0
AheadBy w limit budget n a i z r =
    (key : List ℕ) → r ≡ run_of limit budget (olds (old_entries w key n a i ++ (leaf_entries w z.body (z.end - z.i) z.i ++ leaf_entries w z.then z.n 0)))
