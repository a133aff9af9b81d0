-- The pen over pages: the entries in front of it, what is asked before old versions are written, and what a part of the entries leaves.
-- Assumes nothing.
use Rattle.std.specs.Prelude.{ℕ, ◌+◌, ◌-◌, ◌≤◌, ◌≡◌, List, [], ◌++◌, length, take}
use Rattle.frames.specs.declared.Addr.{Addr}
use Rattle.frames.specs.Limits.{max_entries}
use Rattle.build_sources.specs.Source.{Entry, olds}
use Rattle.build_image.specs.declared.Call.{Call}
use Rattle.build_image.specs.Image.{head_recs}
use Rattle.build_heads.specs.Located.{places_at}
use Rattle.build_pen.specs.declared.Pen.{Pen}
use Rattle.build_pen.specs.Stretches.{draws, Rising}
use Rattle.build_pen.specs.Pens.{pens_left, Steady, all_left, AllLaid}
use Rattle.law_rows.specs.Rows.{old_entries, leaf_entries}
use Rattle.build_page_ahead.specs.declared.Rest.{Rest}
use Rattle.build_page_pen.specs.declared.Penned.{Penned}

-- the entries of the heads that follow, and of a run of old versions and those
abbrev pub rest_entries : List ℕ → Rest → List Entry
rest_entries w r = leaf_entries w r.body (r.end - r.i) r.i ++ leaf_entries w r.then r.n 0

abbrev pub run_entries : List ℕ → List ℕ → ℕ → Addr → ℕ → Rest → List Entry
run_entries w key k a i r = old_entries w key k a i ++ rest_entries w r

-- the pen is ready for the old versions in front of it
pub record Ready (low : ℕ) (m : Call) (q : Pen) (es : List Entry) (long : ℕ) : Type 0 where
  pub steady : Steady m q (olds es)
  pub order : Rising low (pens_left m q (olds es) [] []) long
  pub few : length es ≤ max_entries

-- where the heads' records are going to end
abbrev pub recs_end : Call → ℕ → Penned → List Entry → ℕ
recs_end m p x es = x.nib.rec + length (head_recs m.limit p x.nib.remote (places_at m.limit m.budget x.pen.loc (olds es)) es)

-- the stretches that these entries take from here
abbrev pub left_of : Call → Penned → ℕ → ℕ → List Entry → List ℕ → List ℕ
left_of m x base p es a = draws a (all_left m x.pen x.nib x.hint base p es)

-- of the entries es₀ those before es have been written: finishing from there is finishing from the entry
pub record PartPenned (low : ℕ) (base : ℕ) (m : Call) (p : ℕ) (a : List ℕ) (x : Penned) (es₀ : List Entry) (a' : List ℕ) (y : Penned) (es : List Entry) : Type 0 where
  pub goes : left_of m y base p es a' ≡ left_of m x base p es₀ a
  pub laid : AllLaid low (length a') y.pen y.nib y.hint base m p es
  pub last : recs_end m p y es ≡ recs_end m p x es₀
  pub long : length a' ≡ length a
  pub same : take low a' ≡ take low a
