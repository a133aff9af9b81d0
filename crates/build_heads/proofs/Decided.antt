-- No second answer fits the contract of a public call.
-- Assumes nothing.
use mathlib.Core.Path.{◌≡◌, ◌∙◌, sym}
use mathlib.Core.List.{List}
use Prim.Native.Nat.{ℕ}
use contract.Lifetimes.{Lfts}
use denote.MutBor.{MutBor}
use denote.Ref.{Bor}
use denote.Triple.Clauses.{AtExit}
use Rattle.spans.specs.Only.{Decides, decides}
use Rattle.build_sources.specs.declared.Cursor.{Cursor}
use Rattle.build_sources.specs.Source.{entries}
use Rattle.build_image.specs.declared.Call.{Call}
use Rattle.build_image.specs.Sizes.{old_run}
use Rattle.build_heads.specs.contracts.old_run as run_fn
use Rattle.build_heads.proofs.old_run.Reads as run
use Rattle.build_heads.specs.contracts.head_recs as recs_fn
use Rattle.build_heads.proofs.head_recs.Reads as recs

pub old-run_decided : (κs : Lfts 2) (l w : Bor (List ℕ)) (c : Cursor) (x : AtExit run_fn.ended κs) → Decides (λ (r : ℕ). run.Post κs (l, (w, (c, tt))) r x) (λ (r : ℕ). r)
old-run_decided κs l w c x = decides (λ (r : ℕ). r) (old_run (entries l.now w.now c))

pub head_recs_decided : (κs : Lfts 2) (a : MutBor (List ℕ)) (footing : ℕ) (l : Bor (List ℕ)) (c : Cursor) (at p : ℕ) (m : Call) (first remote r r' : ℕ) (x x' : AtExit recs_fn.ended κs)
    → recs.Post κs (a, (footing, (l, (c, (at, (p, (m, (first, (remote, tt))))))))) r x → recs.Post κs (a, (footing, (l, (c, (at, (p, (m, (first, (remote, tt))))))))) r' x' → (r ≡ r') × (x.0.now ≡ x'.0.now)
head_recs_decided κs a footing l c at p m first remote r r' x x' h k = (h.0 ∙ sym k.0, h.1 ∙ sym k.1)
