-- No second answer fits the contract of the crate's two calls that decide a build's history: the page with what is left behind it, and the
-- end with the arena afterwards.
-- Assumes nothing.
use mathlib.Core.Path.{◌≡◌, ◌∙◌, sym, ap}
use mathlib.Core.List.{List}
use Prim.Native.Nat.{ℕ}
use mathlib.Core.Bool.{true}
use lib.ListN.{drop}
use contract.Lifetimes.{Lfts}
use denote.MutBor.{MutBor}
use denote.Ref.{Bor}
use denote.Triple.Clauses.{AtExit}
use Rattle.build_sources.specs.declared.Cursor.{Cursor}
use Rattle.build_sources.specs.Source.{entries, only}
use Rattle.build_image.specs.declared.Call.{Call}
use Rattle.build_history.specs.declared.PageAhead.{PageAhead}
use Rattle.build_history.specs.declared.Look.{Look}
use Rattle.build_history.specs.contracts.look_ahead as look_fn
use Rattle.build_history.proofs.look_ahead.Reads as look
use Rattle.build_history.specs.contracts.save_hist_regions as save_fn
use Rattle.build_history.proofs.save_hist_regions.Reads as save

pub look_ahead_decided : (κs : Lfts 2) (l w : Bor (List ℕ)) (c : Cursor) (limit budget : ℕ) (x : AtExit look_fn.ended κs)
    → (r r' : Look) → look.Post κs (l, (w, (c, (limit, (budget, tt))))) r x → look.Post κs (l, (w, (c, (limit, (budget, tt))))) r' x
    → (r.run ≡ r'.run) × (only true (entries l.now w.now r.rest) ≡ only true (entries l.now w.now r'.rest))
look_ahead_decided κs l w c limit budget x r r' h k =
    let e : r.run ≡ r'.run = h.0 ∙ sym k.0 in
    (e, h.1.list ∙ ap (λ (q : PageAhead). drop q.count (only true (entries l.now w.now c))) e ∙ sym k.1.list)

pub save_decided : (κs : Lfts 2) (a : MutBor (List ℕ)) (footing : ℕ) (l : Bor (List ℕ)) (c : Cursor) (at : ℕ) (m : Call) (r r' : ℕ) (x x' : AtExit save_fn.ended κs)
    → save.Post κs (a, (footing, (l, (c, (at, (m, tt)))))) r x → save.Post κs (a, (footing, (l, (c, (at, (m, tt)))))) r' x' → (r ≡ r') × (x.0.now ≡ x'.0.now)
save_decided κs a footing l c at m r r' x x' h k = (h.0 ∙ sym k.0, h.1 ∙ sym k.1)
