-- What the totals tell.
-- Assumes nothing.
use mathlib.Core.Path.{◌≡◌, refl}
use mathlib.Core.List.{List, [], ◌∷◌, ◌++◌}
use mathlib.Core.Bool.{Bool, true, false, not, cond}
use Prim.Native.Nat.{ℕ, suc, ◌+◌, ◌-◌, ◌≤◌}
use native.Mathlib.Omega.{arith}
use lib.ListN.{length}
use Rattle.frames.specs.Layout.{frame_len}
use Rattle.build_sources.specs.Source.{Entry, only, olds, heads}
use Rattle.build_image.specs.declared.Call.{Call}
use Rattle.build_image.specs.Sizes.{remotes_len}
use Rattle.build_image.specs.Image.{hist_addrs, remote_addrs, history_end, Borders, leaf_size, leaf_room, cuts_of}
use Rattle.build_totals.specs.declared.Totals.{Totals}
use Rattle.build_totals.specs.Totals.{leaf_at, remote_at, remotes_of, totals_of}

-- ---- the totals

pub record Measured (m : Call) (b : Borders) (first : ℕ) (es : List Entry) (t : Totals) : Type 0 where
  pub count : t.heads ≡ length (heads es)
  pub olds : t.olds ≡ length (only true es)
  pub pages : t.pages ≡ length (cuts_of m es)
  pub remotes : t.remotes ≡ length (hist_addrs m.limit first (cuts_of m es) (only true es) ++ remote_addrs m.limit (history_end m.limit first (cuts_of m es) (only true es) + frame_len (t.size + t.room)) (heads es))
  pub aged : t.aged ≡ length (hist_addrs m.limit first (cuts_of m es) (only true es))
  pub size : t.size ≡ leaf_size m b es
  pub room : t.room ≡ leaf_room m es
  pub leaf : t.leaf ≡ history_end m.limit first (cuts_of m es) (only true es)
  pub end : t.end ≡ t.leaf + frame_len (t.size + t.room) + remotes_len m.limit (heads es)

pub measured : (m : Call) (b : Borders) (first : ℕ) (es : List Entry) (t : Totals) → t ≡ totals_of m b first es → Measured m b first es t
unfolding totals_of remotes_of remote_at leaf_at
measured m b first es t e = rw e (record { count = refl; olds = refl; pages = refl; remotes = refl; aged = refl; size = refl; room = refl; leaf = refl; end = refl })

pub few-heads : (es : List Entry) → length (heads es) ≤ length es
unfolding only
few-heads [] = omega arith
few-heads (e ∷ es) = go e.old (few-heads es)
  where
    go : (b : Bool) → length (heads es) ≤ length es → length (cond (not b) (e ∷ heads es) (heads es)) ≤ suc (length es)
    go true h = omega arith
    go false h = omega arith

-- nine parts, regrouped
