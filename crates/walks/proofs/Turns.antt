-- The next old version stands where the walk turns to.
-- Assumes nothing.
use Prim.Native.Nat.{ℕ}
use mathlib.Core.Path.{◌≡◌, refl, sym, ap, ◌∙◌}
use mathlib.Core.Bool.{Bool, true, false, cond}
use mathlib.Core.List.{List}
use native.Mathlib.Omega.{arith}
use lib.Dec.{eqb}
use Rattle.frames.specs.declared.Addr.{Addr}
use Rattle.frames.specs.Layout.{addr}
use Rattle.pages.specs.declared.Place.{Place}
use Rattle.pages.specs.Sound.{history_at}
use Rattle.walks.specs.declared.OldPlace.{OldPlace}
use Rattle.walks.specs.Walk.{next_in, next_link, next_old}
use Rattle.walks.specs.Turned.{turned_of, turned_at}
use Rattle.std.proofs.Common.{Option, Some, None}
use Rattle.frames.specs.declared.Body.{Body}
use Rattle.walks.specs.declared.Item.{Item}

abbrev pub from : List ℕ → Place → Option (OldPlace × Addr) → Option (Item × OldPlace)
from s key (Some (p, a)) = next_in s key p a
from s key None = None

linked : (s : List ℕ) (key : Place) (p : OldPlace) (o : Option Body) → next_link s key p.left p.link o ≡ from s key (turned_of p o)
linked s key p (Some b) = refl
linked s key p None = refl

pub next-from : (s : List ℕ) (key : Place) (p : OldPlace) → next_old s key p ≡ from s key (turned_at s p)
unfolding next_old turned_at
next-from s key p = go (eqb p.slot p.page.elems)
  where
    go : (t : Bool) → cond t (next_link s key p.left p.link (history_at s p.link)) (next_in s key p (addr 0)) ≡ from s key (cond t (turned_of p (history_at s p.link)) (Some (p, addr 0)))
    go true = linked s key p (history_at s p.link)
    go false = refl

abbrev left_in : Option (OldPlace × Addr) → ℕ → ℕ
left_in (Some (p, a)) n = p.left
left_in None n = n

linked-left : (p : OldPlace) (o : Option Body) → left_in (turned_of p o) p.left ≡ p.left
linked-left p (Some b) = refl
linked-left p None = refl

-- as many are left
pub turned_left : (s : List ℕ) (p q : OldPlace) (a : Addr) → turned_at s p ≡ Some (q, a) → q.left ≡ p.left
unfolding turned_at
turned_left s p q a e = sym (ap (λ (t : Option (OldPlace × Addr)). left_in t p.left) e) ∙ go (eqb p.slot p.page.elems)
  where
    go : (t : Bool) → left_in (cond t (turned_of p (history_at s p.link)) (Some (p, addr 0))) p.left ≡ p.left
    go true = linked-left p (history_at s p.link)
    go false = refl
