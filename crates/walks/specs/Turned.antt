-- Where the next old version stands, for the walk's code and for `aged_at`: a walk's definition, `next_old`, says the same in one piece.
-- Assumes nothing.
use Rattle.std.specs.Prelude.{List, cond, ℕ, eqb, Option, Some, None}
use Rattle.frames.specs.Layout.{null_addr}
use Rattle.pages.specs.Sound.{history_at}
use Rattle.walks.specs.declared.OldPlace.{OldPlace}
use Rattle.walks.specs.Walk.{older_on}
use Rattle.frames.specs.declared.Addr.{Addr}
use Rattle.frames.specs.declared.Body.{Body}

-- first in the page linked to, which is then named
abbrev pub turned_of : OldPlace → Option Body → Option (OldPlace × Addr)
turned_of p (Some b) = Some (older_on b 0 p.left, p.link)
turned_of p None = None

-- here, or behind the page's last slot
unfoldable pub turned_at : List ℕ → OldPlace → Option (OldPlace × Addr)
turned_at s p = cond (eqb p.slot p.page.elems) (turned_of p (history_at s p.link)) (Some (p, null_addr))
