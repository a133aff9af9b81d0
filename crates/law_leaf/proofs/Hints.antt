-- Hints that lie behind a page's size fit its payload, and both lists are read back.
-- Assumes nothing.
use Prim.Native.Nat.{ℕ, ◌+◌, ◌*◌, ◌-◌, ◌^◌, ◌≤◌, ◌<◌}
use mathlib.Core.Path.{◌≡◌, refl}
use mathlib.Core.Bool.{Bool, true, false}
use mathlib.Core.List.{List, ◌++◌}
use native.Mathlib.Omega.{arith}
use borrow.Author.Tests.{le-leb, eq-eqb, ne_eqb, eqb-true, eqb-false}
use lib.ListN.{length, replicate}
use lib.Dec.{eqb}
use Rattle.spans.specs.Span.{Lies}
use Rattle.spans.proofs.Lying.{lies_front, lies_back}
use Rattle.numbers.specs.Number.{le, le_at}
use Rattle.numbers.proofs.Numbers.{length-le, lies_le}
use Rattle.frames.specs.declared.Addr.{Addr}
use Rattle.frames.specs.declared.Body.{Body}
use Rattle.frames.specs.Layout.{open_at}
use Rattle.pages.specs.Sound.{hints_ok}
use Rattle.pages.specs.HintsAt.{hints_of, history_hints_at, remote_hints_at}
use Rattle.build_image.specs.Image.{les, hints}
use Rattle.build_image.proofs.Leaf.{length-les}
use Rattle.std.proofs.Common.{Some}

module _ (s : List ℕ) (b : Body) (room : ℕ) (ps rs : List ℕ) (tail : b.tail ≡ b.end + room) (small : room < 256 ^ 4) (fits : eqb room 0 ≡ false → 8 + 8 * length ps + 8 * length rs ≤ room) (lies : Lies s b.end (hints room ps rs)) where
  abbrev rest : List ℕ
  rest = les 8 rs ++ replicate (room - (8 + 8 * length ps + 8 * length rs)) 0

  -- where there is room, both counts are read back, and their addresses stand behind them
  module _ (q : eqb room 0 ≡ false) where
    whole : Lies s b.end (le 4 (length ps) ++ (les 8 ps ++ (le 4 (length rs) ++ rest)))
    unfolding hints
    whole = rw q at lies

    pub count-pages : le_at 4 s b.end ≡ length ps
    count-pages = lies_le s b.end 4 (length ps) (omega (arith, fits q)) (lies_front s b.end (le 4 (length ps)) (les 8 ps ++ (le 4 (length rs) ++ rest)) whole)

    pages-on : Lies s (b.end + 4) (les 8 ps ++ (le 4 (length rs) ++ rest))
    pages-on = rw (length-le 4 (length ps)) at (lies_back s b.end (le 4 (length ps)) (les 8 ps ++ (le 4 (length rs) ++ rest)) whole)

    pub pages_lie : Lies s (b.end + 4) (les 8 ps)
    pages_lie = lies_front s (b.end + 4) (les 8 ps) (le 4 (length rs) ++ rest) pages-on

    count-on : Lies s (b.end + 4 + 8 * length ps) (le 4 (length rs) ++ rest)
    count-on = rw (length-les ps) at (lies_back s (b.end + 4) (les 8 ps) (le 4 (length rs) ++ rest) pages-on)

    pub count-remotes : le_at 4 s (b.end + 4 + 8 * length ps) ≡ length rs
    count-remotes = lies_le s (b.end + 4 + 8 * length ps) 4 (length rs) (omega (arith, fits q)) (lies_front s (b.end + 4 + 8 * length ps) (le 4 (length rs)) rest count-on)

    pub remotes_lie : Lies s (b.end + 4 + 8 * length ps + 4) (les 8 rs)
    remotes_lie =
        let l : Lies s (b.end + 4 + 8 * length ps + 4) rest = rw (length-le 4 (length rs)) at (lies_back s (b.end + 4 + 8 * length ps) (le 4 (length rs)) rest count-on) in
        lies_front s (b.end + 4 + 8 * length ps + 4) (les 8 rs) (replicate (room - (8 + 8 * length ps + 8 * length rs)) 0) l

    pub tail_behind : b.tail ≡ b.end → ⊥
    tail_behind z = eqb-false room 0 q (omega arith)

    some : hints_ok s b ≡ true
    unfolding hints_ok
    some =
        let f : 8 + 8 * length ps + 8 * length rs ≤ room = fits q in
        rw (
          ne_eqb b.tail b.end tail_behind,
          le-leb (b.end + 4) b.tail (omega arith),
          count-pages,
          le-leb (b.end + 4 + 8 * length ps + 4) b.tail (omega arith),
          count-remotes,
          le-leb (b.end + 4 + 8 * length ps + 4 + 8 * length rs) b.tail (omega arith),
        )
        refl

  none : eqb room 0 ≡ true → hints_ok s b ≡ true
  unfolding hints_ok
  none q = rw (eq-eqb b.tail b.end (omega (arith, eqb-true room 0 q))) refl

  pub hints_back : hints_ok s b ≡ true
  hints_back = go (eqb room 0) refl
    where
      go : (t : Bool) → eqb room 0 ≡ t → hints_ok s b ≡ true
      go true q = none q
      go false q = some q

  -- ---- the hint readers: each list's place and count

  module _ (a : Addr) (opened : open_at s a ≡ Some b) (kind : b.kind ≡ 0) (zero_room : eqb room 0 ≡ true → (length ps ≡ 0) × (length rs ≡ 0)) where
    pub history-hints : history_hints_at s a ≡ hints_of (b.end + 4) (length ps)
    unfolding history_hints_at hints_of
    history-hints = go (eqb room 0) refl
      where
        go : (t : Bool) → eqb room 0 ≡ t → history_hints_at s a ≡ hints_of (b.end + 4) (length ps)
        go true q = rw (opened, eq-eqb b.kind 0 kind, hints_back, eq-eqb b.tail b.end (omega (arith, eqb-true room 0 q)), (zero_room q).0) refl
        go false q = rw (opened, eq-eqb b.kind 0 kind, hints_back, ne_eqb b.tail b.end (tail_behind q), count-pages q) refl

    pub remote-hints : remote_hints_at s a ≡ hints_of (b.end + 4 + 8 * length ps + 4) (length rs)
    unfolding remote_hints_at hints_of
    remote-hints = go (eqb room 0) refl
      where
        go : (t : Bool) → eqb room 0 ≡ t → remote_hints_at s a ≡ hints_of (b.end + 4 + 8 * length ps + 4) (length rs)
        go true q = rw (opened, eq-eqb b.kind 0 kind, hints_back, eq-eqb b.tail b.end (omega (arith, eqb-true room 0 q)), (zero_room q).1) refl
        go false q = rw (opened, eq-eqb b.kind 0 kind, hints_back, ne_eqb b.tail b.end (tail_behind q), count-pages q, count-remotes q) refl
