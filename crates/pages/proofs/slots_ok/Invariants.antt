-- `pages::slots_ok` meets its contract. Assumes nothing.
use Prim.Native.Nat.{◌+◌, ◌-◌, ◌≤◌}
use mathlib.Core.Path.{◌≡◌}
use lib.ListN.{length}
use Rattle.pages.specs.Sound.{slots_from, slots_ok}
use Rattle.pages.proofs.slots_ok.Given as goal

abbrev pub invariant-loop-i : goal.invariant-loop-i
invariant-loop-i l = (l.la + l.ln ≤ length l.s) × (slots_ok l.s l.b ≡ slots_from l.s l.b (l.b.elems - l.i) l.i l.want l.la l.ln)
