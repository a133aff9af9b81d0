-- `pages::chain` meets its contract. Assumes nothing.
use Prim.Native.Nat.{◌-◌, ◌≤◌}
use mathlib.Core.Path.{◌≡◌}
use Rattle.pages.specs.Sound.{chain_from}
use Rattle.pages.specs.Hand.{Held}
use Rattle.pages.proofs.chain.Given as goal

abbrev pub invariant-loop : goal.invariant-loop
invariant-loop l = Held l.s l.hand × (l.slot ≤ l.hand.elems) × (chain_from l.s l.n l.initial.hand.page l.i l.initial.ver ≡ chain_from l.s (l.n - l.counter) l.hand.page l.slot l.ver)
