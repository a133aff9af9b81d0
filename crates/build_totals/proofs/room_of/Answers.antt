use mathlib.Core.Path.{refl}
use Prim.Native.Nat.{◌+◌}
use lib.Dec.{eqb}
use borrow.Author.Tests.{eq-eqb, ne_eqb}
use Rattle.build_image.specs.Sizes.{room_of}
use Rattle.build_totals.proofs.room_of.Goals as goal

pub returns-then-pages-remotes-eq0 : goal.returns-then-pages-remotes-eq0
unfolding room_of
returns-then-pages-remotes-eq0 c = rw (eq-eqb (c.args.pages + c.args.remotes) 0 c.if-pages-remotes-eq0.true) refl

pub returns : goal.returns
unfolding room_of
returns c = rw (ne_eqb (c.args.pages + c.args.remotes) 0 c.if-pages-remotes-eq0.false) refl
