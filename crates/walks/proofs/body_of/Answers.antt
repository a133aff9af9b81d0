-- `walks::body_of` meets its contract. Assumes nothing.
use native.Mathlib.Omega.{arith}
use mathlib.Core.Path.{sym, ◌∙◌}
use Rattle.walks.specs.Walk.{body_of}
use Rattle.walks.proofs.Lying.{fits-inside}
use Rattle.walks.proofs.body_of.Goals as goal

pub body_in-requires : goal.body_in-requires
body_in-requires c = let i = fits-inside c.args.s.now c.args.v c.args.kind (sym c.fits.ensures ∙ c.if-fits.true) in
    omega (arith, i.records, i.payload, i.arena, c.well_formed)

pub returns-then-fits : goal.returns-then-fits
unfolding body_of
returns-then-fits c = simp (← c.fits.ensures, c.if-fits.true, ← c.body_in.ensures)

pub returns : goal.returns
unfolding body_of
returns c = simp (← c.fits.ensures, c.if-fits.false)
