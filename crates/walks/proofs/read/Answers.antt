-- `walks::read` meets its contract. Assumes nothing.
use native.Mathlib.Omega.{arith}
use mathlib.Core.Path.{sym, ◌∙◌}
use Rattle.walks.specs.Walk.{read_at}
use Rattle.walks.proofs.Lying.{fits-inside}
use Rattle.walks.proofs.read.Goals as goal

pub body_in-requires : goal.body_in-requires
body_in-requires c = let i = fits-inside c.args.s.now c.args.v c.args.kind (sym c.fits.ensures ∙ c.if-fits.true) in
    omega (arith, i.records, i.payload, i.arena, c.well_formed)

pub rec_at-requires : goal.rec_at-requires
rec_at-requires c = rw c.body_in.ensures (fits-inside c.args.s.now c.args.v c.args.kind (sym c.fits.ensures ∙ c.if-fits.true))

pub returns-then-fits : goal.returns-then-fits
unfolding read_at
returns-then-fits c = simp (← c.fits.ensures, c.if-fits.true, ← c.body_in.ensures, c.rec_at.ensures)

pub returns : goal.returns
unfolding read_at
returns c = simp (← c.fits.ensures, c.if-fits.false)
