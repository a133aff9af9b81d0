-- `walks::key_old` meets its contract. Assumes nothing.
use native.Mathlib.Omega.{arith}
use mathlib.Core.Path.{sym, ◌∙◌}
use Rattle.walks.proofs.Lying.{fits-inside}
use Rattle.walks.specs.Aged.{key_old}
use Rattle.walks.proofs.key_old.Goals as goal

pub body_in-requires : goal.body_in-requires
body_in-requires c = let i = fits-inside c.args.s.now c.args.v 2 (sym c.fits.ensures ∙ c.if-fits.true) in
    omega (arith, i.records, i.payload, i.arena, c.well_formed)

pub key_at-requires : goal.key_at-requires
key_at-requires c = rw c.body_in.ensures (fits-inside c.args.s.now c.args.v 2 (sym c.fits.ensures ∙ c.if-fits.true))

pub returns-then-fits : goal.returns-then-fits
unfolding key_old
returns-then-fits c = simp (← c.fits.ensures, c.if-fits.true, ← c.body_in.ensures, c.key_at.ensures)

pub returns : goal.returns
unfolding key_old
returns c = simp (← c.fits.ensures, c.if-fits.false)
