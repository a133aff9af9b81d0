-- `frames::any_at` meets its contract. Assumes nothing.
use native.Mathlib.Omega.{arith}
use mathlib.Core.Path.{sym, ◌∙◌}
use Rattle.frames.specs.Layout.{open_at}
use Rattle.frames.proofs.Frames.{page_sizes}
use Rattle.frames.proofs.any_at.Goals as goal

pub returns-in_default : goal.returns-in_default
unfolding open_at
returns-in_default c = simp (← c.at.ensures, c.in_default.is)

pub body_of-requires : goal.body_of-requires
body_of-requires c =
    let z = page_sizes c.args.s.now c.args.a c.in-Some.x c.in-Some.h (sym c.at.ensures ∙ c.in-Some.is) in
    record { payload_size_bound = omega (arith, z, c.well_formed); size_bound = omega (arith, z, c.well_formed); hi_len_bound = omega (arith, z, c.well_formed) }

pub returns : goal.returns
unfolding open_at
returns c = simp (← c.at.ensures, c.in-Some.is, c.body_of.ensures)
