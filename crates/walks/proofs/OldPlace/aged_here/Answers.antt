-- `walks::OldPlace::aged_here` meets its contract. Assumes nothing.
use native.Mathlib.Omega.{arith}
use mathlib.Core.Path.{sym, ◌∙◌}
use Rattle.walks.specs.Aged.{aged_in}
use Rattle.walks.proofs.Ages.{key_lies}
use Rattle.walks.proofs.OldPlace.aged_here.Goals as goal

pub returns-in_err-k : goal.returns-in_err-k
unfolding aged_in
returns-in_err-k c = c.from_residual.ensures ∙ simp (← c.key_old.ensures, c.in_err-k.was)

pub ver_at-requires : goal.ver_at-requires
ver_at-requires c = (key_lies c.args.s.now c.args.self.page c.args.self.slot _ _ _ (sym c.key_old.ensures ∙ c.in_ok-k.was)).ver

pub after-requires : goal.after-requires
after-requires c = let k = key_lies c.args.s.now c.args.self.page c.args.self.slot _ _ _ (sym c.key_old.ensures ∙ c.in_ok-k.was) in
    record {
      slot_bound = omega (arith, k.slot, k.few, c.well_formed);
      left_nonzero = c.requires;
    }

pub returns : goal.returns
unfolding aged_in
returns c = simp (← c.key_old.ensures, c.in_ok-k.was, c.ver_at.ensures, c.after.ensures)
