-- `build_totals::with_one` meets its contract. Assumes nothing.
use mathlib.Core.Path.{◌∙◌}
use Rattle.build_sweep.proofs.Tallying.{with_old_lem, with_head_lem}
use Rattle.build_totals.proofs.with_one.Goals as goal

pub with_old-requires : goal.with_old-requires
with_old-requires c = record {
  n_le_max_value = c.requires.vlen_le_max_value;
  bounded = c.requires.bounded;
}

pub returns-then-i : goal.returns-then-i
returns-then-i c = c.with_old.ensures ∙ with_old_lem _ _ _ _ _ _ _ c.if-i.true

pub with_head-requires : goal.with_head-requires
with_head-requires c = record {
  n_le_max_value = c.requires.vlen_le_max_value;
  k_le_max_key = c.requires.klen_bound;
  bounded = c.requires.bounded;
}

pub returns : goal.returns
returns c = c.with_head.ensures ∙ with_head_lem _ _ _ _ _ _ _ c.if-i.false
