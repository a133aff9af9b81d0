-- `delta::index_key` meets its contract. Assumes nothing.
use mathlib.Core.Path.{sym, ◌∙◌}
use Rattle.delta.specs.Read.{index_key_at}
use Rattle.delta.proofs.Ends.{key-ends}
use Rattle.delta.proofs.index_key.Goals as goal

pub returns-in_default : goal.returns-in_default
unfolding index_key_at
returns-in_default c = simp (← c.delta_of.ensures, c.in_default.is)

pub key_in-requires : goal.key_in-requires
key_in-requires c = key-ends c.args.s.now c.args.a 2 c.in-Some.d (sym c.delta_of.ensures ∙ c.in-Some.is)

pub returns-in_default-key_in : goal.returns-in_default-key_in
unfolding index_key_at
returns-in_default-key_in c = simp (← c.delta_of.ensures, c.in-Some.is, ← c.key_in.ensures, c.in_default-key_in.is)

pub returns : goal.returns
unfolding index_key_at
returns c = simp (← c.delta_of.ensures, c.in-Some.is, ← c.key_in.ensures, c.in-Some-key_in.is)
