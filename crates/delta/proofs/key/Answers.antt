-- `delta::key` meets its contract. Assumes nothing.
use mathlib.Core.Path.{sym, ◌∙◌}
use Rattle.delta.specs.Read.{leaf_key_at}
use Rattle.delta.proofs.Ends.{key-ends, ver-ends}
use Rattle.delta.proofs.key.Goals as goal

pub returns-in_default : goal.returns-in_default
unfolding leaf_key_at
returns-in_default c = simp (← c.delta_of.ensures, c.in_default.is)

pub key_in-requires : goal.key_in-requires
key_in-requires c = key-ends c.args.s.now c.args.a 1 c.in-Some.d (sym c.delta_of.ensures ∙ c.in-Some.is)

pub returns-in_default-key_in : goal.returns-in_default-key_in
unfolding leaf_key_at
returns-in_default-key_in c = simp (← c.delta_of.ensures, c.in-Some.is, ← c.key_in.ensures, c.in_default-key_in.is)

pub ver_at-requires : goal.ver_at-requires
ver_at-requires c = ver-ends c.args.s.now c.args.a c.in-Some.d (sym c.delta_of.ensures ∙ c.in-Some.is) c.in-Some-key_in.k.ver_at c.in-Some-key_in.k.rest_at c.in-Some-key_in.k.rest_len (sym c.key_in.ensures ∙ c.in-Some-key_in.is)

pub returns : goal.returns
unfolding leaf_key_at
returns c = simp (← c.delta_of.ensures, c.in-Some.is, ← c.key_in.ensures, c.in-Some-key_in.is, c.ver_at.ensures)
