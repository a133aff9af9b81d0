-- `build_sources::spot_at` meets its contract. Assumes nothing.
use mathlib.Core.Path.{◌∙◌}
use borrow.Author.Tests.{eq-eqb, ne_eqb}
use Rattle.build_sources.specs.Lists.{spot_at}
use Rattle.build_sources.proofs.Stepped.{record_bare}
use Rattle.build_sources.proofs.spot_at.Goals as goal

pub returns-then-c-eq-INDEX : goal.returns-then-c-eq-INDEX
unfolding spot_at
returns-then-c-eq-INDEX c = rw (eq-eqb _ _ c.if-c-eq-INDEX.true) c.index_at.ensures

pub returns : goal.returns
unfolding spot_at
returns c = rw (ne_eqb _ _ c.if-c-eq-INDEX.false) (c.record_at.ensures ∙ record_bare c.args.s.now c.args.c)
