use mathlib.Core.Path.{◌≡◌, sym, ◌∙◌}
use lib.ListN.{length, drop}
use borrow.Author.Rules.{rules}
use Rattle.order.specs.Order.{starts_with}
use Rattle.spans.proofs.Part.{tail_part}
use Rattle.order.proofs.Laws.{starts-length}
use Rattle.build_sources.proofs.Joined.{begins_behind, begins_within}
use Rattle.build_sources.proofs.joined_begins.Goals as goal

pub slice_bounds-starts_with-count : goal.slice_bounds-starts_with-count
slice_bounds-starts_with-count c = starts-length c.args.p.now c.args.pre.now (sym c.starts_with.ensures ∙ c.if-starts_with.true)

pub slice_bounds-starts_with-start : goal.slice_bounds-starts_with-start
slice_bounds-starts_with-start c = let h = starts-length c.args.p.now c.args.pre.now (sym c.starts_with.ensures ∙ c.if-starts_with.true) in search rules

pub returns-then-starts_with : goal.returns-then-starts_with
returns-then-starts_with c = let e : c.starts_with-then-starts_with.result ≡ starts_with (drop (length c.args.p.now) c.args.pre.now) c.args.r.now = simp (c.starts_with-then-starts_with.ensures, tail_part) in
    e ∙ begins_behind c.args.pre.now c.args.p.now c.args.r.now (sym c.starts_with.ensures ∙ c.if-starts_with.true)

pub returns-else-starts_with : goal.returns-else-starts_with
returns-else-starts_with c = c.starts_with-else-starts_with.ensures ∙ begins_within c.args.pre.now c.args.p.now c.args.r.now (sym c.starts_with.ensures ∙ c.if-starts_with.false)
