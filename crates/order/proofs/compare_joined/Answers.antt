-- `order::compare_joined` meets its contract. Assumes nothing.
use mathlib.Core.Path.{◌≡◌, ◌∙◌, sym}
use lib.ListN.{length, drop}
use Rattle.order.specs.Order.{cmp_bytes}
use Rattle.spans.proofs.Part.{tail_part}
use Rattle.order.proofs.Laws.{cmp_beside, starts-length}
use Rattle.order.proofs.Bounds.{joined_starts}
use borrow.Author.Rules.{rules}
use Rattle.order.proofs.compare_joined.Goals as goal

pub slice_bounds-compare-count : goal.slice_bounds-compare-count
slice_bounds-compare-count c = starts-length c.args.p.now c.args.x.now (sym c.starts_with.ensures ∙ c.if-starts_with.true)

pub slice_bounds-compare-start : goal.slice_bounds-compare-start
slice_bounds-compare-start c = let h = starts-length c.args.p.now c.args.x.now (sym c.starts_with.ensures ∙ c.if-starts_with.true) in search rules

pub returns-then-starts_with : goal.returns-then-starts_with
returns-then-starts_with c = let e : c.compare.result ≡ cmp_bytes c.args.r.now (drop (length c.args.p.now) c.args.x.now) = simp (c.compare.ensures, tail_part) in
    e ∙ joined_starts c.args.p.now c.args.r.now c.args.x.now (sym c.starts_with.ensures ∙ c.if-starts_with.true)

pub returns-else-starts_with : goal.returns-else-starts_with
returns-else-starts_with c = c.compare-else-starts_with.ensures ∙ sym (cmp_beside c.args.p.now c.args.r.now c.args.x.now (sym c.starts_with.ensures ∙ c.if-starts_with.false))
