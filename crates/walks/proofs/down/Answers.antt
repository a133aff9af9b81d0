-- `walks::down` meets its contract. Assumes nothing.
use mathlib.Core.Path.{◌≡◌, sym, ◌∙◌}
use mathlib.Core.Bool.{true, false}
use lib.Dec.{leb}
use borrow.Author.Tests.{le-leb, lt-leb}
use lib.IntN.{pos, nat_abs}
use lib.Signed.{lt_z}
use mir.Syntax.{w64}
use mir.ValLaws.{to_z-of_z}
use Rattle.walks.specs.Walk.{down_range}
use Rattle.walks.proofs.Signs.{lt_plain, lt_zero, cast_ok, not_below, above_not_below}
use Rattle.walks.proofs.down.Goals as goal

pub returns-then-start-end : goal.returns-then-start-end
unfolding down_range
returns-then-start-end c = let t : lt_z c.args.start c.args.end ≡ true = sym (lt_plain w64 c.args.start c.args.end c.ranges.start c.ranges.end) ∙ c.if-start-end.true in
    simp t

pub returns-then-end-lt0 : goal.returns-then-end-lt0
unfolding down_range
returns-then-end-lt0 c = let t : lt_z c.args.start c.args.end ≡ false = sym (lt_plain w64 c.args.start c.args.end c.ranges.start c.ranges.end) ∙ c.if-start-end.false in
    let u : lt_z c.args.end (pos 0) ≡ true = sym (lt_zero c.args.end c.ranges.end) ∙ c.if-end-lt0.true in
    simp (t, u)

pub overflow_cast-from : goal.overflow_cast-from
overflow_cast-from c = let t : lt_z c.args.start c.args.end ≡ false = sym (lt_plain w64 c.args.start c.args.end c.ranges.start c.ranges.end) ∙ c.if-start-end.false in
    let u : lt_z c.args.end (pos 0) ≡ false = sym (lt_zero c.args.end c.ranges.end) ∙ c.if-end-lt0.false in
    cast_ok c.args.start c.ranges.start (above_not_below c.args.start c.args.end t u)

pub returns-then-elems-from : goal.returns-then-elems-from
unfolding down_range
returns-then-elems-from c = let t : lt_z c.args.start c.args.end ≡ false = sym (lt_plain w64 c.args.start c.args.end c.ranges.start c.ranges.end) ∙ c.if-start-end.false in
    let u : lt_z c.args.end (pos 0) ≡ false = sym (lt_zero c.args.end c.ranges.end) ∙ c.if-end-lt0.false in
    let v : leb c.args.elems (nat_abs c.args.start) ≡ true = rw (to_z-of_z w64 c.args.start c.ranges.start) at (le-leb _ _ c.if-elems-from.true) in
    simp (t, u, v)

pub overflow_cast-end : goal.overflow_cast-end
overflow_cast-end c = let u : lt_z c.args.end (pos 0) ≡ false = sym (lt_zero c.args.end c.ranges.end) ∙ c.if-end-lt0.false in
    cast_ok c.args.end c.ranges.end (not_below c.args.end u)

pub returns : goal.returns
unfolding down_range
returns c = let t : lt_z c.args.start c.args.end ≡ false = sym (lt_plain w64 c.args.start c.args.end c.ranges.start c.ranges.end) ∙ c.if-start-end.false in
    let u : lt_z c.args.end (pos 0) ≡ false = sym (lt_zero c.args.end c.ranges.end) ∙ c.if-end-lt0.false in
    let v : leb c.args.elems (nat_abs c.args.start) ≡ false = rw (to_z-of_z w64 c.args.start c.ranges.start) at (lt-leb _ _ c.if-elems-from.false) in
    simp (t, u, v, c.less.ensures, to_z-of_z w64 c.args.start c.ranges.start, to_z-of_z w64 c.args.end c.ranges.end)
