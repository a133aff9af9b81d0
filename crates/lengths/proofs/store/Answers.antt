use mathlib.Core.Path.{ap, ◌∙◌}
use native.Mathlib.Omega.{arith}
use lib.ListN.{length}
use Rattle.lengths.proofs.Laws.{put_more, put_last, uleb-last, uleb_more}
use borrow.Author.Rules.{rules}
use Rattle.lengths.proofs.store.Goals as goal

pub bounds-buf-i : goal.bounds-buf-i
bounds-buf-i c = omega (arith, ap length (uleb_more c.loop-n.n (omega arith) (omega arith)))

pub loop-n-preserved : goal.loop-n-preserved
loop-n-preserved c = let l = c.loop-n in
    let m = put_more l.buf l.i l.n (omega arith) (omega arith) in
    (omega arith, search rules, m.1 ∙ l.invariant.2, m.0 ∙ l.invariant.3)

pub bounds-buf-i-2 : goal.bounds-buf-i-2
bounds-buf-i-2 c = omega (arith, ap length (uleb-last c.loop-n.n (omega arith)))

pub returns : goal.returns
returns c = let l = c.loop-n in
    let m = put_last l.buf l.i l.n (omega arith) in
    (m.1 ∙ l.invariant.2, m.0 ∙ l.invariant.3)
