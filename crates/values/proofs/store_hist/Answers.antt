use mathlib.Core.Path.{sym, ◌∙◌, ap}
use mathlib.Core.Bool.{Bool, true, false, cond}
use mathlib.Core.List.{◌++◌}
use Prim.Native.Nat.{◌+◌}
use native.Mathlib.Omega.{arith}
use borrow.Author.Tests.{eq-eqb, ne_eqb}
use lib.ListN.{length}
use Rattle.spans.specs.Span.{put}
use Rattle.spans.proofs.Put.{put_nil, put_chain}
use Rattle.numbers.specs.Number.{le}
use Rattle.numbers.proofs.Numbers.{length-le}
use Rattle.values.proofs.Laws.{length_hist, hist_some, hist_none}
use Rattle.values.proofs.store_hist.Goals as goal

pub returns-then-h-eq0 : goal.returns-then-h-eq0
returns-then-h-eq0 c = let a = c.args in
    let e = hist_none a.h (eq-eqb a.h.count 0 c.if-h-eq0.true) in
    (omega (arith, ap length e), sym (ap (put a.buf.now a.at) e ∙ put_nil a.buf.now a.at))

pub put_u64-requires : goal.put_u64-requires
put_u64-requires c = omega (arith, length_hist c.args.h ∙ ap (λ (b : Bool). cond b 0 14) (ne_eqb c.args.h.count 0 c.if-h-eq0.false))

pub put_u16-requires : goal.put_u16-requires
put_u16-requires c = omega (arith, length_hist c.args.h ∙ ap (λ (b : Bool). cond b 0 14) (ne_eqb c.args.h.count 0 c.if-h-eq0.false))

pub put_u32-requires : goal.put_u32-requires
put_u32-requires c = omega (arith, length_hist c.args.h ∙ ap (λ (b : Bool). cond b 0 14) (ne_eqb c.args.h.count 0 c.if-h-eq0.false))

pub returns : goal.returns
returns c = let a = c.args in
    let n = ne_eqb a.h.count 0 c.if-h-eq0.false in
    (omega (arith, length_hist a.h ∙ ap (λ (b : Bool). cond b 0 14) n), put_chain a.buf.now a.at (le 8 a.h.page.0) (le 2 a.h.slot ++ le 4 a.h.count) c.put_u64.ensures (put_chain _ (a.at + 8) (le 2 a.h.slot) (le 4 a.h.count) c.put_u16.ensures c.put_u32.ensures (omega (arith, length-le 2 a.h.slot))) (omega (arith, length-le 8 a.h.page.0)) ∙ ap (put a.buf.now a.at) (sym (hist_some a.h n)))
