use mathlib.Core.Path.{refl, sym, ◌∙◌}
use native.Mathlib.Omega.{arith}
use lib.ListN.{length}
use Rattle.order_pair.proofs.Joined.{word_4, word_2, word_1, word_0, be_at-one}
use Rattle.order_pair.proofs.word_of.Goals as goal

pub returns-then-n-ge4 : goal.returns-then-n-ge4
returns-then-n-ge4 c = let t = c.args.t.now in
    omega (arith, c.read_u32_be-x.ensures, c.read_u32_be-y.ensures, word_4 t (length t) refl (omega (arith, c.if-n-ge4.true)))

pub returns-then-n-ge2 : goal.returns-then-n-ge2
returns-then-n-ge2 c = let t = c.args.t.now in
    omega (arith, c.read_u16_be-x.ensures, c.read_u16_be-y.ensures, word_2 t (length t) refl (omega (arith, c.if-n-ge4.false)) (omega (arith, c.if-n-ge2.true)))

pub returns-then-n-eq1 : goal.returns-then-n-eq1
returns-then-n-eq1 c = let t = c.args.t.now in
    sym (word_1 t (length t) refl c.if-n-eq1.true ∙ be_at-one t 0 (omega (arith, c.if-n-eq1.true)))

pub returns : goal.returns
returns c = let t = c.args.t.now in
    sym (word_0 t (length t) refl (omega (arith, c.if-n-ge2.false, c.if-n-eq1.false)))
