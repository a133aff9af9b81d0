use Rattle.std.proofs.Common.{◌≡◌, refl, ◌∙◌}
use Rattle.std.specs.Ordering.{nat_cmp}
use Rattle.std.proofs.lemmas.Iterator.{YieldsList-from_slice}
use Rattle.std.proofs.lemmas.Iterator.Consumers.{YieldsList-at, YieldsList-from_chain}
use Rattle.std.proofs.lemmas.Iterator.Search.{cmp_from_yields_List}
use Rattle.order.proofs.Library.{compared}
use Rattle.build_sources.proofs.compare_joined.Goals as goal

pub returns : goal.returns
returns c = let a = c.args in
    let one = YieldsList-from_chain (YieldsList-at c.chain.ensures.first (YieldsList-from_slice a.p.now (cc))) (YieldsList-at c.chain.ensures.second (YieldsList-from_slice a.r.now (cc))) c.chain.ensures.first_done c.chain.ensures.second_done in
    let two = YieldsList-from_chain (YieldsList-at c.chain-2.ensures.first (YieldsList-from_slice a.q.now (cc))) (YieldsList-at c.chain-2.ensures.second (YieldsList-from_slice a.s.now (cc))) c.chain-2.ensures.first_done c.chain-2.ensures.second_done in
    cmp_from_yields_List (λ x y. y ≡ x) _ nat_cmp _ c.cmp.ensures.ran one (λ it e. YieldsList-at e two) (λ x y. refl) ∙ compared _ _
