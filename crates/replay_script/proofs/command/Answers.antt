use Rattle.std.proofs.Common.{◌≡◌, ◌≢◌, ℕ, ◌+◌, List, ◌∷◌, length, take, Some, None, refl, ap, sym, arith, rules, take_all}
use Rattle.std.proofs.lemmas.Iterator.{YieldsList-from_slice, IsFirst-from_position, index_from_first}
use Rattle.std.proofs.lemmas.Bool.Decides.{nat_tests}
use borrow.Author.Tests.{tests}
use Rattle.replay_script.specs.Words.{before_space}
use Rattle.replay_script.proofs.command.Goals as goal

hit : (x : ℕ) (l : List ℕ) → x ≡ 32 → before_space (x ∷ l) ≡ 0
hit x l h = grind (arith, nat_tests)

miss : (x : ℕ) (l : List ℕ) → x ≢ 32 → before_space (x ∷ l) ≡ before_space l + 1
miss x l h = grind (arith, nat_tests)

pub returns-in-Some : goal.returns-in-Some
returns-in-Some c =
    let l = c.args.l.now in
    let first = IsFirst-from_position _ _ _ (λ x. x ≡ 32) (λ x. x ≢ 32) c.in-Some.ensures.ran (YieldsList-from_slice l cc) (λ x q k. search (rules, tests)) (λ x q k. search (rules, tests)) in
    let n : before_space l ≡ c.in-Some.n = index_from_first before_space (λ x. x ≡ 32) (λ x. x ≢ 32) refl hit miss l (Some c.in-Some.n) first in
    ap (λ m. take (m + 1) l) (sym n)

pub returns-in-None : goal.returns-in-None
returns-in-None c =
    let l = c.args.l.now in
    let first = IsFirst-from_position _ _ _ (λ x. x ≡ 32) (λ x. x ≢ 32) c.in-None.ensures.ran (YieldsList-from_slice l cc) (λ x q k. search (rules, tests)) (λ x q k. search (rules, tests)) in
    let n : before_space l ≡ length l = index_from_first before_space (λ x. x ≡ 32) (λ x. x ≢ 32) refl hit miss l None first in
    sym (take_all _ _ (omega (arith, n)))
