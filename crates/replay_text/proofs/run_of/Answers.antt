use Rattle.std.proofs.Common.{◌≡◌, ℕ, ◌+◌, List, ◌∷◌, refl, sym, ◌∙◌, arith, rules}
use Rattle.std.proofs.lemmas.Iterator.{YieldsList-from_slice, IsFirst-from_position, index_from_first}
use Rattle.std.proofs.lemmas.Bool.Decides.{nat_tests}
use borrow.Author.Tests.{tests}
use Rattle.replay_text.specs.Text.{run_length}
use Rattle.replay_text.proofs.run_of.Goals as goal

hit : (b x : ℕ) (xs : List ℕ) → (x ≡ b → ⊥) → run_length b (x ∷ xs) ≡ 0
hit b x xs h = grind (arith, nat_tests)

miss : (b x : ℕ) (xs : List ℕ) → x ≡ b → run_length b (x ∷ xs) ≡ run_length b xs + 1
miss b x xs h = grind (arith, nat_tests)

pub returns-clause-count : goal.returns-clause-count
returns-clause-count c =
    let b = c.args.b in
    let s = c.args.s.now in
    let first = IsFirst-from_position _ _ _ (λ x. x ≡ b → ⊥) (λ x. x ≡ b) c.position.ensures.ran (YieldsList-from_slice s cc) (λ x q k. search (rules, tests)) (λ x q k. search (rules, tests)) in
    c.unwrap_or.ensures ∙ sym (index_from_first (run_length b) (λ x. x ≡ b → ⊥) (λ x. x ≡ b) refl (hit b) (miss b) s _ first)
