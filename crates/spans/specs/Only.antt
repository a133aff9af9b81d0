-- No second answer fits: stated once, for any contract; each public call's own contract is an instance.
-- Assumes nothing.
use Rattle.std.specs.Prelude.{◌≡◌}
use Rattle.std.proofs.Common.{◌∙◌, sym}

-- P decides f: any two answers that fit P agree on f
abbrev pub Decides : {A B : Type 0} → (A → Type 0) → (A → B) → Type 0
Decides {A} P f = (x y : A) → P x → P y → f x ≡ f y

pub decides : {A B : Type 0} (f : A → B) (v : B) → Decides (λ (x : A). f x ≡ v) f
decides f v x y p q = p ∙ sym q
