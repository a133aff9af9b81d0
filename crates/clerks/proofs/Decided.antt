-- No second answer fits the contracts of the lent clerk. Each contract's own assertion is shown to be the fact that is decided, so a
-- contract that is weakened fails here.
-- Assumes nothing.
use mathlib.Core.Path.{◌≡◌, refl, sym, ◌∙◌}
use Prim.Native.Nat.{ℕ}
use seplogic.Ra.Ura.{Ura}
use base.Logic.{SProp}
use prog.Memory.{Memory}
use prog.Routine.{Routine}
use types.Logic.{Logic}
use contract.Lifetimes.{Lfts}
use contract.Monad.{Fun, fact}
use denote.MutBor.{MutBor}
use denote.Triple.Clauses.{AtExit}
use Rattle.spans.specs.Only.{Decides, decides}
use Rattle.frames.specs.declared.Addr.{Addr}
use Rattle.frames.specs.declared.Clerk.{Clerk}
use Rattle.frames.specs.declared.Taken.{Taken}
use Rattle.frames.specs.Clerks.{taken_of}
use Rattle.clerks.specs.Lent.{clerk_of}
use Rattle.clerks.specs.contracts.alloc as alloc
use Rattle.clerks.specs.contracts.alloc_from as alloc_from

abbrev Allocated : Clerk → ℕ → Addr → Clerk → Type 0
Allocated c n r c' = (r ≡ (taken_of c n).addr) × (c' ≡ (taken_of c n).clerk)

pub alloc_says : {M : Type 1} {𝓤 : Ura M} (𝓛 : Logic 𝓤) (mem : Memory → SProp 𝓤) (run : Routine → Fun 𝓤) (κs : Lfts 1) (c : MutBor Clerk) (n : ℕ) (r : Addr) (s : AtExit alloc.ended κs)
    → (alloc.clauses 𝓛 mem run κs (c, (n, tt))).ensures tt r s ≡ fact 𝓤 (Allocated c.now n r s.0.now)
alloc_says 𝓛 mem run κs c n r s = refl

pub alloc_decided : (c : Clerk) (n : ℕ) (r r' : Addr) (c₁ c₂ : Clerk) → Allocated c n r c₁ → Allocated c n r' c₂ → (r ≡ r') × (c₁ ≡ c₂)
alloc_decided c n r r' c₁ c₂ p q = (p.0 ∙ sym q.0, p.1 ∙ sym q.1)

pub alloc_from_says : {M : Type 1} {𝓤 : Ura M} (𝓛 : Logic 𝓤) (mem : Memory → SProp 𝓤) (run : Routine → Fun 𝓤) (a : Addr) (l n : ℕ) (r : Taken) (s : AtExit alloc_from.ended tt)
    → (alloc_from.clauses 𝓛 mem run tt (a, (l, (n, tt)))).ensures tt r s ≡ fact 𝓤 (r ≡ taken_of (clerk_of a l) n)
alloc_from_says 𝓛 mem run a l n r s = refl

pub alloc_from_decided : (a : Addr) (l n : ℕ) → Decides (λ (r : Taken). r ≡ taken_of (clerk_of a l) n) (λ (r : Taken). r)
alloc_from_decided a l n = decides (λ (r : Taken). r) (taken_of (clerk_of a l) n)
