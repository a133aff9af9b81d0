-- No second answer fits the contract of a public call. `Post` is the contract as the check reads it, so a contract that is weakened fails here.
-- Assumes nothing.
use mathlib.Core.Path.{◌≡◌, ◌∙◌, sym, refl}
use mathlib.Core.List.{List}
use Prim.Native.Nat.{ℕ}
use seplogic.Ra.Ura.{Ura}
use base.Logic.{SProp}
use prog.Memory.{Memory}
use prog.Routine.{Routine}
use types.Logic.{Logic}
use contract.Lifetimes.{Lfts}
use contract.Monad.{Fun, fact}
use denote.Ref.{Bor}
use denote.Triple.Clauses.{AtExit}
use Rattle.spans.specs.Only.{Decides, decides}
use Rattle.frames.specs.declared.Addr.{Addr}
use Rattle.pages.specs.declared.Place.{Place}
use Rattle.overlay.specs.Overlay.{laid_at}
use Rattle.overlay.specs.Lent.{PartIs, LentIs}
use Rattle.overlay.specs.contracts.answer as answer_fn
use Rattle.overlay.proofs.answer.Reads as answer_at
use Rattle.overlay.specs.contracts.lent as lent_fn
use Rattle.overlay.proofs.lent.Reads as lent_at_lem
use Rattle.overlay.specs.contracts.overlay_in as over_fn
use Rattle.overlay.proofs.overlay_in.Reads as over-at
use Rattle.overlay.specs.contracts.lookup as lookup
use Rattle.std.proofs.Common.{Result}
use Rattle.frames.specs.declared.Refusal.{Refusal}
use Rattle.overlay.specs.declared.Laid.{Laid}

pub answer_decided : (κs : Lfts 3) (s : Bor (List ℕ)) (a : Addr) (t : Bor (List ℕ)) (d : Addr) (probe : Bor (List ℕ)) (x : AtExit answer_fn.ended κs)
    → Decides (λ (r : Result Laid Refusal). answer_at.Post κs (s, (a, (t, (d, (probe, tt))))) r x) (λ (r : Result Laid Refusal). r)
answer_decided κs s a t d probe x = decides (λ (r : Result Laid Refusal). r) (laid_at s.now a t.now d probe.now)

-- a part is decided with its place in memory, and so is the buffer that it comes from
abbrev pub Same : Bor (List ℕ) → Bor (List ℕ) → Type 0
Same r r' = (r.now ≡ r'.now) × (r.ref_ptr.0 ≡ r'.ref_ptr.0) × (r.ref_ptr.1 ≡ r'.ref_ptr.1)

pub part_decided : (s : Bor (List ℕ)) (p : Place) (r r' : Bor (List ℕ)) → PartIs s p r → PartIs s p r' → Same r r'
part_decided s p r r' h h' = (h.bytes ∙ sym h'.bytes, h.block ∙ sym h'.block, h.offset ∙ sym h'.offset)

pub lent_decided : (κs : Lfts 1) (s t : Bor (List ℕ)) (l : Result Laid Refusal) (r r' : Bor (List ℕ)) (x x' : AtExit lent_fn.ended κs)
    → lent_at_lem.Post κs (s, (t, (l, tt))) r x → lent_at_lem.Post κs (s, (t, (l, tt))) r' x' → Same r r'
lent_decided κs s t l r r' x x' h h' = part_decided _ _ r r' h h'

pub overlay_in_decided : (κs : Lfts 2) (s : Bor (List ℕ)) (a : Addr) (t : Bor (List ℕ)) (d : Addr) (probe r r' : Bor (List ℕ)) (x x' : AtExit over_fn.ended κs)
    → over-at.Post κs (s, (a, (t, (d, (probe, tt))))) r x → over-at.Post κs (s, (a, (t, (d, (probe, tt))))) r' x' → Same r r'
overlay_in_decided κs s a t d probe r r' x x' h h' = part_decided _ _ r r' h h'

-- the assertion of `lookup`'s own contract is shown to be the fact that is decided, so a contract that is weakened fails here
pub lookup_says : {M : Type 1} {𝓤 : Ura M} (𝓛 : Logic 𝓤) (mem : Memory → SProp 𝓤) (run : Routine → Fun 𝓤) (κs : Lfts 4) (s : Bor (List ℕ)) (a : Addr) (t : Bor (List ℕ)) (d : Addr) (probe r : Bor (List ℕ)) (x : AtExit lookup.ended κs)
    → (lookup.clauses 𝓛 mem run κs (s, (a, (t, (d, (probe, tt)))))).ensures tt r x ≡ fact 𝓤 (LentIs s t (laid_at s.now a t.now d probe.now) r)
lookup_says 𝓛 mem run κs s a t d probe r x = refl

pub lookup_decided : (s : Bor (List ℕ)) (a : Addr) (t : Bor (List ℕ)) (d : Addr) (probe r r' : Bor (List ℕ))
    → LentIs s t (laid_at s.now a t.now d probe.now) r → LentIs s t (laid_at s.now a t.now d probe.now) r' → Same r r'
lookup_decided s a t d probe r r' h h' = part_decided _ _ r r' h h'
