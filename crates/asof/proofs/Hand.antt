-- What is passed over and found in the history page in hand is what the lookup's own steps pass over and find.
-- Assumes nothing.
use Prim.Native.Nat.{ℕ, ◌+◌, ◌-◌, ◌^◌, ◌≤◌, ◌<◌}
use mathlib.Core.Path.{◌≡◌, refl, sym, ap, subst, ◌∙◌}
use mathlib.Core.Bool.{true, false}
use mathlib.Core.List.{List}
use native.Mathlib.Omega.{arith}
use lib.ListN.{length}
use Rattle.order.specs.declared.Ver.{Ver}
use Rattle.order.specs.Version.{newer_than}
use Rattle.frames.specs.declared.Body.{Body}
use Rattle.frames.specs.Limits.{max_key}
use Rattle.values.specs.Keys.{ver_in}
use Rattle.records.specs.declared.Rec.{Rec}
use Rattle.records.specs.Records.{slot_at, rec_at}
use Rattle.records.proofs.Inside.{slot-inside}
use Rattle.pages.specs.Boundaries.{place}
use Rattle.walks.specs.declared.OldPlace.{OldPlace}
use Rattle.walks.specs.Walk.{older_of, body_of}
use Rattle.walks.proofs.Lying.{body-inside, body_reads}
use Rattle.walks.proofs.Ages.{aged-slot, aged-rec}
use Rattle.asof.specs.declared.InHand.{InHand}
use Rattle.asof.specs.AsOf.{handed_of, old_as_of}
use Rattle.asof.specs.InHand.{further_of, GoesOn, Passes, InHands}
use Rattle.asof.proofs.Olds.{old_newer, old-found}
use Rattle.std.proofs.Common.{Some, None, Ok}
use Rattle.asof.specs.declared.AsOf.{AsOf}

pub rec_none : (r : Rec) → None ≡ Some r → ⊥
rec_none r e = let z : ◌≡◌ {A = ℕ} 0 1 = cc in omega arith

-- one more
further_next : (p : OldPlace) (n : ℕ) → further_of (further_of p n) 1 ≡ further_of p (n + 1)
further_next p n =
    let i : p.slot + n + 1 ≡ p.slot + (n + 1) = omega arith in
    let k : p.left - n - 1 ≡ p.left - (n + 1) = omega arith in
    ap (λ (z : ℕ). older_of p.page p.link z (p.left - n - 1)) i ∙ ap (λ (z : ℕ). older_of p.page p.link (p.slot + (n + 1)) z) k

further_none : (p : OldPlace) → further_of p 0 ≡ p
further_none p =
    let i : p.slot + 0 ≡ p.slot = omega arith in
    let k : p.left - 0 ≡ p.left = omega arith in
    ap (λ (z : ℕ). older_of p.page p.link z (p.left - 0)) i ∙ ap (λ (z : ℕ). older_of p.page p.link p.slot z) k

pub goes_none : (s : List ℕ) (v : Ver) (p : OldPlace) → GoesOn s v p p
goes_none s v p = record { few = omega arith; same = λ slot reads. refl }

pub passes_none : (s : List ℕ) (v : Ver) (p : OldPlace) → p.slot < 2 ^ 64 → Passes s v p 0
passes_none s v p h =
    record { few = omega arith; word = omega arith; on = subst (λ (q : OldPlace). GoesOn s v p q) (sym (further_none p)) (goes_none s v p) }

module _ (s : List ℕ) (v : Ver) (p : OldPlace) (b : Body) (o : body_of s p.page 2 ≡ Some b) (n : ℕ) (f : Passes s v p n) where
  pub passes_more : length s < 2 ^ 64 → n < p.left → (q : ℕ) → slot_at s b (p.slot + n) ≡ Some q → q + 12 ≤ b.end → b.prefix_len ≤ max_key
      → {ver : Ver} → ver ≡ ver_in s q → newer_than ver v ≡ true → Passes s v p (n + 1)
  passes_more w l q e h m {ver} d t =
      let i = body-inside s p.page 2 b o in
      let k = slot-inside s b (p.slot + n) q e in
      let g = aged-slot s (further_of p n) b o (λ z. omega (arith, z)) q e h m in
      record {
        few = omega arith;
        word = omega (arith, k.2, i.slots, i.records, i.payload, i.arena);
        on = record {
          few = omega arith;
          same =
              λ slot reads. ap (λ (r : OldPlace). old_as_of s v slot reads r.left r) (sym (further_next p n))
              ∙ sym (old_newer s v slot reads (further_of p n) (ver_in s q) (p.slot + n) (further_of (further_of p n) 1) g (ap (λ (x : Ver). newer_than x v) (sym d) ∙ t))
              ∙ f.on.same slot reads;
        };
      }

  module _ {here : OldPlace} (u : here ≡ further_of p n) where
    pub hand_on : GoesOn s v p here
    hand_on = subst (λ (q : OldPlace). GoesOn s v p q) (sym u) f.on

    pub hand_is : (here.left ≡ 0 → ⊥) → (r : Rec) → rec_at s b here.slot ≡ Some r → {ver : Ver} → ver ≡ ver_in s r.ver_at → newer_than ver v ≡ false
        → InHands s v p (InHand.Is ver (place r.val_at r.val_len))
    hand_is z r e {ver} d t =
        let e' : rec_at s b (p.slot + n) ≡ Some r = ap (λ (q : OldPlace). rec_at s b q.slot) (sym u) ∙ e in
        let z' : p.left - n ≡ 0 → ⊥ = λ x. z (ap (λ (q : OldPlace). q.left) u ∙ x) in
        λ slot reads. sym (f.on.same slot reads)
        ∙ old-found s v slot reads (further_of p n) (ver_in s r.ver_at) (p.slot + n) (further_of (further_of p n) 1) (aged-rec s (further_of p n) b o z' r e') (ap (λ (x : Ver). newer_than x v) (sym d) ∙ t)
        ∙ ap (handed_of slot (ver_in s r.ver_at) reads) (body_reads s p.page 2 b o (p.slot + n) ∙ e')
        ∙ ap (λ (x : Ver). Ok (AsOf.Is slot x (place r.val_at r.val_len) reads)) (sym d)
