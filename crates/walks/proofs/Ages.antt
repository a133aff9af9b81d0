-- An old version read by its key alone: where it lies, and that it is the one that the walk's step lists.
-- Assumes nothing.
use Prim.Native.Nat.{ℕ, zero, suc, ◌+◌, ◌-◌, ◌≤◌, ◌<◌}
use mathlib.Core.Path.{◌≡◌, refl, sym, ap, ◌∙◌}
use mathlib.Core.Bool.{true}
use mathlib.Core.List.{List}
use native.Mathlib.Omega.{arith}
use borrow.Author.Tests.{ne_eqb}
use lib.ListN.{length}
use Rattle.spans.proofs.Tests.{ask}
use Rattle.order.specs.declared.Ver.{Ver}
use Rattle.frames.specs.declared.Addr.{Addr}
use Rattle.frames.specs.declared.Body.{Body}
use Rattle.frames.specs.Limits.{max_key}
use Rattle.values.specs.Keys.{ver_in, key_parts}
use Rattle.records.specs.declared.Rec.{Rec}
use Rattle.records.specs.Records.{slot_at, key_slot, key_at_slot, rec_at}
use Rattle.records.proofs.Inside.{slot-inside, key-inside, skip_twelve, at-inside}
use Rattle.records.proofs.Quick.{old_in_lem}
use Rattle.pages.specs.declared.Place.{Place}
use Rattle.walks.specs.declared.Sheet.{Sheet}
use Rattle.walks.specs.declared.OldPlace.{OldPlace}
use Rattle.walks.specs.declared.Item.{Item}
use Rattle.walks.specs.Walk.{body_in, body_of, older_of, fits_in, read_at, item_of, next_rec, next_in, next_old}
use Rattle.walks.specs.Turned.{turned_at}
use Rattle.walks.specs.Aged.{key_old, aged_key, aged_in, aged_of, aged_at}
use Rattle.walks.proofs.Lying.{fits-inside, body_is, body-inside, body-keys}
use Rattle.walks.proofs.Turns.{from, next-from, turned_left}
use Rattle.std.proofs.Common.{Option, Some, None}
use Rattle.values.specs.declared.KeyParts.{KeyParts}
use Rattle.walks.specs.declared.Aged.{Aged}

-- the version lies in the arena, its slot in the page
pub record KeyLies (s : List ℕ) (p : Sheet) (i v : ℕ) : Type 0 where
  pub ver : v + 12 ≤ length s
  pub slot : i < p.elems
  pub few : p.elems ≤ length s

pub key_lies : (s : List ℕ) (p : Sheet) (i v r n : ℕ) → key_old s p i ≡ Some (key_parts v r n) → KeyLies s p i v
unfolding key_old key_at_slot
key_lies s p i v r n e = go (slot_at s (body_in p 2) i) refl a1.1
  where
    a1 : (fits_in (length s) p ≡ true) × (key_at_slot s (body_in p 2) i ≡ Some (key_parts v r n))
    a1 = ask (fits_in (length s) p) (key_at_slot s (body_in p 2) i) None (Some (key_parts v r n)) (λ z. let y : ◌≡◌ {A = ℕ} 0 1 = cc in omega arith) e

    go : (w : Option ℕ) → slot_at s (body_in p 2) i ≡ w → key_slot s (body_in p 2) w ≡ Some (key_parts v r n) → KeyLies s p i v
    go (Some q) w e' =
        let f = fits-inside s p 2 a1.0 in
        let k = key-inside s (body_in p 2) q v r n f e' in
        record {
          ver = omega (arith, k.ver, k.rest, skip_twelve 2 (λ z. omega arith), f.arena);
          slot = (slot-inside s (body_in p 2) i q w).2;
          few = omega (arith, f.records, f.arena);
        }
    go None w e' = absurd (let y : ◌≡◌ {A = ℕ} 0 1 = cc in omega arith)

pub key-read : (s : List ℕ) (v : Sheet) (i : ℕ) (r : Rec) → read_at s v 2 i ≡ Some r → key_old s v i ≡ Some (key_parts r.ver_at r.rest_at r.rest_len)
unfolding read_at key_old
key-read s v i r e =
    let a1 = ask (fits_in (length s) v) (rec_at s (body_in v 2) i) None (Some r) (λ z. let y : ◌≡◌ {A = ℕ} 0 1 = cc in omega arith) e in
    rw a1.0 (at-inside s (body_in v 2) i r (fits-inside s v 2 a1.0) a1.1).1

-- where the walk's step lists an old version, its key alone tells the same version, and its slot is the one that the step reads
pub record Ages (s : List ℕ) (key : Place) (p : OldPlace) (x : Item) (rest : OldPlace) : Type 0 where
  pub slot : ℕ
  pub rec : Rec
  pub named : Addr
  pub aged : aged_at s p ≡ Some (Aged.Is x.ver slot rest)
  pub read : read_at s rest.page 2 slot ≡ Some rec
  pub item : item_of s key rec named ≡ x

pub next-aged : (s : List ℕ) (key : Place) (p rest : OldPlace) (x : Item) → 0 < p.left → next_old s key p ≡ Some (x, rest) → Ages s key p x rest
unfolding aged_at aged_in next_in item_of
next-aged s key p rest x l e = turned (turned_at s p) refl (sym (next-from s key p) ∙ e)
  where
    record_is : (q : OldPlace) (a : Addr) → turned_at s p ≡ Some (q, a) → (r : Option Rec) → read_at s q.page 2 q.slot ≡ r → next_rec s key q a r ≡ Some (x, rest) → Ages s key p x rest
    record_is q a t (Some r) f g =
        let e1 : item_of s key r a ≡ x = grind arith in
        let e2 : older_of q.page q.link (q.slot + 1) (q.left - 1) ≡ rest = grind arith in
        rw (← e1, ← e2) (record { slot = q.slot; rec = r; named = a; aged = rw (ne_eqb p.left 0 (λ z. omega arith), t, key-read s q.page q.slot r f); read = f; item = refl })
    record_is q a t None f g = absurd (let y : ◌≡◌ {A = ℕ} 0 1 = cc in omega arith)

    turned : (t : Option (OldPlace × Addr)) → turned_at s p ≡ t → from s key t ≡ Some (x, rest) → Ages s key p x rest
    turned (Some (q, a)) t g = record_is q a t (read_at s q.page 2 q.slot) refl g
    turned None t g = absurd (let y : ◌≡◌ {A = ℕ} 0 1 = cc in omega arith)

-- none where none is left; otherwise one fewer is left behind it
pub aged_none : (s : List ℕ) (p : OldPlace) → p.left ≡ 0 → aged_at s p ≡ Some Aged.End
unfolding aged_at
aged_none s p e = rw e

pub aged-left : (s : List ℕ) (p rest : OldPlace) (v : Ver) (i : ℕ) → aged_at s p ≡ Some (Aged.Is v i rest) → p.left ≡ suc rest.left
unfolding aged_at aged_in
aged-left s p rest v i e = by p.left refl
  where
    no : None ≡ Some (Aged.Is v i rest) → ⊥
    no z = let y : ◌≡◌ {A = ℕ} 0 1 = cc in omega arith

    key : (q : OldPlace) (k : Option KeyParts) → aged_key s q k ≡ Some (Aged.Is v i rest) → rest.left ≡ q.left - 1
    key q (Some k) g = let e1 : older_of q.page q.link (q.slot + 1) (q.left - 1) ≡ rest = cc in sym (ap (λ (x : OldPlace). x.left) e1)
    key q None g = absurd (no g)

    turned : (t : Option (OldPlace × Addr)) → turned_at s p ≡ t → aged_of s t ≡ Some (Aged.Is v i rest) → rest.left ≡ p.left - 1
    turned (Some (q, a)) t g = key q (key_old s q.page q.slot) g ∙ ap (λ (n : ℕ). n - 1) (turned_left s p q a t)
    turned None t g = absurd (no g)

    by : (n : ℕ) → p.left ≡ n → p.left ≡ suc rest.left
    by zero q = absurd (let y : (Some Aged.End) ≡ Some (Aged.Is v i rest) = sym (aged_none s p q) ∙ e in let z : ◌≡◌ {A = ℕ} 0 1 = cc in omega arith)
    by (suc n) q = let f = turned (turned_at s p) refl (rw (ne_eqb p.left 0 (λ z. omega arith)) at e) in omega arith

-- ---- the page in hand: an old version that stands there is the next one

module _ (s : List ℕ) (p : OldPlace) (b : Body) (o : body_of s p.page 2 ≡ Some b) (l : p.left ≡ 0 → ⊥) where
  abbrev behind_it : OldPlace
  behind_it = older_of p.page p.link (p.slot + 1) (p.left - 1)

  aged-key : (v r n : ℕ) → key_at_slot s b p.slot ≡ Some (key_parts v r n) → aged_at s p ≡ Some (Aged.Is (ver_in s v) p.slot behind_it)
  unfolding aged_at aged_in turned_at
  aged-key v r n e =
      let k : key_old s p.page p.slot ≡ Some (key_parts v r n) = body-keys s p.page b o p.slot ∙ e in
      rw (ne_eqb p.left 0 l, ne_eqb p.slot p.page.elems (λ z. omega (arith, (key_lies s p.page p.slot v r n k).slot, z)), k)

  -- by its slot and its version alone
  pub aged-slot : (q : ℕ) → slot_at s b p.slot ≡ Some q → q + 12 ≤ b.end → b.prefix_len ≤ max_key → aged_at s p ≡ Some (Aged.Is (ver_in s q) p.slot behind_it)
  unfolding key_at_slot
  aged-slot q e h m =
      aged-key q (q + 12) 0
      (ap (key_slot s b) e ∙ old_in_lem s b q (body-inside s p.page 2 b o) (ap (λ (y : Body). y.kind) (sym (body_is s p.page 2 b o))) h m)

  -- by its record
  pub aged-rec : (r : Rec) → rec_at s b p.slot ≡ Some r → aged_at s p ≡ Some (Aged.Is (ver_in s r.ver_at) p.slot behind_it)
  aged-rec r e = aged-key r.ver_at r.rest_at r.rest_len (at-inside s b p.slot r (body-inside s p.page 2 b o) e).1
