-- A record that was read without history names no history page.
-- Assumes nothing.
use Prim.Native.Nat.{ℕ, ◌+◌}
use mathlib.Core.Path.{◌≡◌, refl, subst}
use mathlib.Core.Bool.{Bool, true, false, cond, ◌||◌}
use mathlib.Core.List.{List}
use lib.ListN.{length, get_or, take}
use lib.Dec.{leb, ltb, eqb}
use borrow.Author.Tests.{eqb-false}
use Rattle.numbers.specs.Number.{le_at}
use Rattle.frames.specs.declared.Addr.{Addr}
use Rattle.frames.specs.declared.Body.{Body}
use Rattle.frames.specs.Layout.{addr, remote_at}
use Rattle.frames.specs.Limits.{max_value}
use Rattle.values.specs.declared.HistRef.{HistRef}
use Rattle.values.specs.Vals.{hist_of, ref_at, front_at, val_of, val_at, front_places}
use Rattle.records.specs.declared.Rec.{Rec}
use Rattle.records.specs.Records.{slot_at, remote_of, key_in, val_in, rec_val, rec_key, rec_in, rec_slot, rec_at}
use Rattle.records.specs.Records as recs
use Rattle.std.proofs.Common.{Option, Some, None}
use Rattle.records.specs.declared.ValParts.{ValParts}
use Rattle.values.specs.declared.Front.{Front}
use Rattle.values.specs.declared.KeyParts.{KeyParts}
use Rattle.values.specs.declared.Val.{Val}

abbrev Bare : HistRef → Type 0
Bare h = h.count ≡ 0 → h.page ≡ addr 0

-- whatever was read, as long as it has a reference
abbrev OfFront : Option Front → Type 0
OfFront (Some f) = Bare f.hist
OfFront None = Unit {0}

abbrev OfVal : Option Val → Type 0
OfVal (Some (Val.Inline h p n next)) = Bare h
OfVal (Some (Val.Remote h a n next)) = Bare h
OfVal None = Unit {0}

abbrev OfValRead : Option ValParts → Type 0
OfValRead (Some v) = Bare v.hist
OfValRead None = Unit {0}

abbrev OfRec : Option Rec → Type 0
OfRec (Some r) = Bare r.hist
OfRec None = Unit {0}

-- both arms of a test
both : {A : Type 0} (P : A → Type 0) (t : Bool) (x y : A) → P x → P y → P (cond t x y)
both P true x y p q = p
both P false x y p q = q

ref-bare : (s : List ℕ) (at : ℕ) (remote : Bool) → OfFront (ref_at s at remote)
unfolding ref_at
ref-bare s at remote = both OfFront (leb (at + 14) (length s)) _ None (some (eqb (le_at 4 s (at + 10)) 0) refl) tt
  where
    some : (t : Bool) → eqb (le_at 4 s (at + 10)) 0 ≡ t → OfFront (cond t None (Some (front_places (hist_of (le_at 8 s at) (le_at 2 s (at + 8)) (le_at 4 s (at + 10))) remote (at + 14))))
    some true e = tt
    some false e = λ z. absurd (eqb-false (le_at 4 s (at + 10)) 0 e z)

front-bare : (s : List ℕ) (at : ℕ) (head : Bool) → OfFront (front_at s at head)
unfolding front_at
front-bare s at head =
    both OfFront (ltb at (length s)) _ None
    (both OfFront (leb (get_or s at 0) 3) _ None
    (both OfFront (eqb (get_or s at 0) 0 || eqb (get_or s at 0) 2) _ _ (λ z. refl)
    (both OfFront head _ None (ref-bare s (at + 1) (eqb (get_or s at 0) 3)) tt))
    tt)
    tt

val-bare : (s : List ℕ) (at : ℕ) (head : Bool) → OfVal (val_at s at head)
unfolding val_at
val-bare s at head = of (front_at s at head) (front-bare s at head)
  where
    of : (f : Option Front) → OfFront f → OfVal (val_of s f)
    of (Some f) b =
        both OfVal (leb (f.next + 4) (length s)) _ None
        (both OfVal (leb (le_at 4 s f.next) max_value) _ None
        (both OfVal f.remote _ _ (both OfVal (leb (f.next + 12) (length s)) _ None b tt) (both OfVal (leb (f.next + 4 + le_at 4 s f.next) (length s)) _ None b tt))
        tt)
        tt
    of None b = tt

in_bare : (s : List ℕ) (b : Body) (at : ℕ) → OfValRead (val_in s b at)
unfolding val_in
in_bare s b at = of (val_at (take b.end s) at (eqb b.kind 0)) (val-bare (take b.end s) at (eqb b.kind 0))
  where
    remote : (h : HistRef) (a : Addr) (n next : ℕ) (r : Option ℕ) → Bare h → OfValRead (remote_of h a n next r)
    remote h a n next (Some p) z = z
    remote h a n next None z = tt

    of : (v : Option Val) → OfVal v → OfValRead (recs.val_of s v)
    of (Some (Val.Inline h p n next)) z = z
    of (Some (Val.Remote h a n next)) z = remote h a n next (remote_at s a n) z
    of None z = tt

rec-bare : (s : List ℕ) (b : Body) (p : ℕ) → OfRec (rec_in s b p)
unfolding rec_in
rec-bare s b p = of (key_in s b p)
  where
    val : (v ra rn : ℕ) (x : Option ValParts) → OfValRead x → OfRec (rec_val p v ra rn x)
    val v ra rn (Some v') z = z
    val v ra rn None z = tt

    of : (k : Option KeyParts) → OfRec (rec_key s b p k)
    of (Some k) =
        both OfRec (eqb b.kind 1) _ _ (both OfRec (leb (k.rest_at + k.rest_len + 8) b.end) _ None (λ z. refl) tt) (val k.ver_at k.rest_at k.rest_len (val_in s b (k.rest_at + k.rest_len)) (in_bare s b (k.rest_at + k.rest_len)))
    of None = tt

pub at_bare : (s : List ℕ) (b : Body) (i : ℕ) (r : Rec) → rec_at s b i ≡ Some r → r.hist.count ≡ 0 → r.hist.page ≡ addr 0
unfolding rec_at
at_bare s b i r e = subst OfRec e (of (slot_at s b i))
  where
    of : (x : Option ℕ) → OfRec (rec_slot s b x)
    of (Some p) = rec-bare s b p
    of None = tt
