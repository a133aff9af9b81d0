-- What a key or a value that was read tells of its place. These laws belong to `values`.
-- Assumes nothing.
use Prim.Native.Nat.{ℕ, ◌+◌, ◌-◌, ◌≤◌, ◌<◌}
use mathlib.Core.Path.{◌≡◌, refl, sym, ap, ◌∙◌}
use mathlib.Core.Bool.{Bool, true, false, cond, ◌||◌}
use mathlib.Core.List.{List}
use native.Mathlib.Omega.{arith}
use borrow.Author.Tests.{ltb-true, leb-true, eqb-true}
use lib.ListN.{length, get_or}
use lib.Dec.{leb, ltb, eqb}
use Rattle.spans.proofs.Tests.{ask, dont}
use Rattle.numbers.specs.Number.{le_at}
use Rattle.lengths.specs.Leb128.{read_len}
use Rattle.frames.specs.declared.Addr.{Addr}
use Rattle.frames.specs.Limits.{max_value}
use Rattle.values.specs.declared.HistRef.{HistRef}
use Rattle.values.specs.Keys.{skip_of, key_of, key_at, key_parts}
use Rattle.values.specs.Vals.{addr_of, no_hist, ref_at, front_at, val_of, val_at}
use Rattle.std.proofs.Common.{Option, Some, None}
use Rattle.values.specs.declared.Front.{Front}
use Rattle.values.specs.declared.Val.{Val}

pub key_no : (v r n : ℕ) → None ≡ Some (key_parts v r n) → ⊥
key_no v r n e = let z : ◌≡◌ {A = ℕ} 0 1 = cc in omega arith

skip_history : (k : ℕ) → k ≡ 2 → skip_of k ≡ 12
unfolding skip_of
skip_history k e = rw e

-- a key lies in its bytes, behind its version
pub record KeyPlace (s : List ℕ) (kind v r n : ℕ) : Type 0 where
  pub ver : v + skip_of kind ≡ r
  pub rest : r + n ≤ length s

pub key-place : (s : List ℕ) (at kind v r n : ℕ) → key_at s at kind ≡ Some (key_parts v r n) → KeyPlace s kind v r n
unfolding key_at
key-place s at kind v r n e = by (eqb kind 2) refl e
  where
    of : (l : Option (ℕ × ℕ)) → key_of s kind l ≡ Some (key_parts v r n) → KeyPlace s kind v r n
    of (Some (m, next)) q =
        let a1 = ask (leb (skip_of kind) m) _ None (Some (key_parts v r n)) (key_no v r n) q in
        let a2 = ask (leb (next + m) (length s)) _ None (Some (key_parts v r n)) (key_no v r n) a1.1 in
        let x : next ≡ v = grind arith in
        let y : next + skip_of kind ≡ r = grind arith in
        let z : m - skip_of kind ≡ n = grind arith in
        record { ver = omega arith; rest = omega (arith, leb-true (skip_of kind) m a1.0, leb-true (next + m) (length s) a2.0) }
    of None q = absurd (key_no v r n q)

    by : (t : Bool) → eqb kind 2 ≡ t → cond t (cond (leb (at + 12) (length s)) (Some (key_parts at (at + 12) 0)) None) (key_of s kind (read_len s at)) ≡ Some (key_parts v r n) → KeyPlace s kind v r n
    by true k q =
        let a1 = ask (leb (at + 12) (length s)) _ None (Some (key_parts v r n)) (key_no v r n) q in
        let x : at ≡ v = grind arith in
        let y : at + 12 ≡ r = grind arith in
        let z : 0 ≡ n = grind arith in
        record { ver = omega (arith, skip_history kind (eqb-true _ _ k)); rest = omega (arith, leb-true (at + 12) (length s) a1.0) }
    by false k q = of (read_len s at) q

-- a value lies in its bytes; a remote's size keeps the table's length
pub inline_no : (h : HistRef) (p n x : ℕ) → None ≡ Some (Val.Inline h p n x) → ⊥
inline_no h p n x e = let z : ◌≡◌ {A = ℕ} 0 1 = cc in omega arith

remote_no : (h : HistRef) (a : Addr) (n x : ℕ) → None ≡ Some (Val.Remote h a n x) → ⊥
remote_no h a n x e = let z : ◌≡◌ {A = ℕ} 0 1 = cc in omega arith

pub record InlinePlace (s : List ℕ) (p n next : ℕ) : Type 0 where
  pub whole : p + n ≡ next
  pub small : n ≤ max_value
  pub inside : next ≤ length s

pub inline_place : (s : List ℕ) (at : ℕ) (head : Bool) (h : HistRef) (p n next : ℕ) → val_at s at head ≡ Some (Val.Inline h p n next) → InlinePlace s p n next
unfolding val_at
inline_place s at head h p n next e = of (front_at s at head) e
  where
    y : Option Val
    y = Some (Val.Inline h p n next)

    by : (h' : HistRef) (q : ℕ) (remote : Bool) → le_at 4 s q ≤ max_value
        → cond remote (cond (leb (q + 12) (length s)) (Some (Val.Remote h' (addr_of (le_at 8 s (q + 4))) (le_at 4 s q) (q + 12))) None)
        (cond (leb (q + 4 + le_at 4 s q) (length s)) (Some (Val.Inline h' (q + 4) (le_at 4 s q) (q + 4 + le_at 4 s q))) None) ≡ Some (Val.Inline h p n next) → InlinePlace s p n next
    by h' q true l e' =
        let a1 = ask (leb (q + 12) (length s)) _ None (Some (Val.Inline h p n next)) (inline_no h p n next) e' in
        absurd (let z : ◌≡◌ {A = ℕ} 0 1 = cc in omega arith)
    by h' q false l e' =
        let a1 = ask (leb (q + 4 + le_at 4 s q) (length s)) _ None (Some (Val.Inline h p n next)) (inline_no h p n next) e' in
        let x : q + 4 ≡ p = cc in
        let w : le_at 4 s q ≡ n = cc in
        let z : q + 4 + le_at 4 s q ≡ next = cc in
        record { whole = omega arith; small = omega arith; inside = omega (arith, leb-true (q + 4 + le_at 4 s q) (length s) a1.0) }

    of : (f : Option Front) → val_of s f ≡ Some (Val.Inline h p n next) → InlinePlace s p n next
    of (Some f) e' =
        let a1 = ask (leb (f.next + 4) (length s)) _ None (Some (Val.Inline h p n next)) (inline_no h p n next) e' in
        let a2 = ask (leb (le_at 4 s f.next) max_value) _ None (Some (Val.Inline h p n next)) (inline_no h p n next) a1.1 in
        by f.hist f.next f.remote (leb-true (le_at 4 s f.next) max_value a2.0) a2.1
    of None e' = absurd (inline_no h p n next e')

pub record RemotePlace (s : List ℕ) (n next : ℕ) : Type 0 where
  pub small : n ≤ max_value
  pub inside : next ≤ length s

pub remote-place : (s : List ℕ) (at : ℕ) (head : Bool) (h : HistRef) (a : Addr) (n next : ℕ) → val_at s at head ≡ Some (Val.Remote h a n next) → RemotePlace s n next
unfolding val_at
remote-place s at head h a n next e = of (front_at s at head) e
  where
    by : (h' : HistRef) (q : ℕ) (remote : Bool) → le_at 4 s q ≤ max_value
        → cond remote (cond (leb (q + 12) (length s)) (Some (Val.Remote h' (addr_of (le_at 8 s (q + 4))) (le_at 4 s q) (q + 12))) None)
        (cond (leb (q + 4 + le_at 4 s q) (length s)) (Some (Val.Inline h' (q + 4) (le_at 4 s q) (q + 4 + le_at 4 s q))) None) ≡ Some (Val.Remote h a n next) → RemotePlace s n next
    by h' q true l e' =
        let a1 = ask (leb (q + 12) (length s)) _ None (Some (Val.Remote h a n next)) (remote_no h a n next) e' in
        let w : le_at 4 s q ≡ n = cc in
        let z : q + 12 ≡ next = cc in
        record { small = omega arith; inside = omega (arith, leb-true (q + 12) (length s) a1.0) }
    by h' q false l e' =
        let a1 = ask (leb (q + 4 + le_at 4 s q) (length s)) _ None (Some (Val.Remote h a n next)) (remote_no h a n next) e' in
        absurd (let z : ◌≡◌ {A = ℕ} 0 1 = cc in omega arith)

    of : (f : Option Front) → val_of s f ≡ Some (Val.Remote h a n next) → RemotePlace s n next
    of (Some f) e' =
        let a1 = ask (leb (f.next + 4) (length s)) _ None (Some (Val.Remote h a n next)) (remote_no h a n next) e' in
        let a2 = ask (leb (le_at 4 s f.next) max_value) _ None (Some (Val.Remote h a n next)) (remote_no h a n next) a1.1 in
        by f.hist f.next f.remote (leb-true (le_at 4 s f.next) max_value a2.0) a2.1
    of None e' = absurd (remote_no h a n next e')
