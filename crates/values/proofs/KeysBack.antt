-- Versions and keys: what was written reads back, and what was read is what would have been written.
-- Assumes nothing.
use mathlib.Core.Path.{◌≡◌, refl, sym, ap, ap₂, ◌∙◌, subst}
use mathlib.Core.List.{List, [], ◌∷◌, ◌++◌}
use mathlib.Core.Bool.{Bool, true, false, cond}
use Prim.Native.Nat.{ℕ, zero, suc, ◌+◌, ◌-◌, ◌^◌, ◌≤◌, ◌<◌}
use native.Mathlib.Omega.{arith}
use borrow.Author.Tests.{le-leb, lt-leb, leb-true}
use lib.Dec.{leb, eqb}
use lib.ListN.{length, length-append}
use Rattle.spans.specs.Span.{part, Lies}
use Rattle.spans.proofs.Part.{length_part}
use Rattle.spans.proofs.Tests.{ask}
use Rattle.spans.proofs.Lying.{lies_front, lies_back, lies_in, lies_part, lies_append, part_lies}
use Rattle.numbers.specs.Number.{le, le_at, Bytes}
use Rattle.numbers.proofs.Numbers.{length-le, lies_le, le_lies}
use Rattle.lengths.specs.Leb128.{uleb, read_len}
use Rattle.lengths.proofs.Laws.{read_lies, lies_read, uleb-some}
use Rattle.order.specs.declared.Ver.{Ver}
use Rattle.order.specs.Version.{ver_of}
use Rattle.frames.specs.Limits.{max_key}
use Rattle.values.specs.Keys.{ver_bytes, ver_in, leaf_front, leaf_key, index_key, skip_of, key_of, key_at, key_parts}
use Rattle.values.proofs.Laws.{length-ver, length-leaf_front}
use Rattle.std.proofs.Common.{Option, Some, None}

-- a version's numbers fit their fields
pub record SmallVer (v : Ver) : Type 0 where
  pub txid : v.txid < 256 ^ 8
  pub cmd : v.cmd < 256 ^ 4

-- ---- versions

module _ (s : List ℕ) (at : ℕ) (v : Ver) where
  pub ver_back : SmallVer v → Lies s at (ver_bytes v) → ver_in s at ≡ v
  unfolding ver_bytes ver_in
  ver_back w h =
      let a = lies_front s at (le 8 v.txid) (le 4 v.cmd) h in
      let e8 : at + length (le 8 v.txid) ≡ at + 8 = ap (λ (k : ℕ). at + k) (length-le 8 v.txid) in
      let b = subst (λ (k : ℕ). Lies s k (le 4 v.cmd)) e8 (lies_back s at (le 8 v.txid) (le 4 v.cmd) h) in
      ap₂ ver_of (lies_le s at 8 v.txid w.txid a) (lies_le s (at + 8) 4 v.cmd w.cmd b)

  pub ver-read : Bytes s → at + 12 ≤ length s → ver_in s at ≡ v → Lies s at (ver_bytes v)
  unfolding ver_in ver_bytes
  ver-read hb room e =
      let t : le_at 8 s at ≡ v.txid = ap (λ (r : Ver). r.txid) e in
      let d : le_at 4 s (at + 8) ≡ v.cmd = ap (λ (r : Ver). r.cmd) e in
      let e8 : at + 8 ≡ at + length (le 8 v.txid) = ap (λ (k : ℕ). at + k) (sym (length-le 8 v.txid)) in
      lies_append s at (le 8 v.txid) (le 4 v.cmd)
      (subst (λ (n : ℕ). Lies s at (le 8 n)) t (le_lies s at 8 (omega arith) hb))
      (subst (λ (k : ℕ). Lies s k (le 4 v.cmd)) e8 (subst (λ (n : ℕ). Lies s (at + 8) (le 4 n)) d (le_lies s (at + 8) 4 (omega arith) hb)))

-- ---- keys: a length n that counts `skip` bytes and a rest

module _ (s : List ℕ) (at kind : ℕ) (leaf : eqb kind 2 ≡ false) where
  pub key-is : (n next : ℕ) → read_len s at ≡ Some (n, next) → skip_of kind ≤ n → next + n ≤ length s
      → key_at s at kind ≡ Some (key_parts next (next + skip_of kind) (n - skip_of kind))
  unfolding key_at
  key-is n next e h r =
      simp (leaf, e, le-leb (skip_of kind) n h, le-leb (next + n) (length s) r)

-- what was written reads back: the places of version and rest
module _ (s : List ℕ) (at : ℕ) (v : Ver) (rest : List ℕ) (small : length rest ≤ max_key) (w : SmallVer v) (h : Lies s at (leaf_key v rest)) where
  abbrev n : ℕ
  n = length (uleb (12 + length rest))

  front : Lies s at (leaf_front v (length rest))
  unfolding leaf_key
  front = lies_front s at (leaf_front v (length rest)) rest h

  some : 0 < length (leaf_front v (length rest))
  some = omega (arith, length-leaf_front v (length rest))

  lead : Lies s at (uleb (12 + length rest))
  unfolding leaf_front
  lead = lies_front s at (uleb (12 + length rest)) (ver_bytes v) front

  pub leaf_rest : Lies s (at + n + 12) rest
  unfolding leaf_key
  leaf_rest =
      let e : at + length (leaf_front v (length rest)) ≡ at + n + 12 = omega (arith, length-leaf_front v (length rest)) in
      subst (λ (k : ℕ). Lies s k rest) e (lies_back s at (leaf_front v (length rest)) rest h)

  pub leaf_version : ver_in s (at + n) ≡ v
  unfolding leaf_front
  leaf_version = ver_back s (at + n) v w (lies_back s at (uleb (12 + length rest)) (ver_bytes v) front)

  room : at + n + (12 + length rest) ≤ length s
  unfolding leaf_key
  room =
      omega
      (arith, lies_in s at (leaf_key v rest) (omega (arith, length-append (leaf_front v (length rest)) rest, some)) h, length-append (leaf_front v (length rest)) rest, length-leaf_front v (length rest))

  pub leaf_back : key_at s at 0 ≡ Some (key_parts (at + n) (at + n + 12) (length rest))
  unfolding skip_of
  leaf_back =
      let e : 12 + length rest - 12 ≡ length rest = omega arith in
      key-is s at 0 refl (12 + length rest) (at + n) (read_lies s at (12 + length rest) (omega arith) lead) (omega arith) room
      ∙ ap (λ (k : ℕ). Some (key_parts (at + n) (at + n + 12) k)) e

module _ (s : List ℕ) (at : ℕ) (rest : List ℕ) (small : length rest ≤ max_key) (h : Lies s at (index_key rest)) where
  abbrev m : ℕ
  m = length (uleb (length rest))

  lead' : Lies s at (uleb (length rest))
  unfolding index_key
  lead' = lies_front s at (uleb (length rest)) rest h

  pub index_rest : Lies s (at + m) rest
  unfolding index_key
  index_rest = lies_back s at (uleb (length rest)) rest h

  pub index_back : key_at s at 1 ≡ Some (key_parts (at + m) (at + m + 0) (length rest))
  unfolding skip_of index_key
  index_back =
      let some : 0 < length (uleb (length rest)) = uleb-some (length rest) (omega arith) in
      let room : at + m + length rest ≤ length s =
      omega (arith, lies_in s at (index_key rest) (omega (arith, length-append (uleb (length rest)) rest, some)) h, length-append (uleb (length rest)) rest) in
      key-is s at 1 refl (length rest) (at + m) (read_lies s at (length rest) (omega arith) lead') (omega arith) room
      ∙ ap (λ (k : ℕ). Some (key_parts (at + m) (at + m + 0) k)) (omega arith)

-- what was read is what would have been written
module _ (s : List ℕ) (at kind ver rest n : ℕ) (hb : Bytes s) where
  bad : None ≡ Some (key_parts ver rest n) → ⊥
  bad e = let z : ◌≡◌ {A = ℕ} 0 1 = cc in omega arith

  -- a leaf's or an index page's key: a length that lies there, of what it skips and the rest
  pub record Framed : Type 0 where
    pub lead : Lies s at (uleb (skip_of kind + n))
    pub ver-at : ver ≡ at + length (uleb (skip_of kind + n))
    pub rest_at : rest ≡ ver + skip_of kind
    pub ends : rest + n ≤ length s

  same : (next m : ℕ) → Some (key_parts next (next + skip_of kind) (m - skip_of kind)) ≡ Some (key_parts ver rest n) → (next ≡ ver) × (next + skip_of kind ≡ rest) × (m - skip_of kind ≡ n)
  same next m e = (grind arith, grind arith, grind arith)

  framed : (r : Option (ℕ × ℕ)) → read_len s at ≡ r → key_of s kind r ≡ Some (key_parts ver rest n) → Framed
  framed None q e = absurd (bad e)
  framed (Some (m, next)) q e =
      let a = ask (leb (skip_of kind) m) (cond (leb (next + m) (length s)) (Some (key_parts next (next + skip_of kind) (m - skip_of kind))) None) None (Some (key_parts ver rest n)) bad e in
      let b = ask (leb (next + m) (length s)) (Some (key_parts next (next + skip_of kind) (m - skip_of kind))) None (Some (key_parts ver rest n)) bad a.1 in
      let g = same next m b.1 in
      let l = lies_read s at m next hb q in
      let skip : skip_of kind ≤ m = leb-true (skip_of kind) m a.0 in
      let room : next + m ≤ length s = leb-true (next + m) (length s) b.0 in
      let k : m ≡ skip_of kind + n = omega (arith, g.2) in
      record {
        lead = subst (λ (x : ℕ). Lies s at (uleb x)) k l.0;
        ver-at = sym g.0 ∙ l.1 ∙ ap (λ (x : ℕ). at + length (uleb x)) k;
        rest_at = omega (arith, g.0, g.1);
        ends = omega (arith, g.0, g.1, g.2);
      }

  pub key-read : eqb kind 2 ≡ false → key_at s at kind ≡ Some (key_parts ver rest n) → Framed
  unfolding key_at
  key-read leaf e =
      framed (read_len s at) refl
      (sym (ap (λ (b : Bool). cond b (cond (leb (at + 12) (length s)) (Some (key_parts at (at + 12) 0)) None) (key_of s kind (read_len s at))) leaf) ∙ e)
