-- Lengths of what is written: versions, keys, values; and the sizes that a builder counts with.
-- Assumes nothing.
use mathlib.Core.Path.{◌≡◌, refl, sym, ap, ap₂, ◌∙◌}
use mathlib.Core.List.{List, [], ◌∷◌, ◌++◌}
use mathlib.Core.Bool.{Bool, true, false, cond}
use Prim.Native.Nat.{ℕ, zero, suc, ◌+◌, ◌≤◌, ◌<◌}
use native.Mathlib.Omega.{arith}
use borrow.Author.Tests.{lt-ltb, le-ltb}
use lib.Dec.{eqb, ltb}
use lib.ListN.{length, length-append}
use Rattle.numbers.specs.Number.{le}
use Rattle.numbers.proofs.Numbers.{length-le}
use Rattle.lengths.specs.Leb128.{uleb}
use Rattle.order.specs.declared.Ver.{Ver}
use Rattle.values.specs.declared.HistRef.{HistRef}
use Rattle.values.specs.Keys.{ver_bytes, leaf_front, leaf_key, index_key, leaf_key_size, index_key_size}
use Rattle.values.specs.Vals.{flag_of, hist_bytes, front_bytes, front_size, inline_bytes, remote_bytes, hist_size, size_of}

pub length-ver : (v : Ver) → length (ver_bytes v) ≡ 12
unfolding ver_bytes
length-ver v = simp (length-append, length-le) refl

pub length-leaf_front : (v : Ver) (n : ℕ) → length (leaf_front v n) ≡ length (uleb (12 + n)) + 12
unfolding leaf_front
length-leaf_front v n = length-append (uleb (12 + n)) (ver_bytes v) ∙ ap (λ (k : ℕ). length (uleb (12 + n)) + k) (length-ver v)

pub length-leaf_key : (v : Ver) (rest : List ℕ) → length (leaf_key v rest) ≡ length (uleb (12 + length rest)) + 12 + length rest
unfolding leaf_key
length-leaf_key v rest = length-append (leaf_front v (length rest)) rest ∙ ap (λ (k : ℕ). k + length rest) (length-leaf_front v (length rest))

pub length-index_key : (rest : List ℕ) → length (index_key rest) ≡ length (uleb (length rest)) + length rest
unfolding index_key
length-index_key rest = length-append (uleb (length rest)) rest

-- the sizes of keys
pub leaf_key-size_lem : (v : Ver) (rest : List ℕ) → length (leaf_key v rest) ≡ leaf_key_size (length rest)
unfolding leaf_key_size
leaf_key-size_lem v rest = omega (arith, length-leaf_key v rest)

pub index_key-size_lem : (rest : List ℕ) → length (index_key rest) ≡ index_key_size (length rest)
unfolding index_key_size
index_key-size_lem rest = length-index_key rest

-- a history reference takes 14 bytes where there is one
pub length_hist : (h : HistRef) → length (hist_bytes h) ≡ cond (eqb h.count 0) 0 14
unfolding hist_bytes
length_hist h = go (eqb h.count 0)
  where
    go : (b : Bool) → length (cond b [] (le 8 h.page.0 ++ (le 2 h.slot ++ le 4 h.count))) ≡ cond b 0 14
    go true = refl
    go false = simp (length-append, length-le) refl

pub length_front : (h : HistRef) (remote : Bool) (n : ℕ) → length (front_bytes h remote n) ≡ front_size h.count
unfolding front_bytes front_size
length_front h remote n =
    length-append (le 1 (flag_of h.count remote)) (hist_bytes h ++ le 4 n)
    ∙ ap₂ (λ (x y : ℕ). x + y) (length-le 1 (flag_of h.count remote))
    (length-append (hist_bytes h) (le 4 n) ∙ ap₂ (λ (x y : ℕ). x + y) (length_hist h) (length-le 4 n))
    ∙ go (eqb h.count 0)
  where
    go : (b : Bool) → 1 + (cond b 0 14 + 4) ≡ cond b 5 19
    go true = refl
    go false = refl

pub length_inline : (h : HistRef) (v : List ℕ) → length (inline_bytes h v) ≡ front_size h.count + length v
unfolding inline_bytes
length_inline h v = length-append (front_bytes h false (length v)) v ∙ ap (λ (k : ℕ). k + length v) (length_front h false (length v))

pub length-remote : (h : HistRef) (n a : ℕ) → length (remote_bytes h n a) ≡ front_size h.count + 8
unfolding remote_bytes
length-remote h n a =
    length-append (front_bytes h true n) (le 8 a) ∙ ap₂ (λ (x y : ℕ). x + y) (length_front h true n) (length-le 8 a)

-- the size that is counted is the number of bytes written: inline below the limit, remote at or above it
front-size : (count : ℕ) → front_size count ≡ hist_size (cond (eqb count 0) false true) + 5
unfolding front_size
front-size count = go (eqb count 0)
  where
    go : (b : Bool) → cond b 5 19 ≡ hist_size (cond b false true) + 5
    go true = refl
    go false = refl

pub size_inline : (h : HistRef) (v : List ℕ) (limit : ℕ) → length v < limit → length (inline_bytes h v) ≡ size_of (cond (eqb h.count 0) false true) limit (length v)
unfolding size_of
size_inline h v limit l = omega (arith, length_inline h v, front-size h.count, ap (λ (b : Bool). cond b (5 + length v) 13) (lt-ltb (length v) limit l))

pub size-remote : (h : HistRef) (n a limit : ℕ) → limit ≤ n → length (remote_bytes h n a) ≡ size_of (cond (eqb h.count 0) false true) limit n
unfolding size_of
size-remote h n a limit l = omega (arith, length-remote h n a, front-size h.count, ap (λ (b : Bool). cond b (5 + n) 13) (le-ltb n limit l))

-- without and with history, inline and remote
pub sizes : (n limit : ℕ) → (n < limit → (size_of false limit n ≡ 5 + n) × (size_of true limit n ≡ 19 + n)) × (limit ≤ n → (size_of false limit n ≡ 13) × (size_of true limit n ≡ 27))
unfolding size_of
sizes n limit = (
  λ l. let e = ap (λ (b : Bool). cond b (5 + n) 13) (lt-ltb n limit l) in (omega (arith, e), omega (arith, e)),
  λ l. let e = ap (λ (b : Bool). cond b (5 + n) 13) (le-ltb n limit l) in (omega (arith, e), omega (arith, e)),
)

pub hist_some : (h : HistRef) → eqb h.count 0 ≡ false → hist_bytes h ≡ le 8 h.page.0 ++ (le 2 h.slot ++ le 4 h.count)
unfolding hist_bytes
hist_some h e = ap (λ (b : Bool). cond b [] (le 8 h.page.0 ++ (le 2 h.slot ++ le 4 h.count))) e

pub hist_none : (h : HistRef) → eqb h.count 0 ≡ true → hist_bytes h ≡ []
unfolding hist_bytes
hist_none h e = ap (λ (b : Bool). cond b [] (le 8 h.page.0 ++ (le 2 h.slot ++ le 4 h.count))) e

pub front-small : (count : ℕ) → front_size count ≤ 19
unfolding front_size
front-small count = go (eqb count 0)
  where
    go : (b : Bool) → cond b 5 19 ≤ 19
    go true = omega arith
    go false = omega arith

pub front-some : (count : ℕ) → 5 ≤ front_size count
unfolding front_size
front-some count = go (eqb count 0)
  where
    go : (b : Bool) → 5 ≤ cond b 5 19
    go true = omega arith
    go false = omega arith

-- a front is the flag, the reference and the size
pub front_parts : (h : HistRef) → 1 + (length (hist_bytes h) + 4) ≡ front_size h.count
unfolding front_size
front_parts h = ap (λ (k : ℕ). 1 + (k + 4)) (length_hist h) ∙ go (eqb h.count 0)
  where
    go : (b : Bool) → 1 + (cond b 0 14 + 4) ≡ cond b 5 19
    go true = refl
    go false = refl
