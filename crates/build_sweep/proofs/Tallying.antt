-- The tally: one entry, and that a tally of all entries is what the image's definitions say.
-- Assumes nothing.
use mathlib.Core.Path.{◌≡◌, refl, ◌∙◌}
use mathlib.Core.List.{List, [], ◌∷◌}
use mathlib.Core.Bool.{Bool, true, false, not, cond}
use Prim.Native.Nat.{ℕ, ◌+◌, ◌-◌, ◌≤◌}
use native.Mathlib.Omega.{arith}
use lib.Dec.{ltb, eqb}
use lib.ListN.{length}
use Rattle.frames.specs.Limits.{max_key, max_value}
use Rattle.values.specs.Keys.{leaf_key_size}
use Rattle.values.specs.Vals.{size_of}
use Rattle.build_sources.specs.Source.{Entry, only, olds, heads}
use Rattle.build_image.specs.Sizes.{remote_len, remotes_len, key_len, sums, counted}
use Rattle.build_image.proofs.Lengths.{remote_most, key_most, size_most}
use Rattle.build_image.proofs.Leaf.{remotes}
use Rattle.build_sweep.specs.declared.Tally.{Tally}
use Rattle.build_sweep.specs.Tally.{nothing, with_old, with_head, with_one, tally_of}
use Rattle.build_sweep.specs.Bounds.{Bounded}

-- ---- one entry

pub one_most : (b c : Bool) → cond b (cond c 0 1) 1 ≤ 1
one_most true true = omega arith
one_most true false = omega arith
one_most false c = omega arith

pub remote-one_most : (b : Bool) → cond b 0 1 ≤ 1
remote-one_most true = omega arith
remote-one_most false = omega arith

pub second_most : (b : Bool) (limit n : ℕ) → n ≤ max_value → cond b (size_of true limit n) 0 ≤ 65600
second_most true limit n h = size_most true limit n h
second_most false limit n h = omega arith

pub old-is : (limit : ℕ) (t : Tally) (n kept x y z : ℕ) → x ≡ cond t.after (size_of true limit n) 0 → y ≡ cond (ltb n limit) (cond (eqb kept 0) 0 1) 1 → z ≡ cond (ltb n limit) 0 1
    → record { heads = t.heads; olds = t.olds + 1; sums = t.sums + x; counted = t.counted + y; remotes = t.remotes + z; aged = t.aged + z; remote = t.remote; after = false } ≡ with_old limit t n kept
old-is limit t n kept x y z ex ey ez = rw (ex, ey, ez) refl

pub head_is_lem : (limit p : ℕ) (t : Tally) (k n kept u v y z f : ℕ) → u ≡ key_len p k → v ≡ size_of false limit n → y ≡ cond (ltb n limit) (cond (eqb kept 0) 0 1) 1 → z ≡ cond (ltb n limit) 0 1
    → f ≡ remote_len limit n kept
    → record { heads = t.heads + 1; olds = t.olds; sums = t.sums + (u + v); counted = t.counted + y; remotes = t.remotes + z; aged = t.aged; remote = t.remote + f; after = true } ≡ with_head limit p t k n kept
head_is_lem limit p t k n kept u v y z f eu ev ey ez ef = rw (eu, ev, ey, ez, ef) refl

-- the size of a key by the bytes that are left of it
pub key_by : (p k n x : ℕ) → n ≡ k - p → x ≡ leaf_key_size n → x ≡ key_len p k
unfolding key_len
key_by p k n x e q = q ∙ rw e refl

module _ (limit p : ℕ) (t : Tally) (k n kept : ℕ) where
  pub with_old_lem : (b : Bool) → b ≡ true → with_old limit t n kept ≡ with_one limit p t b k n kept
  unfolding with_one
  with_old_lem b e = rw e refl

  pub with_head_lem : (b : Bool) → b ≡ false → with_head limit p t k n kept ≡ with_one limit p t b k n kept
  unfolding with_one
  with_head_lem b e = rw e refl

pub up : (t : Tally) (j k : ℕ) → j ≤ k → Bounded t j → Bounded t k
up t j k h b =
    record {
      heads = omega (arith, b.heads);
      olds = omega (arith, b.olds);
      sums = omega (arith, b.sums);
      counted = omega (arith, b.counted);
      remotes = omega (arith, b.remotes);
      aged = omega (arith, b.aged);
      remote = omega (arith, b.remote);
    }

pub one-bounded : (limit p : ℕ) (t : Tally) (old : Bool) (k n kept j : ℕ) → Bounded t j → k ≤ max_key → n ≤ max_value → Bounded (with_one limit p t old k n kept) (j + 1)
unfolding with_one
one-bounded limit p t true k n kept j b hk hn =
    record {
      heads = omega (arith, b.heads);
      olds = omega (arith, b.olds);
      sums = omega (arith, b.sums, second_most t.after limit n hn);
      counted = omega (arith, b.counted, one_most (ltb n limit) (eqb kept 0));
      remotes = omega (arith, b.remotes, remote-one_most (ltb n limit));
      aged = omega (arith, b.aged, remote-one_most (ltb n limit));
      remote = omega (arith, b.remote);
    }
one-bounded limit p t false k n kept j b hk hn =
    record {
      heads = omega (arith, b.heads);
      olds = omega (arith, b.olds);
      sums = omega (arith, b.sums, key_most p k, size_most false limit n hn);
      counted = omega (arith, b.counted, one_most (ltb n limit) (eqb kept 0));
      remotes = omega (arith, b.remotes, remote-one_most (ltb n limit));
      aged = omega (arith, b.aged);
      remote = omega (arith, b.remote, remote_most limit n kept);
    }

-- ---- what it is

pub tally_nil : (limit p : ℕ) (t : Tally) (es : List Entry) → es ≡ [] → tally_of limit p t es ≡ t
unfolding tally_of
tally_nil limit p t es e = rw e refl

module _ (limit p : ℕ) where
  heads_by : (t : Tally) (e : Entry) (hs : List Entry) (b : Bool) (k n kept : ℕ)
      → (with_one limit p t b k n kept).heads + length hs ≡ t.heads + length (cond (not b) (e ∷ hs) hs)
  unfolding with_one
  heads_by t e hs true k n kept = refl
  heads_by t e hs false k n kept = omega arith

  pub heads_are : (t : Tally) (es : List Entry) → (tally_of limit p t es).heads ≡ t.heads + length (heads es)
  unfolding tally_of only
  heads_are t [] = omega arith
  heads_are t (e ∷ es) = heads_are (with_one limit p t e.old (length e.key) (length e.val) e.kept) es ∙ heads_by t e (heads es) e.old (length e.key) (length e.val) e.kept

  olds_by : (t : Tally) (e : Entry) (os : List Entry) (b : Bool) (k n kept : ℕ)
      → (with_one limit p t b k n kept).olds + length os ≡ t.olds + length (cond b (e ∷ os) os)
  unfolding with_one
  olds_by t e os true k n kept = omega arith
  olds_by t e os false k n kept = refl

  pub olds_are : (t : Tally) (es : List Entry) → (tally_of limit p t es).olds ≡ t.olds + length (olds es)
  unfolding tally_of only
  olds_are t [] = omega arith
  olds_are t (e ∷ es) = olds_are (with_one limit p t e.old (length e.key) (length e.val) e.kept) es ∙ olds_by t e (olds es) e.old (length e.key) (length e.val) e.kept

  sums_by : (t : Tally) (b : Bool) (k n kept : ℕ) (es : List Entry)
      → (with_one limit p t b k n kept).sums + sums limit p (with_one limit p t b k n kept).after es
      ≡ t.sums + cond b (cond t.after (size_of true limit n) 0 + sums limit p false es) (key_len p k + size_of false limit n + sums limit p true es)
  unfolding with_one
  sums_by t true k n kept es = omega arith
  sums_by t false k n kept es = omega arith

  pub sums_are : (t : Tally) (es : List Entry) → (tally_of limit p t es).sums ≡ t.sums + sums limit p t.after es
  unfolding tally_of sums
  sums_are t [] = omega arith
  sums_are t (e ∷ es) = sums_are (with_one limit p t e.old (length e.key) (length e.val) e.kept) es ∙ sums_by t e.old (length e.key) (length e.val) e.kept es

  counted_by : (t : Tally) (b : Bool) (k n kept x : ℕ)
      → (with_one limit p t b k n kept).counted + x ≡ t.counted + (cond (ltb n limit) (cond (eqb kept 0) 0 1) 1 + x)
  unfolding with_one
  counted_by t true k n kept x = omega arith
  counted_by t false k n kept x = omega arith

  pub counted_are : (t : Tally) (es : List Entry) → (tally_of limit p t es).counted ≡ t.counted + counted limit es
  unfolding tally_of counted
  counted_are t [] = omega arith
  counted_are t (e ∷ es) = counted_are (with_one limit p t e.old (length e.key) (length e.val) e.kept) es ∙ counted_by t e.old (length e.key) (length e.val) e.kept (counted limit es)

  remotes_by : (t : Tally) (b : Bool) (k n kept x : ℕ) → (with_one limit p t b k n kept).remotes + x ≡ t.remotes + (cond (ltb n limit) 0 1 + x)
  unfolding with_one
  remotes_by t true k n kept x = omega arith
  remotes_by t false k n kept x = omega arith

  pub remotes_are : (t : Tally) (es : List Entry) → (tally_of limit p t es).remotes ≡ t.remotes + remotes limit es
  unfolding tally_of remotes
  remotes_are t [] = omega arith
  remotes_are t (e ∷ es) = remotes_are (with_one limit p t e.old (length e.key) (length e.val) e.kept) es ∙ remotes_by t e.old (length e.key) (length e.val) e.kept (remotes limit es)

  aged_by : (t : Tally) (e : Entry) (os : List Entry) (b : Bool) (k kept : ℕ)
      → (with_one limit p t b k (length e.val) kept).aged + remotes limit os ≡ t.aged + remotes limit (cond b (e ∷ os) os)
  unfolding with_one remotes
  aged_by t e os true k kept = omega arith
  aged_by t e os false k kept = refl

  pub aged_are : (t : Tally) (es : List Entry) → (tally_of limit p t es).aged ≡ t.aged + remotes limit (olds es)
  unfolding tally_of only remotes
  aged_are t [] = omega arith
  aged_are t (e ∷ es) = aged_are (with_one limit p t e.old (length e.key) (length e.val) e.kept) es ∙ aged_by t e (olds es) e.old (length e.key) e.kept

  remote_by : (t : Tally) (e : Entry) (hs : List Entry) (b : Bool) (k : ℕ)
      → (with_one limit p t b k (length e.val) e.kept).remote + remotes_len limit hs ≡ t.remote + remotes_len limit (cond (not b) (e ∷ hs) hs)
  unfolding with_one remotes_len
  remote_by t e hs true k = refl
  remote_by t e hs false k = omega arith

  pub remote-is : (t : Tally) (es : List Entry) → (tally_of limit p t es).remote ≡ t.remote + remotes_len limit (heads es)
  unfolding tally_of only remotes_len
  remote-is t [] = omega arith
  remote-is t (e ∷ es) = remote-is (with_one limit p t e.old (length e.key) (length e.val) e.kept) es ∙ remote_by t e (heads es) e.old (length e.key)
