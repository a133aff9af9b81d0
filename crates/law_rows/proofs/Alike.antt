-- Whether entries rise depends on their keys and versions alone, whether they begin with a prefix on their keys.
-- Assumes nothing.
use Prim.Native.Nat.{ℕ}
use mathlib.Core.Path.{◌≡◌, refl, sym, ap, ap₂, ◌∙◌}
use mathlib.Core.Bool.{Bool, false, cond}
use mathlib.Core.List.{List, [], ◌∷◌, map}
use native.Mathlib.Omega.{arith}
use lib.ListN.{length, get_or, drop}
use Rattle.order.specs.declared.Ver.{Ver}
use Rattle.order.specs.Version.{ver_of}
use Rattle.order.specs.Order.{cmp_bytes, starts_with}
use Rattle.pages.specs.Meaning.{Child}
use Rattle.walks.specs.Listed.{Entry as Listed}
use Rattle.build_sources.specs.Source.{Entry}
use Rattle.build_sources.specs.Marks.{Each}
use Rattle.build_sources.specs.Judged.{above_by, above, rising_from, rising, prefixed}
use Rattle.law_rows.specs.Pairs.{bare, child, NoVersion}

abbrev pub keys_of : List Entry → List (List ℕ)
keys_of es = map (λ (e : Entry). e.key) es

abbrev pub vers_of : List Entry → List Ver
vers_of es = map (λ (e : Entry). e.ver) es

none_one : {A : Type 0} (x : A) (xs : List A) → [] ≡ x ∷ xs → ⊥
none_one x xs e = let z = ap length e in omega arith

one_none : {A : Type 0} (x : A) (xs : List A) → x ∷ xs ≡ [] → ⊥
one_none x xs e = let z = ap length e in omega arith

first-is : {A : Type 0} (d x y : A) (xs ys : List A) → x ∷ xs ≡ y ∷ ys → x ≡ y
first-is {A} d x y xs ys e = ap (λ (l : List A). get_or l 0 d) e

rest-is : {A : Type 0} (x y : A) (xs ys : List A) → x ∷ xs ≡ y ∷ ys → xs ≡ ys
rest-is {A} x y xs ys e = ap (λ (l : List A). drop 1 l) e

from-alike : (a b : Entry) (es fs : List Entry) → a.key ≡ b.key → a.ver ≡ b.ver → keys_of es ≡ keys_of fs → vers_of es ≡ vers_of fs → rising_from a es ≡ rising_from b fs
unfolding rising_from above
from-alike a b [] [] k v p q = refl
from-alike a b [] (f ∷ fs) k v p q = absurd (none_one f.key (keys_of fs) p)
from-alike a b (e ∷ es) [] k v p q = absurd (one_none e.key (keys_of es) p)
from-alike a b (e ∷ es) (f ∷ fs) k v p q =
    let x = first-is [] e.key f.key (keys_of es) (keys_of fs) p in
    let y = first-is (ver_of 0 0) e.ver f.ver (vers_of es) (vers_of fs) q in
    let r = from-alike e f es fs x y (rest-is e.key f.key (keys_of es) (keys_of fs) p) (rest-is e.ver f.ver (vers_of es) (vers_of fs) q) in
    ap (λ (t : Bool). cond (above_by (cmp_bytes a.key e.key) a.ver e.ver) t false) r
    ∙ ap₂ (λ (c : List ℕ) (u : Ver). cond (above_by (cmp_bytes c e.key) u e.ver) (rising_from f fs) false) k v
    ∙ ap₂ (λ (c : List ℕ) (u : Ver). cond (above_by (cmp_bytes b.key c) b.ver u) (rising_from f fs) false) x y

pub rising-alike : (es fs : List Entry) → keys_of es ≡ keys_of fs → vers_of es ≡ vers_of fs → rising es ≡ rising fs
unfolding rising
rising-alike [] [] p q = refl
rising-alike [] (f ∷ fs) p q = absurd (none_one f.key (keys_of fs) p)
rising-alike (e ∷ es) [] p q = absurd (one_none e.key (keys_of es) p)
rising-alike (e ∷ es) (f ∷ fs) p q =
    from-alike e f es fs (first-is [] e.key f.key (keys_of es) (keys_of fs) p) (first-is (ver_of 0 0) e.ver f.ver (vers_of es) (vers_of fs) q) (rest-is e.key f.key (keys_of es) (keys_of fs) p) (rest-is e.ver f.ver (vers_of es) (vers_of fs) q)

pub prefixed-alike : (pre : List ℕ) (es fs : List Entry) → keys_of es ≡ keys_of fs → prefixed pre es ≡ prefixed pre fs
unfolding prefixed
prefixed-alike pre [] [] p = refl
prefixed-alike pre [] (f ∷ fs) p = absurd (none_one f.key (keys_of fs) p)
prefixed-alike pre (e ∷ es) [] p = absurd (one_none e.key (keys_of es) p)
prefixed-alike pre (e ∷ es) (f ∷ fs) p =
    let x = first-is [] e.key f.key (keys_of es) (keys_of fs) p in
    ap₂ (λ (k : List ℕ) (b : Bool). cond (starts_with pre k) b false) x (prefixed-alike pre es fs (rest-is e.key f.key (keys_of es) (keys_of fs) p))

-- ---- keys and versions of entries that say the same

leaf_keys : (es : List Entry) → keys_of es ≡ map (λ (r : Listed). r.key) (map bare es)
unfolding bare
leaf_keys [] = refl
leaf_keys (e ∷ es) = ap (λ (l : List (List ℕ)). e.key ∷ l) (leaf_keys es)

leaf_vers : (es : List Entry) → vers_of es ≡ map (λ (r : Listed). r.ver) (map bare es)
unfolding bare
leaf_vers [] = refl
leaf_vers (e ∷ es) = ap (λ (l : List Ver). e.ver ∷ l) (leaf_vers es)

index_keys : (es : List Entry) → keys_of es ≡ map (λ (c : Child). c.key) (map child es)
unfolding child
index_keys [] = refl
index_keys (e ∷ es) = ap (λ (l : List (List ℕ)). e.key ∷ l) (index_keys es)

index_vers : (es : List Entry) → Each NoVersion es → vers_of es ≡ map (λ (k : List ℕ). ver_of 0 0) (keys_of es)
unfolding Each
index_vers [] n = refl
index_vers (e ∷ es) n = ap₂ (λ (v : Ver) (l : List Ver). v ∷ l) n.0 (index_vers es n.1)

-- the same keys and versions
pub record Alike (es fs : List Entry) : Type 0 where
  pub keys : keys_of es ≡ keys_of fs
  pub vers : vers_of es ≡ vers_of fs

pub leaves_alike : (es fs : List Entry) → map bare es ≡ map bare fs → Alike es fs
leaves_alike es fs e =
    record {
      keys = leaf_keys es ∙ ap (map (λ (r : Listed). r.key)) e ∙ sym (leaf_keys fs);
      vers = leaf_vers es ∙ ap (map (λ (r : Listed). r.ver)) e ∙ sym (leaf_vers fs);
    }

pub indexes-alike : (es fs : List Entry) → map child es ≡ map child fs → Each NoVersion es → Each NoVersion fs → Alike es fs
indexes-alike es fs e n m =
    let k : keys_of es ≡ keys_of fs = index_keys es ∙ ap (map (λ (c : Child). c.key)) e ∙ sym (index_keys fs) in
    record { keys = k; vers = index_vers es n ∙ ap (map (λ (c : List ℕ). ver_of 0 0)) k ∙ sym (index_vers fs m) }
