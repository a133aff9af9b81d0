-- The first and the last key of a list that rises decide whether its boundaries enclose it.
-- Assumes nothing.
use mathlib.Core.Path.{◌≡◌, refl, sym, ap, ap₂, ◌∙◌}
use mathlib.Core.List.{List, [], ◌∷◌, map}
use mathlib.Core.Bool.{Bool, true, false, not, cond, ◌&&◌}
use Prim.Native.Nat.{ℕ, ◌+◌, ◌≤◌, ◌<◌}
use native.Mathlib.Omega.{arith}
use lib.ListN.{length}
use lib.Dec.{leb, eqb}
use borrow.Author.Tests.{leb-true, leb-false, eqb-true, eqb-false, eq-eqb, ne_eqb}
use Rattle.spans.specs.Span.{part_or}
use Rattle.spans.proofs.Tests.{ask}
use Rattle.numbers.specs.Number.{be_at}
use Rattle.order.specs.Order.{cmp_bytes, is_less}
use Rattle.order.specs.Bounds.{below_by, below_hi, spanned}
use Rattle.order.proofs.Bounds.{last_of, ends_decide, no_keys}
use Rattle.frames.specs.Limits.{max_key, max_value}
use Rattle.build_sources.specs.Lists.{first_of, record_item, index_item}
use Rattle.build_sources.specs.Source.{Entry, entry_of, entries}
use Rattle.build_sources.specs.Judged.{rising, enclosed}
use Rattle.build_sources.proofs.Judging.{ascending}
use Rattle.build_sources.proofs.Sourced.{found, ended, odd}
use Rattle.build_sources.proofs.Stepped.{record_end}
use Rattle.build_sweep.specs.Ents.{ent_at, index_ent_at}
use Rattle.build_sweep.specs.Swept.{listed, last_key, Ended, spans_ends}
use Rattle.build_sweep.proofs.Ents.{step_at_lem, step_out, index_at_lem, index_out, index_end_lem, key-bare}
use Rattle.std.proofs.Common.{Option, Some, None}
use Rattle.std.specs.declared.cmp.Ordering.{Ordering}

abbrev keys : List Entry → List (List ℕ)
keys es = map (λ (e : Entry). e.key) es

last-keys : (k : List ℕ) (es : List Entry) → last_key k es ≡ last_of k (keys es)
unfolding last_key last_of
last-keys k [] = refl
last-keys k (e ∷ es) = last-keys e.key es

-- entries that rise, by their first and their last key
some-enclosed : (lo hi : List ℕ) (e : Entry) (es : List Entry) → rising (e ∷ es) ≡ true → spanned lo hi e.key (last_key [] (e ∷ es)) ≡ enclosed lo hi (e ∷ es)
unfolding rising last_key
some-enclosed lo hi e es h = ap (spanned lo hi e.key) (last-keys e.key es) ∙ ends_decide lo hi e.key (keys es) (ascending e es h)

none_enclosed : (lo hi : List ℕ) (es : List Entry) → length es ≡ 0 → below_hi lo hi ≡ enclosed lo hi es
none_enclosed lo hi [] z = no_keys lo hi
none_enclosed lo hi (e ∷ es) z = absurd (omega arith)

-- ---- the first entry of a list that has one: its key stands at 7, behind its length

pub record First (l : List ℕ) (source : ℕ) : Type 0 where
  pub rest : List Entry
  pub head : Entry
  pub list : listed l source ≡ head ∷ rest
  pub key : head.key ≡ part_or l 7 (be_at 2 l 5)
  pub long : 7 ≤ length l

no_ent : {k v : ℕ} → ◌≡◌ {A = Option (ℕ × ℕ)} None (Some (k, v)) → ⊥
no_ent e = let z : ◌≡◌ {A = ℕ} 0 1 = cc in omega arith

nothing_there : (es : List Entry) → es ≡ [] → 0 < length es → ⊥
nothing_there es e h = absurd (omega (arith, ap length e, h))

ent-key : (s : List ℕ) (at k v : ℕ) → ent_at s at ≡ Some (k, v) → (k ≡ be_at 2 s at) × (at + 2 ≤ length s)
unfolding ent_at
ent-key s at k v e =
    let j = be_at 2 s at in
    let u = be_at 4 s (at + 2 + j + 12) in
    let a₁ = ask (leb (at + 2) (length s)) _ None (Some (k, v)) no_ent e in
    let a₂ = ask (leb j max_key) _ None (Some (k, v)) no_ent a₁.1 in
    let a₃ = ask (leb (at + 2 + (j + 16)) (length s)) _ None (Some (k, v)) no_ent a₂.1 in
    let a₄ = ask (leb u max_value) _ None (Some (k, v)) no_ent a₃.1 in
    let a₅ = ask (leb (at + 2 + j + 16 + u) (length s)) (Some (j, u)) None (Some (k, v)) no_ent a₄.1 in
    let q : k ≡ be_at 2 s at = let z = a₅.1 in grind arith in
    (q, leb-true _ _ a₁.0)

index_key_lem : (s : List ℕ) (at k v : ℕ) → index_ent_at s at ≡ Some (k, v) → (k ≡ be_at 2 s at) × (at + 2 ≤ length s)
unfolding index_ent_at
index_key_lem s at k v e =
    let j = be_at 2 s at in
    let a₁ = ask (leb (at + 2) (length s)) _ None (Some (k, v)) no_ent e in
    let a₂ = ask (leb j max_key) _ None (Some (k, v)) no_ent a₁.1 in
    let a₃ = ask (leb (at + 2 + (j + 8)) (length s)) (Some (j, 0)) None (Some (k, v)) no_ent a₂.1 in
    let q : k ≡ be_at 2 s at = let z = a₃.1 in grind arith in
    (q, leb-true _ _ a₁.0)

module _ (l : List ℕ) where
  record_by : 5 < length l → 0 < length (listed l 0) → (e : Option (ℕ × ℕ)) → ent_at l 5 ≡ e → First l 0
  unfolding entry_of
  record_by lt some (Some (k, v)) q =
      let f = found l [] (first_of 0) (record_item l (first_of 0) k v) _ (step_at_lem l [] 5 false 0 0 lt k v (sym q)) in
      let z = ent-key l 5 k v q in
      record { rest = _; head = entry_of l [] (record_item l (first_of 0) k v); list = f.list; key = key-bare l 7 k ∙ ap (part_or l 7) z.0; long = omega (arith, z.1) }
  record_by lt some None q = absurd (nothing_there (listed l 0) (odd l [] (first_of 0) (step_out l [] 5 false 0 0 lt (sym q))).0 some)

  index_by : 5 < length l → 0 < length (listed l 1) → (e : Option (ℕ × ℕ)) → index_ent_at l 5 ≡ e → First l 1
  unfolding entry_of
  index_by lt some (Some (k, v)) q =
      let f = found l [] (first_of 1) (index_item l (first_of 1) k) _ (index_at_lem l [] 5 false 0 0 lt k v (sym q)) in
      let z = index_key_lem l 5 k v q in
      record { rest = _; head = entry_of l [] (index_item l (first_of 1) k); list = f.list; key = key-bare l 7 k ∙ ap (part_or l 7) z.0; long = omega (arith, z.1) }
  index_by lt some None q = absurd (nothing_there (listed l 1) (odd l [] (first_of 1) (index_out l [] 5 false 0 0 lt (sym q))).0 some)

  pub first_record : 0 < length (listed l 0) → First l 0
  first_record some = go (leb (length l) 5) refl
    where
      go : (b : Bool) → leb (length l) 5 ≡ b → First l 0
      go true q = absurd (nothing_there (listed l 0) (ended l [] (first_of 0) (sym (record_end l [] (first_of 0) refl (leb-true _ _ q)))).0 some)
      go false q = record_by (leb-false _ _ q) some (ent_at l 5) refl

  pub first_index : 0 < length (listed l 1) → First l 1
  first_index some = go (leb (length l) 5) refl
    where
      go : (b : Bool) → leb (length l) 5 ≡ b → First l 1
      go true q = absurd (nothing_there (listed l 1) (ended l [] (first_of 1) (index_end_lem l [] 5 false 0 0 (leb-true _ _ q))).0 some)
      go false q = index_by (leb-false _ _ q) some (index_ent_at l 5) refl

-- ---- both ends

module _ (l : List ℕ) (source n kat klen : ℕ) (h : Ended l source n kat klen) (first : 0 < length (listed l source) → First l source) where
  some : (n ≡ 0 → ⊥) → 0 < length (listed l source)
  some nz = omega (arith, h.count, nz)

  pub ends-long : (n ≡ 0 → ⊥) → 7 ≤ length l
  ends-long nz = (first (some nz)).long

  pub ends_enclose : (lo hi : List ℕ) → spans_ends l n kat klen lo hi ≡ enclosed lo hi (listed l source)
  unfolding spans_ends
  ends_enclose lo hi = go (eqb n 0) refl
    where
      go : (b : Bool) → eqb n 0 ≡ b → cond b (below_hi lo hi) (spanned lo hi (part_or l 7 (be_at 2 l 5)) (part_or l kat klen)) ≡ enclosed lo hi (listed l source)
      go true q = none_enclosed lo hi (listed l source) (omega (arith, h.count, eqb-true n 0 q))
      go false q =
          let z = some (eqb-false n 0 q) in
          let f = first z in
          ap₂ (spanned lo hi) (sym f.key) (h.last z)
          ∙ ap (λ (es : List Entry). spanned lo hi f.head.key (last_key [] es)) f.list
          ∙ some-enclosed lo hi f.head f.rest (ap rising (sym f.list) ∙ h.rises)
          ∙ ap (enclosed lo hi) (sym f.list)

-- what the code compares
module _ (l : List ℕ) (n kat klen : ℕ) (lo hi : List ℕ) where
  pub spans_none : n ≡ 0 → (o : Ordering) → o ≡ cmp_bytes lo hi → (r : Bool) → r ≡ below_by o hi → r ≡ spans_ends l n kat klen lo hi
  unfolding spans_ends below_hi
  spans_none z o eo r er = rw (eq-eqb n 0 z) (er ∙ ap (λ (x : Ordering). below_by x hi) eo)

  pub spans_some : (n ≡ 0 → ⊥) → (k : ℕ) → k ≡ be_at 2 l 5 → (a b : List ℕ) → a ≡ part_or l 7 k → b ≡ part_or l kat klen → (o u : Ordering) → o ≡ cmp_bytes a lo → u ≡ cmp_bytes b hi → (x y : Bool) → x ≡ is_less o → y ≡ below_by u hi
      → not x && y ≡ spans_ends l n kat klen lo hi
  unfolding spans_ends below_hi
  spans_some nz k ek a b ea eb o u eo eu x y ex ey = rw (ne_eqb n 0 nz, ex, ey, eo, eu, ea, eb, ek) refl
