-- An entry by its two lengths is the entry that a record list's step finds; and what the ways say.
-- Assumes nothing.
use mathlib.Core.Path.{◌≡◌, refl, sym, ap, ◌∙◌}
use mathlib.Core.List.{List, [], ◌++◌}
use mathlib.Core.Bool.{Bool, true, false, cond}
use Prim.Native.Nat.{ℕ, ◌+◌, ◌-◌, ◌≤◌, ◌<◌}
use native.Mathlib.Omega.{arith}
use lib.ListN.{length}
use lib.Dec.{leb}
use borrow.Author.Tests.{le-leb, lt-leb}
use Rattle.spans.specs.Span.{part, part_or}
use Rattle.numbers.specs.Number.{be_at}
use Rattle.frames.specs.Limits.{max_key, max_value}
use Rattle.order.specs.declared.Ver.{Ver}
use Rattle.order.specs.Order.{cmp_bytes, is_equal}
use Rattle.order.specs.Version.{ver_of, newer_than}
use Rattle.build_sources.specs.declared.Cursor.{Cursor}
use Rattle.build_sources.specs.declared.EntryRead.{EntryRead}
use Rattle.build_sources.specs.Keys.{key_bytes}
use Rattle.build_sources.specs.Lists.{first_of, list_key, same_key, record_item, record_at, index_item, index_at, spot_at}
use Rattle.build_sources.specs.Source.{step_of, list_next, next_of}
use Rattle.build_sources.specs.Judged.{above_by}
use Rattle.build_sources.proofs.Stepped.{record_on}
use Rattle.build_sweep.specs.declared.Way.TheVariants.{Head, Old, Falls}
use Rattle.build_sweep.specs.Ents.{ent_at, spot_of, index_ent_at, index_spot_of, order_at, ver_in, way_by, way_at}
use Rattle.std.proofs.Common.{Option, Some, None}
use Rattle.std.specs.declared.cmp.Ordering.{Ordering}

-- ---- the lengths

flat : {A : Type 0} (a b : Bool) → ◌≡◌ {A = Option A} None (cond a (cond b None None) None)
flat true true = refl
flat true false = refl
flat false b = refl

module _ (s : List ℕ) (at : ℕ) where
  pub ent-short : length s < at + 2 → None ≡ ent_at s at
  unfolding ent_at
  ent-short h = simp (lt-leb (at + 2) (length s) h)

  module _ (k : ℕ) (ek : k ≡ be_at 2 s at) (h₁ : at + 2 ≤ length s) where
    pub ent-long : max_key < k → None ≡ ent_at s at
    unfolding ent_at
    ent-long h = simp (sym ek, le-leb (at + 2) (length s) h₁, lt-leb k max_key h)

    module _ (h₂ : k ≤ max_key) where
      pub ent_cut : length s < at + 2 + (k + 16) → None ≡ ent_at s at
      unfolding ent_at
      ent_cut h = simp (sym ek, le-leb (at + 2) (length s) h₁, le-leb k max_key h₂, lt-leb (at + 2 + (k + 16)) (length s) h)

      module _ (v : ℕ) (ev : v ≡ be_at 4 s (at + 2 + k + 12)) (h₃ : at + 2 + (k + 16) ≤ length s) where
        pub ent_big : max_value < v → None ≡ ent_at s at
        unfolding ent_at
        ent_big h = simp (sym ek, sym ev, le-leb (at + 2) (length s) h₁, le-leb k max_key h₂, le-leb (at + 2 + (k + 16)) (length s) h₃, lt-leb v max_value h)

        pub ent_open : v ≤ max_value → length s < at + 2 + k + 16 + v → None ≡ ent_at s at
        unfolding ent_at
        ent_open h g =
            simp (sym ek, sym ev, le-leb (at + 2) (length s) h₁, le-leb k max_key h₂, le-leb (at + 2 + (k + 16)) (length s) h₃, le-leb v max_value h, lt-leb (at + 2 + k + 16 + v) (length s) g)

        pub ent-found : v ≤ max_value → at + 2 + k + 16 + v ≤ length s → Some (k, v) ≡ ent_at s at
        unfolding ent_at
        ent-found h g =
            simp (sym ek, sym ev, le-leb (at + 2) (length s) h₁, le-leb k max_key h₂, le-leb (at + 2 + (k + 16)) (length s) h₃, le-leb v max_value h, le-leb (at + 2 + k + 16 + v) (length s) g)

  -- fewer than 18 bytes hold none
  pub ent-few : at ≤ length s → length s < at + 18 → None ≡ ent_at s at
  unfolding ent_at
  ent-few h g = rw (lt-leb (at + 2 + (be_at 2 s at + 16)) (length s) (omega arith)) (flat (leb (at + 2) (length s)) (leb (be_at 2 s at) max_key))

by_tests : (s : List ℕ) (c : Cursor) (k v : ℕ) (x₁ x₂ x₃ x₄ x₅ : Bool)
    → cond x₁ (cond x₂ (cond x₃ (cond x₄ (cond x₅ (Some (record_item s c k v, c.at + 2 + k + 16 + v)) None) None) None) None) None
    ≡ spot_of s c (cond x₁ (cond x₂ (cond x₃ (cond x₄ (cond x₅ (Some (k, v)) None) None) None) None) None)
by_tests s c k v true true true true true = refl
by_tests s c k v true true true true false = refl
by_tests s c k v true true true false x₅ = refl
by_tests s c k v true true false x₄ x₅ = refl
by_tests s c k v true false x₃ x₄ x₅ = refl
by_tests s c k v false x₂ x₃ x₄ x₅ = refl

pub record_ent : (s : List ℕ) (c : Cursor) → record_at s c ≡ spot_of s c (ent_at s c.at)
unfolding record_at ent_at
record_ent s c =
    let k = be_at 2 s c.at in
    let v = be_at 4 s (c.at + 2 + k + 12) in
    by_tests s c k v (leb (c.at + 2) (length s)) (leb k max_key) (leb (c.at + 2 + (k + 16)) (length s)) (leb v max_value) (leb (c.at + 2 + k + 16 + v) (length s))

-- ---- an index list

module _ (s : List ℕ) (at : ℕ) where
  -- fewer than 10 bytes hold none
  pub index_few : at ≤ length s → length s < at + 10 → None ≡ index_ent_at s at
  unfolding index_ent_at
  index_few h g = rw (lt-leb (at + 2 + (be_at 2 s at + 8)) (length s) (omega arith)) (flat (leb (at + 2) (length s)) (leb (be_at 2 s at) max_key))

  module _ (k : ℕ) (ek : k ≡ be_at 2 s at) (h₁ : at + 2 ≤ length s) where
    pub index_long : max_key < k → None ≡ index_ent_at s at
    unfolding index_ent_at
    index_long h = simp (sym ek, le-leb (at + 2) (length s) h₁, lt-leb k max_key h)

    module _ (h₂ : k ≤ max_key) where
      pub index_cut : length s < at + 2 + (k + 8) → None ≡ index_ent_at s at
      unfolding index_ent_at
      index_cut h = simp (sym ek, le-leb (at + 2) (length s) h₁, le-leb k max_key h₂, lt-leb (at + 2 + (k + 8)) (length s) h)

      pub index_found : at + 2 + (k + 8) ≤ length s → Some (k, 0) ≡ index_ent_at s at
      unfolding index_ent_at
      index_found h = simp (sym ek, le-leb (at + 2) (length s) h₁, le-leb k max_key h₂, le-leb (at + 2 + (k + 8)) (length s) h)

index_tests : (s : List ℕ) (c : Cursor) (k : ℕ) (x₁ x₂ x₃ : Bool)
    → cond x₁ (cond x₂ (cond x₃ (Some (index_item s c k, c.at + 2 + k + 8)) None) None) None ≡ index_spot_of s c (cond x₁ (cond x₂ (cond x₃ (Some (k, 0)) None) None) None)
index_tests s c k true true true = refl
index_tests s c k true true false = refl
index_tests s c k true false x₃ = refl
index_tests s c k false x₂ x₃ = refl

index_ent : (s : List ℕ) (c : Cursor) → index_at s c ≡ index_spot_of s c (index_ent_at s c.at)
unfolding index_at index_ent_at
index_ent s c = let k = be_at 2 s c.at in index_tests s c k (leb (c.at + 2) (length s)) (leb k max_key) (leb (c.at + 2 + (k + 8)) (length s))

-- a list's cursor in numbers: its source, its place, and the key before
abbrev pub here : ℕ → ℕ → Bool → ℕ → ℕ → Cursor
here source at seen kat klen =
    record { source = source; seen = seen; key = list_key kat klen; at = at; walk = (first_of 0).walk; pre = (first_of 0).pre; then = (first_of 0).then }

-- the step of an index list by the entry's length
module _ (l w : List ℕ) (at : ℕ) (seen : Bool) (kat klen : ℕ) where
  pub index_end_lem : length l ≤ at → next_of l w (here 1 at seen kat klen) ≡ EntryRead.End
  unfolding next_of list_next
  index_end_lem h = rw (le-leb (length l) at h) refl

  module _ (h : at < length l) where
    index_is : (e : Option (ℕ × ℕ)) → e ≡ index_ent_at l at → next_of l w (here 1 at seen kat klen) ≡ step_of (here 1 at seen kat klen) (index_spot_of l (here 1 at seen kat klen) e)
    unfolding next_of list_next spot_at
    index_is e q = rw (lt-leb (length l) at h) (ap (step_of (here 1 at seen kat klen)) (index_ent l (here 1 at seen kat klen) ∙ ap (index_spot_of l (here 1 at seen kat klen)) (sym q)))

    pub index_at_lem : (k v : ℕ) → Some (k, v) ≡ index_ent_at l at
        → next_of l w (here 1 at seen kat klen) ≡ EntryRead.Got (index_item l (here 1 at seen kat klen) k) (here 1 (at + 2 + k + 8) true (at + 2) k)
    unfolding step_of
    index_at_lem k v q = index_is (Some (k, v)) q

    pub index_out : None ≡ index_ent_at l at → next_of l w (here 1 at seen kat klen) ≡ EntryRead.Bad
    unfolding step_of
    index_out q = index_is None q

-- the step of a record list by the entry's lengths
module _ (l w : List ℕ) (at : ℕ) (seen : Bool) (kat klen : ℕ) (h : at < length l) where
  step_is : (e : Option (ℕ × ℕ)) → e ≡ ent_at l at → next_of l w (here 0 at seen kat klen) ≡ step_of (here 0 at seen kat klen) (spot_of l (here 0 at seen kat klen) e)
  step_is e q =
      sym (record_on l w (here 0 at seen kat klen) refl h)
      ∙ ap (step_of (here 0 at seen kat klen)) (record_ent l (here 0 at seen kat klen) ∙ ap (spot_of l (here 0 at seen kat klen)) (sym q))

  pub step_at_lem : (k v : ℕ) → Some (k, v) ≡ ent_at l at
      → next_of l w (here 0 at seen kat klen) ≡ EntryRead.Got (record_item l (here 0 at seen kat klen) k v) (here 0 (at + 2 + k + 16 + v) true (at + 2) k)
  unfolding step_of
  step_at_lem k v q = step_is (Some (k, v)) q

  pub step_out : None ≡ ent_at l at → next_of l w (here 0 at seen kat klen) ≡ EntryRead.Bad
  unfolding step_of
  step_out q = step_is None q

-- ---- the key

pub key-bare : (s : List ℕ) (at n : ℕ) → key_bytes s (list_key at n) ≡ part_or s at n
unfolding key_bytes part_or part
key-bare s at n = go (leb 0 (length s)) (leb 0 (length s - 0))
  where
    go : (a b : Bool) {x : List ℕ} → cond a (cond b [] []) [] ++ x ≡ x
    go true true = refl
    go true false = refl
    go false b = refl

pub same-order : (s : List ℕ) (source at : ℕ) (seen : Bool) (bat blen kat klen : ℕ) → same_key s (here source at seen bat blen) (list_key kat klen) ≡ is_equal (order_at s seen bat blen kat klen)
unfolding same_key order_at
same-order s source at seen bat blen kat klen = rw (key-bare s bat blen, key-bare s kat klen) (go seen (cmp_bytes (part_or s bat blen) (part_or s kat klen)))
  where
    go : (b : Bool) (o : Ordering) → cond b (is_equal o) false ≡ is_equal (cond b o Ordering.Less)
    go true o = refl
    go false o = refl

-- ---- the ways

pub way_head : (o : Ordering) (n : Bool) → way_by o n ≡ Head → o ≡ Ordering.Less
way_head Ordering.Less n e = refl
way_head Ordering.Equal true e = absurd (let z : ◌≡◌ {A = ℕ} 0 1 = cc in omega arith)
way_head Ordering.Equal false e = absurd (let z : ◌≡◌ {A = ℕ} 0 1 = cc in omega arith)
way_head Ordering.Greater n e = absurd (let z : ◌≡◌ {A = ℕ} 0 1 = cc in omega arith)

pub way_old : (o : Ordering) (n : Bool) → way_by o n ≡ Old → (o ≡ Ordering.Equal) × (n ≡ true)
way_old Ordering.Less n e = absurd (let z : ◌≡◌ {A = ℕ} 0 1 = cc in omega arith)
way_old Ordering.Equal true e = (refl, refl)
way_old Ordering.Equal false e = absurd (let z : ◌≡◌ {A = ℕ} 0 1 = cc in omega arith)
way_old Ordering.Greater n e = absurd (let z : ◌≡◌ {A = ℕ} 0 1 = cc in omega arith)

-- an entry that falls is not above the one before
pub way_falls : (o : Ordering) (v w : Ver) → way_by o (newer_than v w) ≡ Falls → above_by o v w ≡ false
way_falls Ordering.Less v w e = absurd (let z : ◌≡◌ {A = ℕ} 0 1 = cc in omega arith)
way_falls Ordering.Equal v w e = go (newer_than v w) e
  where
    go : (n : Bool) → cond n Old Falls ≡ Falls → n ≡ false
    go true e = absurd (let z : ◌≡◌ {A = ℕ} 0 1 = cc in omega arith)
    go false e = refl
way_falls Ordering.Greater v w e = refl

-- ---- the functions' returns, from their calls' words

module _ (s : List ℕ) (seen : Bool) (bat blen kat klen : ℕ) where
  pub order_seen : seen ≡ true → (a b : List ℕ) → a ≡ part_or s bat blen → b ≡ part_or s kat klen → (o : Ordering) → o ≡ cmp_bytes a b → o ≡ order_at s seen bat blen kat klen
  unfolding order_at
  order_seen e a b ea eb o eo = eo ∙ rw (e, ea, eb) refl

  pub order_none : seen ≡ false → Ordering.Less ≡ order_at s seen bat blen kat klen
  unfolding order_at
  order_none e = rw e refl

  module _ (o : Ordering) (eo : o ≡ order_at s seen bat blen kat klen) where
    pub less_head : o ≡ Ordering.Less → Head ≡ way_at s seen bat blen kat klen
    unfolding way_at
    less_head q = rw (sym eo ∙ q) refl

    pub equal_older : o ≡ Ordering.Equal → (b : Bool) → b ≡ newer_than (ver_in s (bat + blen)) (ver_in s (kat + klen)) → b ≡ true → Old ≡ way_at s seen bat blen kat klen
    unfolding way_at
    equal_older q b eb t = rw (sym eo ∙ q, sym eb ∙ t) refl

    pub equal_not : o ≡ Ordering.Equal → (b : Bool) → b ≡ newer_than (ver_in s (bat + blen)) (ver_in s (kat + klen)) → b ≡ false → Falls ≡ way_at s seen bat blen kat klen
    unfolding way_at
    equal_not q b eb t = rw (sym eo ∙ q, sym eb ∙ t) refl

    pub greater_falls : o ≡ Ordering.Greater → Falls ≡ way_at s seen bat blen kat klen
    unfolding way_at
    greater_falls q = rw (sym eo ∙ q) refl

pub newer_is : (s : List ℕ) (x y : ℕ) (r : Bool) (v w : Ver) (a b c d : ℕ) → r ≡ newer_than v w → v ≡ ver_of a b → w ≡ ver_of c d
    → a ≡ be_at 8 s x → b ≡ be_at 4 s (x + 8) → c ≡ be_at 8 s y → d ≡ be_at 4 s (y + 8) → r ≡ newer_than (ver_in s x) (ver_in s y)
newer_is s x y r v w a b c d er ev ew ea eb ec ed = er ∙ rw (ev, ew, ea, eb, ec, ed) refl
