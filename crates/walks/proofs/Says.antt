-- On a page with a meaning a walk lists exactly the records of its range, each head with its older versions newest first, and then ends.
-- Assumes nothing.
use Prim.Native.Nat.{ℕ, ◌+◌, ◌-◌, ◌≤◌, ◌<◌}
use mathlib.Core.Path.{◌≡◌, refl, sym, ap, ◌∙◌, subst}
use mathlib.Core.Bool.{Bool, true, false, cond}
use mathlib.Core.List.{List, [], reverse}
use native.Mathlib.Omega.{arith}
use borrow.Author.Tests.{eq-eqb, ne_eqb, eqb-true, eqb-false, le-leb, lt-leb, le-ltb, leb-true, leb-false}
use lib.IntN.{ℤ, pos}
use lib.Signed.{lt_z}
use lib.ListN.{length, take, drop}
use lib.Dec.{leb, eqb}
use Rattle.frames.specs.declared.Addr.{Addr}
use Rattle.frames.specs.declared.Body.{Body}
use Rattle.frames.specs.declared.Refusal.{Refusal}
use Rattle.frames.specs.Layout.{page_at, kind_of, body_of, open_of, open_at, Inside}
use Rattle.frames.proofs.Frames.{open_inside}
use Rattle.records.specs.declared.Rec.{Rec}
use Rattle.records.specs.Records.{rec_at}
use Rattle.pages.specs.Boundaries.{place}
use Rattle.pages.specs.Meaning.{Head, Child, leaf, index, Page, says, prefix_of, head_of, child_of, rows_from, heads_from, children_from, page_says, meaning}
use Rattle.pages.proofs.Given.{Sound, sound_given, every_slot}
use Rattle.pages.proofs.Rows.{Good, slot_good, rows-many, rows_drop, rows_take}
use Rattle.walks.specs.declared.Walk.{Walk}
use Rattle.walks.specs.Walk.{sheet_of, older_on, walk_of, up_way, kind_of_way, up_range, down_range, forward_at, backward_at}
use Rattle.walks.specs.Listed.{Entry, entries_of, WalksTo, LeadsTo, Lists, Leads}
use Rattle.walks.proofs.Steps.{step_end}
use Rattle.walks.proofs.Listing.{rows_way, heads-walk, branches_walk, up_within, up_rows, down_within, down_rows}
use Rattle.std.proofs.Common.{Option, Some, None, Ok, Err}
use Rattle.frames.specs.declared.BaseHeader.{BaseHeader}
use Rattle.frames.specs.declared.BoxHeader.{BoxHeader}

-- ---- the kind of a page that was opened (they belong to `frames`)

kind-few : (f i : ℕ) → kind_of f i ≤ 2
unfolding kind_of
kind-few f i = go (eqb f 1) (eqb i 1)
  where
    go : (t u : Bool) → cond t 2 (cond u 1 0) ≤ 2
    go true u = omega arith
    go false true = omega arith
    go false false = omega arith

open_kind : (s : List ℕ) (a : Addr) (b : Body) → open_at s a ≡ Some b → b.kind ≤ 2
unfolding open_at body_of
open_kind s a b e = go (page_at s a) e
  where
    go : (p : Option (BoxHeader × BaseHeader)) → open_of a p ≡ Some b → b.kind ≤ 2
    go (Some (x, h)) q = let i : body_of a x h ≡ b = cc in subst (λ (y : Body). y.kind ≤ 2) i (kind-few x.flag h.is_index)
    go None q = absurd (let z : ◌≡◌ {A = ℕ} 0 1 = cc in omega arith)

-- ---- what a leaf and an index page with a meaning are

pub record IsLeaf (s : List ℕ) (a : Addr) (p : Page) (hs : List Head) : Type 0 where
  pub sound : Sound s a p
  pub kind : sound.body.kind ≡ 0
  pub heads : heads_from s sound.body sound.body.elems 0 ≡ hs

pub record IsIndex (s : List ℕ) (a : Addr) (p : Page) (cs : List Child) : Type 0 where
  pub sound : Sound s a p
  pub kind : sound.body.kind ≡ 1
  pub children : children_from s sound.body sound.body.elems 0 ≡ cs

module _ (s : List ℕ) (a : Addr) (p : Page) (m : meaning s a ≡ says p) where
  pub is_leaf : (hs : List Head) → p.rows ≡ leaf hs → IsLeaf s a p hs
  unfolding page_says
  is_leaf hs e =
      let g = sound_given s a p m in
      go g (eqb g.body.kind 1) refl (ap (λ (q : Page). q.rows) g.said ∙ e)
    where
      go : (g : Sound s a p) (t : Bool) → eqb g.body.kind 1 ≡ t → cond t (index (children_from s g.body g.body.elems 0)) (leaf (heads_from s g.body g.body.elems 0)) ≡ leaf hs → IsLeaf s a p hs
      go g true t q = absurd (let z : ◌≡◌ {A = ℕ} 0 1 = cc in omega arith)
      go g false t q =
          let n1 = eqb-false g.body.kind 1 t in
          let n2 = g.kind in
          let x : heads_from s g.body g.body.elems 0 ≡ hs = cc in
          record { sound = g; kind = omega (arith, open_kind s a g.body g.opened, n1, n2); heads = x }

  pub is_index_lem : (cs : List Child) → p.rows ≡ index cs → IsIndex s a p cs
  unfolding page_says
  is_index_lem cs e =
      let g = sound_given s a p m in
      go g (eqb g.body.kind 1) refl (ap (λ (q : Page). q.rows) g.said ∙ e)
    where
      go : (g : Sound s a p) (t : Bool) → eqb g.body.kind 1 ≡ t → cond t (index (children_from s g.body g.body.elems 0)) (leaf (heads_from s g.body g.body.elems 0)) ≡ index cs → IsIndex s a p cs
      go g true t q = let x : children_from s g.body g.body.elems 0 ≡ cs = cc in record { sound = g; kind = eqb-true g.body.kind 1 t; children = x }
      go g false t q = absurd (let z : ◌≡◌ {A = ℕ} 0 1 = cc in omega arith)

-- a stretch of the rows is the rows of that stretch
module _ {A : Type 0} (f : Rec → A) (s : List ℕ) (b : Body) (every : (j : ℕ) → j < b.elems → (r : Rec) × (rec_at s b j ≡ Some r)) where
  stretch : (i k : ℕ) → i + k ≤ b.elems → take k (drop i (rows_from f s b b.elems 0)) ≡ rows_from f s b k i
  stretch i k l =
      let n = b.elems in
      let e1 : i + (n - i) ≡ n = omega arith in
      let e0 : 0 + i ≡ i = omega arith in
      let d : drop i (rows_from f s b n 0) ≡ rows_from f s b (n - i) i = rw (e1, e0) at (rows_drop f s b every i (n - i) 0 (omega arith)) in
      let e2 : k + (n - i - k) ≡ n - i = omega arith in
      let t : take k (rows_from f s b (n - i) i) ≡ rows_from f s b k i = rw e2 at (rows_take f s b every k (n - i - k) i (omega arith)) in
      rw d t

-- ---- how a walk begins on a page that was opened

up_leaf : (k : ℕ) → k ≡ 0 → up_way k ≡ 0
unfolding up_way
up_leaf k e = rw e

up_index : (k : ℕ) → k ≡ 1 → up_way k ≡ 2
unfolding up_way
up_index k e = rw e

begins : Body → ℕ → ℕ → ℕ → Walk
begins b way at n = walk_of (sheet_of b) way at n (place 0 0) (older_on b 0 0)

module _ (s : List ℕ) (a : Addr) (b : Body) (o : open_at s a ≡ Some b) where
  up_begins : (b.kind ≡ 2 → ⊥) → (i j : ℕ) → j ≤ b.elems → forward_at s a i j ≡ Ok (begins b (up_way b.kind) i (j - i))
  unfolding forward_at up_range begins
  up_begins k i j l = rw (o, ne_eqb b.kind 2 k, le-leb j b.elems l)

  up_refused : (i j : ℕ) → b.elems < j → forward_at s a i j ≡ Err Refusal.BadFrame
  unfolding forward_at up_range
  up_refused i j l = go (eqb b.kind 2) refl
    where
      go : (t : Bool) → eqb b.kind 2 ≡ t → forward_at s a i j ≡ Err Refusal.BadFrame
      go true e = rw (o, e)
      go false e = rw (o, e, lt-leb j b.elems l)

  down_other : (b.kind ≡ 0 → ⊥) → (x y : ℤ) → backward_at s a x y ≡ Err Refusal.BadFrame
  unfolding backward_at
  down_other n x y = rw (o, ne_eqb b.kind 0 n)

  module _ (k : b.kind ≡ 0) where
    down_begins : (i j : ℕ) → j ≤ i → i < b.elems → backward_at s a (pos i) (pos j) ≡ Ok (begins b 1 i (i - j + 1))
    unfolding backward_at down_range begins
    down_begins i j l h = rw (o, eq-eqb b.kind 0 k, le-ltb i j l, le-ltb j 0 (omega arith), lt-leb b.elems i h)

    down_nothing : (x y : ℤ) → lt_z x y ≡ true → backward_at s a x y ≡ Ok (begins b 1 0 0)
    unfolding backward_at down_range begins
    down_nothing x y e = rw (o, eq-eqb b.kind 0 k, e)

    down_refused : (x y : ℤ) → lt_z x y ≡ false → lt_z y (pos 0) ≡ true → backward_at s a x y ≡ Err Refusal.BadFrame
    unfolding backward_at down_range
    down_refused x y e f = rw (o, eq-eqb b.kind 0 k, e, f)

    down_above : (i j : ℕ) → j ≤ i → b.elems ≤ i → backward_at s a (pos i) (pos j) ≡ Err Refusal.BadFrame
    unfolding backward_at down_range
    down_above i j l h = rw (o, eq-eqb b.kind 0 k, le-ltb i j l, le-ltb j 0 (omega arith), le-leb b.elems i h)

-- nothing is taken of nothing
no_child-taken : (cs : List Child) (n : ℕ) → n ≡ 0 → take n cs ≡ []
no_child-taken cs n e = rw e

none_taken : (hs : List Head) (n : ℕ) → n ≡ 0 → entries_of (take n hs) ≡ []
unfolding entries_of
none_taken hs n e = rw e

-- ---- what a sound page's walk lists, over its body

module _ (s : List ℕ) (a : Addr) (p : Page) (g : Sound s a p) where
  inside : Inside s g.body
  inside = (open_inside s a g.body g.opened).0

  every : (j : ℕ) → j < g.body.elems → (r : Rec) × (rec_at s g.body j ≡ Some r)
  every = every_slot s g.body g.slots

  good : (j : ℕ) → j < g.body.elems → Good s g.body j
  good = slot_good s g.body g.slots g.chains

  prefix-is : prefix_of s g.body ≡ p.prefix
  unfolding page_says
  prefix-is = ap (λ (q : Page). q.prefix) g.said

  -- the kinds of the ways
  zero_kind : g.body.kind ≡ 0 → kind_of_way 0 ≡ g.body.kind
  unfolding kind_of_way
  zero_kind k = sym k

  one_zero_kind : g.body.kind ≡ 0 → kind_of_way 1 ≡ g.body.kind
  unfolding kind_of_way
  one_zero_kind k = sym k

  one-kind : g.body.kind ≡ 1 → kind_of_way 2 ≡ g.body.kind
  unfolding kind_of_way
  one-kind k = sym k

  heads_up : g.body.kind ≡ 0 → (i n : ℕ) → i + n ≤ g.body.elems → WalksTo s p.prefix (begins g.body 0 i n) (entries_of (take n (drop i (heads_from s g.body g.body.elems 0))))
  unfolding begins
  heads_up k i n l = rw (stretch (head_of s g.body) s g.body every i n l, ← prefix-is, ← up_rows 0 (λ q. omega arith) (head_of s g.body) s g.body n i) (heads-walk s g.body inside good 0 (zero_kind k) (λ q. omega arith) n i (up_within 0 (λ q. omega arith) g.body.elems n i l) (place 0 0) (older_on g.body 0 0) refl)

  children_up : g.body.kind ≡ 1 → (i n : ℕ) → i + n ≤ g.body.elems → LeadsTo s p.prefix (begins g.body 2 i n) (take n (drop i (children_from s g.body g.body.elems 0)))
  unfolding begins
  children_up k i n l = rw (stretch (child_of s g.body) s g.body every i n l, ← prefix-is, ← up_rows 2 (λ q. omega arith) (child_of s g.body) s g.body n i) (branches_walk s g.body inside good 2 (one-kind k) refl n i (up_within 2 (λ q. omega arith) g.body.elems n i l) (place 0 0) (older_on g.body 0 0) refl)

  heads_down : g.body.kind ≡ 0 → (i j : ℕ) → j ≤ i → i < g.body.elems → WalksTo s p.prefix (begins g.body 1 i (i - j + 1)) (entries_of (reverse (take (i - j + 1) (drop j (heads_from s g.body g.body.elems 0)))))
  unfolding begins
  heads_down k i j l h =
      let n = i - j + 1 in
      let e : i + 1 - n ≡ j = omega arith in
      let d : rows_way (head_of s g.body) s g.body 1 n i ≡ reverse (rows_from (head_of s g.body) s g.body n j) = rw e at (down_rows (head_of s g.body) s g.body every n i (omega arith) h) in
      rw (stretch (head_of s g.body) s g.body every j n (omega arith), ← prefix-is, ← d) (heads-walk s g.body inside good 1 (one_zero_kind k) (λ q. omega arith) n i (down_within g.body.elems n i (omega arith) h) (place 0 0) (older_on g.body 0 0) refl)

  -- a walk with no heads lists nothing
  none_listed : (way i n : ℕ) → n ≡ 0 → WalksTo s p.prefix (begins g.body way i n) []
  unfolding begins WalksTo
  none_listed way i n e = step_end s (walk_of (sheet_of g.body) way i n (place 0 0) (older_on g.body 0 0)) refl e

  none_led : (way i n : ℕ) → n ≡ 0 → LeadsTo s p.prefix (begins g.body way i n) []
  unfolding begins LeadsTo
  none_led way i n e = step_end s (walk_of (sheet_of g.body) way i n (place 0 0) (older_on g.body 0 0)) refl e

-- ---- THE LAWS: what the page at an address says, a walk lists

module _ (s : List ℕ) (a : Addr) (p : Page) (m : meaning s a ≡ says p) where
  -- a leaf
  module _ (hs : List Head) (e : p.rows ≡ leaf hs) where
    many : (g : IsLeaf s a p hs) → length hs ≡ g.sound.body.elems
    many g = ap length (sym g.heads) ∙ rows-many (head_of s g.sound.body) s g.sound.body (every s a p g.sound) g.sound.body.elems 0 (omega arith)

    -- from i to j: heads i to j - 1 with their older versions; nothing where i is not below j
    pub forward_lists : (i j : ℕ) → j ≤ length hs → Lists s p.prefix (forward_at s a i j) (entries_of (take (j - i) (drop i hs)))
    forward_lists i j l =
        let g = is_leaf s a p m hs e in
        let b = g.sound.body in
        let h : j ≤ b.elems = omega (arith, many g) in
        record { walk = begins b 0 i (j - i); begun = rw (up_leaf b.kind g.kind) at (up_begins s a b g.sound.opened g.sound.kind i j h); lists = by g h (leb i j) refl }
      where
        by : (g : IsLeaf s a p hs) → j ≤ g.sound.body.elems → (t : Bool) → leb i j ≡ t → WalksTo s p.prefix (begins g.sound.body 0 i (j - i)) (entries_of (take (j - i) (drop i hs)))
        by g h true t = let u = leb-true i j t in rw (← g.heads) (heads_up s a p g.sound g.kind i (j - i) (omega arith))
        by g h false t =
            let u = leb-false i j t in
            let z : j - i ≡ 0 = omega arith in
            subst (λ (x : List Entry). WalksTo s p.prefix (begins g.sound.body 0 i (j - i)) x) (sym (none_taken (drop i hs) (j - i) z)) (none_listed s a p g.sound 0 i (j - i) z)

    -- an end above the page's is refused at any begin
    pub forward_above : (i j : ℕ) → length hs < j → forward_at s a i j ≡ Err Refusal.BadFrame
    forward_above i j l = let g = is_leaf s a p m hs e in up_refused s a g.sound.body g.sound.opened i j (omega (arith, many g))

    -- from i down to j: heads i, i - 1, .., j, each with its older versions behind it, newest first
    pub backward_lists : (i j : ℕ) → j ≤ i → i < length hs → Lists s p.prefix (backward_at s a (pos i) (pos j)) (entries_of (reverse (take (i - j + 1) (drop j hs))))
    backward_lists i j l h =
        let g = is_leaf s a p m hs e in
        let b = g.sound.body in
        let u : i < b.elems = omega (arith, many g) in
        record { walk = begins b 1 i (i - j + 1); begun = down_begins s a b g.sound.opened g.kind i j l u; lists = subst (λ (x : List Head). WalksTo s p.prefix (begins b 1 i (i - j + 1)) (entries_of (reverse (take (i - j + 1) (drop j x))))) g.heads (heads_down s a p g.sound g.kind i j l u) }

    -- a start below the end lists nothing
    pub backward_nothing : (x y : ℤ) → lt_z x y ≡ true → Lists s p.prefix (backward_at s a x y) []
    backward_nothing x y t =
        let g = is_leaf s a p m hs e in
        record { walk = begins g.sound.body 1 0 0; begun = down_nothing s a g.sound.body g.sound.opened g.kind x y t; lists = none_listed s a p g.sound 1 0 0 refl }

    -- otherwise an end below 0 or a start at or above the page's end is refused
    pub backward_below : (x y : ℤ) → lt_z x y ≡ false → lt_z y (pos 0) ≡ true → backward_at s a x y ≡ Err Refusal.BadFrame
    backward_below x y t u = let g = is_leaf s a p m hs e in down_refused s a g.sound.body g.sound.opened g.kind x y t u

    pub backward_above : (i j : ℕ) → j ≤ i → length hs ≤ i → backward_at s a (pos i) (pos j) ≡ Err Refusal.BadFrame
    backward_above i j l h = let g = is_leaf s a p m hs e in down_above s a g.sound.body g.sound.opened g.kind i j l (omega (arith, many g))

  -- an index page
  module _ (cs : List Child) (e : p.rows ≡ index cs) where
    many_index : (g : IsIndex s a p cs) → length cs ≡ g.sound.body.elems
    many_index g = ap length (sym g.children) ∙ rows-many (child_of s g.sound.body) s g.sound.body (every s a p g.sound) g.sound.body.elems 0 (omega arith)

    pub forward_leads : (i j : ℕ) → j ≤ length cs → Leads s p.prefix (forward_at s a i j) (take (j - i) (drop i cs))
    forward_leads i j l =
        let g = is_index_lem s a p m cs e in
        let b = g.sound.body in
        let h : j ≤ b.elems = omega (arith, many_index g) in
        record { walk = begins b 2 i (j - i); begun = rw (up_index b.kind g.kind) at (up_begins s a b g.sound.opened g.sound.kind i j h); leads = by g h (leb i j) refl }
      where
        by : (g : IsIndex s a p cs) → j ≤ g.sound.body.elems → (t : Bool) → leb i j ≡ t → LeadsTo s p.prefix (begins g.sound.body 2 i (j - i)) (take (j - i) (drop i cs))
        by g h true t = let u = leb-true i j t in rw (← g.children) (children_up s a p g.sound g.kind i (j - i) (omega arith))
        by g h false t =
            let u = leb-false i j t in
            let z : j - i ≡ 0 = omega arith in
            subst (λ (x : List Child). LeadsTo s p.prefix (begins g.sound.body 2 i (j - i)) x) (sym (no_child-taken (drop i cs) (j - i) z)) (none_led s a p g.sound 2 i (j - i) z)

    pub forward_above_index : (i j : ℕ) → length cs < j → forward_at s a i j ≡ Err Refusal.BadFrame
    forward_above_index i j l = let g = is_index_lem s a p m cs e in up_refused s a g.sound.body g.sound.opened i j (omega (arith, many_index g))

    -- "Backward (leaves only)"
    pub backward_index : (x y : ℤ) → backward_at s a x y ≡ Err Refusal.BadFrame
    backward_index x y = let g = is_index_lem s a p m cs e in down_other s a g.sound.body g.sound.opened (λ k. omega (arith, k, g.kind)) x y
