-- A walk over a page whose slots and histories are sound lists the rows along its way, upward or downward.
-- Assumes nothing.
use Prim.Native.Nat.{ℕ, zero, suc, ◌+◌, ◌-◌, ◌≤◌, ◌<◌}
use mathlib.Core.Path.{◌≡◌, refl, sym, ap, ◌∙◌}
use mathlib.Core.Bool.{Bool, true, false, ◌||◌}
use mathlib.Core.List.{List, [], ◌∷◌, ◌++◌, reverse, reverse-append}
use native.Mathlib.Omega.{arith}
use borrow.Author.Tests.{ne_eqb, eqb-true, eqb-false}
use lib.Dec.{eqb}
use Rattle.spans.specs.Span.{part}
use Rattle.numbers.specs.Number.{le_at}
use Rattle.order.specs.declared.Ver.{Ver}
use Rattle.frames.specs.declared.Addr.{Addr}
use Rattle.frames.specs.declared.Body.{Body}
use Rattle.frames.specs.Layout.{page_id, Inside}
use Rattle.records.specs.declared.Rec.{Rec}
use Rattle.values.specs.Keys.{ver_in}
use Rattle.records.specs.Records.{rec_at}
use Rattle.records.proofs.Inside.{rest_part, val-part}
use Rattle.pages.specs.declared.Place.{Place}
use Rattle.pages.specs.Boundaries.{part_in}
use Rattle.pages.specs.Sound.{history_at, chain_from, entered, head_ok}
use Rattle.pages.specs.Meaning.{olds_from, prefix_of, key_of, head_of, child_of, rows_of, rows_from}
use Rattle.pages.proofs.Olds.{history-inside}
use Rattle.pages.proofs.Given.{head_given, link_given}
use Rattle.pages.proofs.Rows.{Good}
use Rattle.walks.specs.declared.OldPlace.{OldPlace}
use Rattle.walks.specs.Walk.{sheet_of, older_on, walk_of, kind_of_way, moved_of, behind_of, item_of, rest_of, enter_at}
use Rattle.walks.specs.Listed.{Entry, entry_of, older_entries, entries_of, WalksTo, lead_of, LeadsTo}
use Rattle.walks.proofs.Steps.{step_end, step_old, next-old, enter_none, enter_in, step_head, step_branch}
use Rattle.std.proofs.Common.{Some}

-- ---- what an item says

-- a record of a page: the value that is lent is the whole one
module _ (s : List ℕ) (pre : List ℕ) (b : Body) (i : Inside s b) (j : ℕ) (r : Rec) (e : rec_at s b j ≡ Some r) where
  old-entry : (key : Place) (n : Addr) → entry_of s pre (item_of s key r n) ≡ record { key = pre ++ part_in s key; ver = ver_in s r.ver_at; value = part s r.val_at r.val_len }
  unfolding entry_of item_of
  old-entry key n = rw (val-part s b i j r e)

  head_entry_lem : (n : Addr) → entry_of s pre (item_of s (rest_of r) r n) ≡ record { key = pre ++ part s r.rest_at r.rest_len; ver = ver_in s r.ver_at; value = part s r.val_at r.val_len }
  head_entry_lem n = old-entry (rest_of r) n ∙ ap (λ (x : List ℕ). record { key = pre ++ x; ver = ver_in s r.ver_at; value = part s r.val_at r.val_len }) (rest_part s b i j r e)

-- ---- the old versions of a head, and then what follows

module _ (s : List ℕ) (pre : List ℕ) (b : Body) (way : ℕ) (at n : ℕ) (key : Place) (es : List Entry) (f : (p : OldPlace) → p.left ≡ 0 → WalksTo s pre (walk_of (sheet_of b) way at n key p) es) where
  olds-walk : (k : ℕ) (h : Addr) (d : Body) (i : ℕ) (t : Ver) → history_at s h ≡ Some d → chain_from s k h i t ≡ true → WalksTo s pre (walk_of (sheet_of b) way at n key (older_on d i k)) (older_entries (pre ++ part_in s key) (olds_from s k h i) ++ es)
  unfolding olds_from older_entries WalksTo behind_of
  olds-walk zero h d i t o c = f (older_on d i 0) refl
  olds-walk (suc k) h d i t o c =
      let g = link_given s k h i t c in
      let x = next-old s key h d o i k g.page g.slot g.rec g.read in
      let v = history-inside s g.page x.body x.opened in
      let ih = olds-walk k g.page x.body (g.slot + 1) (ver_in s g.rec.ver_at) x.opened g.more in
      rw g.read (
        item_of s key g.rec x.names,
        walk_of (sheet_of b) way at n key (older_on x.body (g.slot + 1) k),
        step_old s (walk_of (sheet_of b) way at n key (older_on d i (suc k))) (item_of s key g.rec x.names) (older_on x.body (g.slot + 1) k) (omega arith) x.next,
        old-entry s pre x.body v.inside g.slot g.rec x.read key x.names,
        ih,
      )

-- ---- heads, either way

-- one head, and then what follows
module _ (s : List ℕ) (b : Body) (i : Inside s b) (way p n : ℕ) (k : kind_of_way way ≡ b.kind) (t2 : way ≡ 2 → ⊥) (key : Place) (was : OldPlace) (z : was.left ≡ 0) (r : Rec) (e : rec_at s b p ≡ Some r) (es : List Entry) (f : (q : OldPlace) → q.left ≡ 0 → WalksTo s (prefix_of s b) (walk_of (sheet_of b) way (moved_of way p) n (rest_of r) q) es) where
  abbrev head_first : List Entry → List Entry
  head_first rest = (record { key = key_of s b r; ver = ver_in s r.ver_at; value = part s r.val_at r.val_len }) ∷ rest

  -- the head's own step
  first : (q : OldPlace) → enter_at s r.hist was ≡ Some q → (rest : List Entry) → WalksTo s (prefix_of s b) (walk_of (sheet_of b) way (moved_of way p) n (rest_of r) q) rest → WalksTo s (prefix_of s b) (walk_of (sheet_of b) way p (suc n) key was) (head_first rest)
  unfolding WalksTo
  first q o rest w = (
    item_of s (rest_of r) r r.hist.page,
    walk_of (sheet_of b) way (moved_of way p) n (rest_of r) q,
    step_head s b i way p n key was z r e k t2 q o,
    head_entry_lem s (prefix_of s b) b i p r e r.hist.page,
    w,
  )

  none_behind : (m : ℕ) → m ≡ 0 → (a : Addr) (j : ℕ) (x : List ℕ) → older_entries x (olds_from s m a j) ++ es ≡ es
  unfolding older_entries olds_from
  none_behind m u a j x = rw u

  head_walk : head_ok s r ≡ true → WalksTo s (prefix_of s b) (walk_of (sheet_of b) way p (suc n) key was) (head_first (older_entries (key_of s b r) (olds_from s r.hist.count r.hist.page r.hist.slot) ++ es))
  head_walk ok = by (eqb r.hist.count 0) refl (head_given s r ok)
    where
      by : (t : Bool) → eqb r.hist.count 0 ≡ t → ((eqb r.hist.count 0 || entered s r.hist.page r.hist.slot) ≡ true) × (chain_from s r.hist.count r.hist.page r.hist.slot (ver_in s r.ver_at) ≡ true) → WalksTo s (prefix_of s b) (walk_of (sheet_of b) way p (suc n) key was) (head_first (older_entries (key_of s b r) (olds_from s r.hist.count r.hist.page r.hist.slot) ++ es))
      by true t d =
          let c = eqb-true r.hist.count 0 t in
          rw (none_behind r.hist.count c r.hist.page r.hist.slot (key_of s b r)) (first was (enter_none s r.hist was c) es (f was z))
      by false t d =
          let x = enter_in s r.hist was (eqb-false r.hist.count 0 t) (rw t at d.0) in
          let w = olds-walk s (prefix_of s b) b way (moved_of way p) n (rest_of r) es f r.hist.count r.hist.page x.0 r.hist.slot (ver_in s r.ver_at) x.1 d.1 in
          first (older_on x.0 r.hist.slot r.hist.count) x.2 _ (rw (rest_part s b i p r e) at w)

-- the rows along a way: n of them from position p on
unfoldable pub rows_way : {A : Type 0} → (Rec → A) → List ℕ → Body → ℕ → ℕ → ℕ → List A
rows_way f s b way zero p = []
rows_way f s b way (suc n) p = rows_of f (rows_way f s b way n (moved_of way p)) (rec_at s b p)

-- each position on the way is one of the page's
abbrev pub Within : ℕ → ℕ → ℕ → ℕ → Type 0
Within e way zero p = Unit {0}
Within e way (suc n) p = (p < e) × Within e way n (moved_of way p)

module _ (s : List ℕ) (b : Body) (i : Inside s b) (good : (j : ℕ) → j < b.elems → Good s b j) (way : ℕ) (k : kind_of_way way ≡ b.kind) where
  pub heads-walk : (way ≡ 2 → ⊥) → (n p : ℕ) → Within b.elems way n p → (key : Place) (was : OldPlace) → was.left ≡ 0 → WalksTo s (prefix_of s b) (walk_of (sheet_of b) way p n key was) (entries_of (rows_way (head_of s b) s b way n p))
  unfolding rows_way entries_of WalksTo head_of
  heads-walk t zero p l key was z = step_end s (walk_of (sheet_of b) way p 0 key was) z refl
  heads-walk t (suc n) p l key was z =
      let g = good p l.0 in
      rw g.read (head_walk s b i way p n k t key was z g.rec g.read (entries_of (rows_way (head_of s b) s b way n (moved_of way p))) (λ q z'. heads-walk t n (moved_of way p) l.1 (rest_of g.rec) q z') g.ok)

  pub branches_walk : way ≡ 2 → (n p : ℕ) → Within b.elems way n p → (key : Place) (was : OldPlace) → was.left ≡ 0 → LeadsTo s (prefix_of s b) (walk_of (sheet_of b) way p n key was) (rows_way (child_of s b) s b way n p)
  unfolding rows_way LeadsTo child_of lead_of
  branches_walk t zero p l key was z = step_end s (walk_of (sheet_of b) way p 0 key was) z refl
  branches_walk t (suc n) p l key was z =
      let g = good p l.0 in
      let r = g.rec in
      rw g.read (
        record { key = rest_of r; page = page_id (le_at 8 s r.val_at) },
        walk_of (sheet_of b) way (moved_of way p) n (rest_of r) was,
        step_branch s b i way p n key was z r g.read k t,
        rw (rest_part s b i p r g.read),
        branches_walk t n (moved_of way p) l.1 (rest_of r) was z,
      )

-- ---- the two ways

-- upward, the rows of a stretch
module _ (way : ℕ) (u : way ≡ 1 → ⊥) where
  moved_up : (p : ℕ) → moved_of way p ≡ p + 1
  unfolding moved_of
  moved_up p = rw (ne_eqb way 1 u)

  pub up_within : (e n p : ℕ) → p + n ≤ e → Within e way n p
  up_within e zero p l = tt
  up_within e (suc n) p l = (omega arith, rw (moved_up p) (up_within e n (p + 1) (omega arith)))

  pub up_rows : {A : Type 0} (f : Rec → A) (s : List ℕ) (b : Body) (n p : ℕ) → rows_way f s b way n p ≡ rows_from f s b n p
  unfolding rows_way rows_from
  up_rows f s b zero p = refl
  up_rows f s b (suc n) p = rw (moved_up p) (ap (λ (x : List _). rows_of f x (rec_at s b p)) (up_rows f s b n (p + 1)))

-- downward, the same from its end
pub down_within : (e n p : ℕ) → n ≤ p + 1 → p < e → Within e 1 n p
unfolding moved_of
down_within e zero p l h = tt
down_within e (suc n) p l h = (h, down_within e n (p - 1) (omega arith) (omega arith))

module _ {A : Type 0} (f : Rec → A) (s : List ℕ) (b : Body) (every : (j : ℕ) → j < b.elems → (r : Rec) × (rec_at s b j ≡ Some r)) where
  -- the last row
  rows_last : (n j : ℕ) (r : Rec) → j + n < b.elems → rec_at s b (j + n) ≡ Some r → rows_from f s b (suc n) j ≡ rows_from f s b n j ++ (f r ∷ [])
  unfolding rows_from
  rows_last zero j r h e = let z : j + 0 ≡ j = omega arith in rw (rw z at e)
  rows_last (suc n) j r h e =
      let g = every j (omega arith) in
      let z : j + suc n ≡ j + 1 + n = omega arith in
      rw g.1 (ap (λ (x : List A). f g.0 ∷ x) (rows_last n (j + 1) r (omega arith) (rw z at e)))

  pub down_rows : (n p : ℕ) → n ≤ p + 1 → p < b.elems → rows_way f s b 1 n p ≡ reverse (rows_from f s b n (p + 1 - n))
  unfolding rows_way rows_from moved_of
  down_rows zero p l h = refl
  down_rows (suc zero) p l h = let z : p + 1 - 1 ≡ p = omega arith in let g = every p h in rw (z, g.1)
  down_rows (suc (suc n)) p l h =
      let g = every p h in
      let z : p - 1 + 1 - suc n ≡ p + 1 - suc (suc n) = omega arith in
      let y : p + 1 - suc (suc n) + suc n ≡ p = omega arith in
      let q = p + 1 - suc (suc n) in
      let ih : rows_way f s b 1 (suc n) (p - 1) ≡ reverse (rows_from f s b (suc n) q) = rw z at (down_rows (suc n) (p - 1) (omega arith) (omega arith)) in
      let last : rows_from f s b (suc (suc n)) q ≡ rows_from f s b (suc n) q ++ (f g.0 ∷ []) = rows_last (suc n) q g.0 (omega arith) (rw y g.1) in
      rw g.1 (ap (λ (x : List A). f g.0 ∷ x) ih ∙ sym (ap reverse last ∙ reverse-append (rows_from f s b (suc n) q) (f g.0 ∷ [])))
