-- The judge of a source's entries, one law a return; and what its answer gives the writer.
-- Assumes nothing.
use mathlib.Core.Path.{◌≡◌, refl, sym, ap, ap₂, ◌∙◌, subst}
use mathlib.Core.List.{List, [], ◌∷◌}
use mathlib.Core.Bool.{Bool, true, false, cond, ◌&&◌}
use Prim.Native.Nat.{ℕ, ◌+◌, ◌*◌, ◌≤◌, ◌<◌}
use native.Mathlib.Omega.{arith}
use borrow.Author.Tests.{leb-true, leb-false, le-leb, lt-leb}
use lib.Dec.{leb}
use lib.ListN.{length, take}
use lib.Seq.{length-take-le, take-take}
use Rattle.spans.specs.Span.{part, part_or, put}
use Rattle.spans.proofs.Part.{part_or_in}
use Rattle.spans.proofs.Tests.{ask}
use Rattle.order.specs.Order.{starts_with}
use Rattle.order.proofs.Laws.{starts-length}
use Rattle.frames.specs.Layout.{addr, frame_len, base_len}
use Rattle.frames.specs.declared.Refusal.{Refusal}
use Rattle.frames.specs.declared.Refusal.TheVariants.{OutOfOrder, WrongPrefix, Outside, TooBig, NoRoom}
use Rattle.frames.specs.Limits.{max_entries, max_size}
use Rattle.build_sources.specs.Keys.{src_of}
use Rattle.build_sources.specs.Source.{Entry}
use Rattle.build_sources.specs.Judged.{rising, prefixed, enclosed}
use Rattle.build_image.specs.declared.Call.{Call}
use Rattle.build_image.specs.Image.{index_sums, index_size_at, index_size, index_image, Borders}
use Rattle.build_image.proofs.Index.{length_index}
use Rattle.build_image.proofs.Prefix.{common-footing, enclosed-prefixed}
use Rattle.build_heads.specs.Steps.{Long}
use Rattle.build_bounds.specs.declared.Boundary.{Boundary}
use Rattle.build_bounds.specs.declared.Boundaries.{Boundaries}
use Rattle.build_bounds.specs.Boundaries.{Within, BothWithin, boundary_bytes, bounds_of}
use Rattle.build_bounds.proofs.Laws.{length_boundary}
use Rattle.build_index.specs.Parts.{Ready}
use Rattle.build_image.specs.Table.{Row, row, judged}
use Rattle.build_table.specs.Table.{entry_rows, outside_of, apart_of}
use Rattle.build_table.specs.Index.{Held, index_verdict, index_weighed, index_end, index_rows, index_answer, index_arena}
use Rattle.build_image.proofs.Tables.{All, all_go, refuses, passes}
use Rattle.std.proofs.Common.{Result, Ok, Err}

pub and_both : (x y : Bool) → x && y ≡ true → (x ≡ true) × (y ≡ true)
and_both true y e = (refl, e)
and_both false y e = absurd (let z : ◌≡◌ {A = ℕ} 0 1 = cc in omega arith)

-- ---- the prefix

-- keys that begin with the prefix are no shorter
pub longs : (p : List ℕ) (es : List Entry) → prefixed p es ≡ true → Long (length p) es
unfolding prefixed
longs p [] e = tt
longs p (x ∷ es) e =
    let q = ask (starts_with p x.key) (prefixed p es) false true (λ z. absurd (let y : ◌≡◌ {A = ℕ} 0 1 = cc in omega arith)) e in
    (starts-length p x.key q.0, longs p es q.1)

-- every key begins with no prefix
all_begin : (es : List Entry) → true ≡ prefixed [] es
unfolding prefixed starts_with
all_begin [] = refl
all_begin (x ∷ es) = all_begin es

pub no_prefix : (p : ℕ) (x : List ℕ) (es : List Entry) → p ≡ 0 → true ≡ prefixed (take p x) es
no_prefix p x es e = rw e (all_begin es)

-- the prefix's bytes where they lie
take_part : (s : List ℕ) (at n p : ℕ) → p ≤ n → take p (part s at n) ≡ part s at p
unfolding part
take_part s at n p h = take-take p n (lib.ListN.drop at s) h

-- a whole boundary where it lies
module _ (lo w : List ℕ) (e : Boundary) (h : Within lo w e) where
  pub whole-footing : e.footing ≡ true → part_or w e.at e.len ≡ boundary_bytes lo w e
  unfolding Within boundary_bytes
  whole-footing q =
      part_or_in w e.at e.len (let z : e.at + e.len ≤ length w = rw q at h in z)
      ∙ sym (ap (λ (b : Bool). part (src_of lo w b) e.at e.len) q)

  pub whole_lent : e.footing ≡ false → part_or lo e.at e.len ≡ boundary_bytes lo w e
  unfolding Within boundary_bytes
  whole_lent q =
      part_or_in lo e.at e.len (let z : e.at + e.len ≤ length lo = rw q at h in z)
      ∙ sym (ap (λ (b : Bool). part (src_of lo w b) e.at e.len) q)

module _ (lo w : List ℕ) (e : Boundary) (p : ℕ) (h : Within lo w e) (k : p ≤ e.len) where
  pub in_ground : e.footing ≡ true → part_or w e.at p ≡ take p (boundary_bytes lo w e)
  unfolding Within boundary_bytes
  in_ground q =
      part_or_in w e.at p (let z : e.at + e.len ≤ length w = rw q at h in omega (arith, z))
      ∙ sym (ap (λ (b : Bool). take p (part (src_of lo w b) e.at e.len)) q ∙ take_part w e.at e.len p k)

  pub in_lent : e.footing ≡ false → part_or lo e.at p ≡ take p (boundary_bytes lo w e)
  unfolding Within boundary_bytes
  in_lent q =
      part_or_in lo e.at p (let z : e.at + e.len ≤ length lo = rw q at h in omega (arith, z))
      ∙ sym (ap (λ (b : Bool). take p (part (src_of lo w b) e.at e.len)) q ∙ take_part lo e.at e.len p k)

module _ (lo hi w : List ℕ) (e : Boundaries) (h : Held lo hi w e) where
  -- the prefix is part of lo
  pub held-shared : e.prefix ≤ e.lo.len
  held-shared = omega (arith, h.front, common-footing (boundary_bytes lo w e.lo) (boundary_bytes hi w e.hi), length_boundary lo w e.lo h.inside.footing)

  pub held-long : (es : List Entry) → prefixed (take e.prefix (boundary_bytes lo w e.lo)) es ≡ true → Long e.prefix es
  held-long es q =
      subst (λ (k : ℕ). Long k es)
      (length-take-le e.prefix (boundary_bytes lo w e.lo) (omega (arith, length_boundary lo w e.lo h.inside.footing, held-shared)))
      (longs (take e.prefix (boundary_bytes lo w e.lo)) es q)

  -- entries that the boundaries enclose have it
  pub held-prefixed : (es : List Entry) → enclosed (boundary_bytes lo w e.lo) (boundary_bytes hi w e.hi) es ≡ true → prefixed (take e.prefix (boundary_bytes lo w e.lo)) es ≡ true
  held-prefixed es q =
      ap (λ (k : ℕ). prefixed (take k (boundary_bytes lo w e.lo)) es) h.front
      ∙ enclosed-prefixed (boundary_bytes lo w e.lo) (boundary_bytes hi w e.hi) es q

-- ---- 6, 7, 10

module _ {X : Type 0} (meets : Bool) (b : Borders) (es : List Entry) (payload end len : ℕ) (stop : Refusal → X) (go : X) where
  abbrev entry-rows : List Row
  entry-rows = entry_rows meets b es payload end len

  pub at_six : rising es ≡ false → stop OutOfOrder ≡ judged entry-rows stop go
  at_six h = rw h refl

  -- not enclosed, or not meeting: 7 where a key lacks the prefix, else 10
  pub at-outside : rising es ≡ true → meets && enclosed b.lo b.hi es ≡ false → stop (outside_of (take b.prefix b.lo) es) ≡ judged entry-rows stop go
  at-outside h k = rw (h, k) (by (prefixed (take b.prefix b.lo) es))
    where
      by : (t : Bool) → stop (cond t Outside WrongPrefix) ≡ cond t (cond false (judged (row (leb (length es) max_entries && leb payload max_size) TooBig ∷ row (leb end len) NoRoom ∷ []) stop go) (stop Outside)) (stop WrongPrefix)
      by true = refl
      by false = refl

  -- pages that do not meet
  pub at_apart : meets ≡ false → stop (apart_of (take b.prefix b.lo) es) ≡ judged entry-rows stop go
  at_apart k = by (rising es) refl
    where
      by : (t : Bool) → rising es ≡ t → stop (cond t (outside_of (take b.prefix b.lo) es) OutOfOrder) ≡ judged entry-rows stop go
      by true q = at-outside q (ap (λ (t : Bool). t && enclosed b.lo b.hi es) k)
      by false q = at_six q

-- ---- an index page

module _ (len next : ℕ) (lo hi w : List ℕ) (e : Boundaries) (h : Held lo hi w e) (es : List Entry) where
  abbrev bs : Borders
  bs = bounds_of lo hi w e

  pub index_six : rising es ≡ false → Err OutOfOrder ≡ index_verdict len next bs e es
  unfolding index_verdict
  index_six q = let s = index_size_at e.lo.len e.hi.len e.prefix es in at_six true bs es s (next + frame_len s) len Err (Ok (length es, s)) q

  module _ (h6 : rising es ≡ true) where
    pub index_outside : enclosed bs.lo bs.hi es ≡ false → Err (outside_of (take bs.prefix bs.lo) es) ≡ index_verdict len next bs e es
    unfolding index_verdict
    index_outside q = let s = index_size_at e.lo.len e.hi.len e.prefix es in at-outside true bs es s (next + frame_len s) len Err (Ok (length es, s)) h6 q

    module _ (h10 : enclosed bs.lo bs.hi es ≡ true) (n : ℕ) (en : n ≡ length es) where
      h7 : prefixed (take bs.prefix bs.lo) es ≡ true
      h7 = held-prefixed lo hi w e h es h10

      pub index_many : max_entries < n → Err TooBig ≡ index_verdict len next bs e es
      unfolding index_verdict
      index_many q = rw (h6, h7, h10, lt-leb (length es) max_entries (rw en at q)) refl

      module _ (h8 : n ≤ max_entries) (s : ℕ) (eq : s ≡ index_sums e.prefix es) where
        size_is : base_len + 4 * n + e.lo.len + e.hi.len + s ≡ index_size_at e.lo.len e.hi.len e.prefix es
        size_is = rw (en, eq) refl

        few : leb (length es) max_entries ≡ true
        few = le-leb (length es) max_entries (rw en at h8)

        index_large : max_size < base_len + 4 * n + e.lo.len + e.hi.len + s → Err TooBig ≡ index_verdict len next bs e es
        unfolding index_verdict
        index_large q = rw (h6, h7, h10, few, lt-leb (index_size_at e.lo.len e.hi.len e.prefix es) max_size (rw size_is at q)) refl

        module _ (hs : base_len + 4 * n + e.lo.len + e.hi.len + s ≤ max_size) (x : ℕ) (ex : x ≡ frame_len (base_len + 4 * n + e.lo.len + e.hi.len + s)) where
          small : leb (index_size_at e.lo.len e.hi.len e.prefix es) max_size ≡ true
          small = le-leb (index_size_at e.lo.len e.hi.len e.prefix es) max_size (rw size_is at hs)

          room-is : (t : Bool) → t ≡ leb (next + x) len → leb (next + frame_len (index_size_at e.lo.len e.hi.len e.prefix es)) len ≡ t
          room-is t q = sym (q ∙ ap (λ (k : ℕ). leb (next + k) len) (ex ∙ ap frame_len size_is))

          index_full : (t : Bool) → t ≡ leb (next + x) len → t ≡ false → Err NoRoom ≡ index_verdict len next bs e es
          unfolding index_verdict
          index_full t q f = rw (h6, h7, h10, few, small, room-is t q ∙ f) refl

          index_fits : (t : Bool) → t ≡ leb (next + x) len → t ≡ true → Ok (n, base_len + 4 * n + e.lo.len + e.hi.len + s) ≡ index_verdict len next bs e es
          unfolding index_verdict
          index_fits t q f = rw (h6, h7, h10, few, small, room-is t q ∙ f) (ap₂ (λ x0 x1. Ok (x0, x1)) en size_is)

-- ---- 8 and 9, weighed

module _ (len next x y n s : ℕ) where
  abbrev total : ℕ
  total = base_len + 4 * n + x + y + s

  pub weigh_index_large : max_size < total → Err TooBig ≡ index_weighed len next x y n s
  unfolding index_weighed
  weigh_index_large q = rw (lt-leb total max_size q) refl

  module _ (hs : total ≤ max_size) (f : ℕ) (ef : f ≡ frame_len total) (t : Bool) (et : t ≡ leb (next + f) len) where
    fits-is : leb (next + frame_len total) len ≡ t
    fits-is = sym (et ∙ ap (λ (k : ℕ). leb (next + k) len) ef)

    pub weigh_index_full : t ≡ false → Err NoRoom ≡ index_weighed len next x y n s
    unfolding index_weighed
    weigh_index_full q = rw (le-leb total max_size hs, fits-is ∙ q) refl

    pub weigh_index_fits : t ≡ true → Ok (n, total) ≡ index_weighed len next x y n s
    unfolding index_weighed
    weigh_index_fits q = rw (le-leb total max_size hs, fits-is ∙ q) refl

module _ (len next : ℕ) (lo hi w : List ℕ) (e : Boundaries) (h : Held lo hi w e) (es : List Entry) (h6 : rising es ≡ true)
    (h10 : enclosed (boundary_bytes lo w e.lo) (boundary_bytes hi w e.hi) es ≡ true) (n : ℕ) (en : n ≡ length es) (h8 : n ≤ max_entries) (s : ℕ) (eq : s ≡ index_sums e.prefix es) where
  abbrev whole : ℕ
  whole = base_len + 4 * n + e.lo.len + e.hi.len + s

  -- it is what the table's rows say
  pub index_weighed_lem : index_weighed len next e.lo.len e.hi.len n s ≡ index_verdict len next (bounds_of lo hi w e) e es
  index_weighed_lem = go (leb whole max_size) refl (leb (next + frame_len whole) len) refl
    where
      go : (a : Bool) → leb whole max_size ≡ a → (b : Bool) → leb (next + frame_len whole) len ≡ b → index_weighed len next e.lo.len e.hi.len n s ≡ index_verdict len next (bounds_of lo hi w e) e es
      go true p true q =
          sym (weigh_index_fits len next e.lo.len e.hi.len n s (leb-true _ _ p) (frame_len whole) refl true (sym q) refl)
          ∙ index_fits len next lo hi w e h es h6 h10 n en h8 s eq (leb-true _ _ p) (frame_len whole) refl true (sym q) refl
      go true p false q =
          sym (weigh_index_full len next e.lo.len e.hi.len n s (leb-true _ _ p) (frame_len whole) refl false (sym q) refl)
          ∙ index_full len next lo hi w e h es h6 h10 n en h8 s eq (leb-true _ _ p) (frame_len whole) refl false (sym q) refl
      go false p b q =
          sym (weigh_index_large len next e.lo.len e.hi.len n s (leb-false _ _ p))
          ∙ index_large len next lo hi w e h es h6 h10 n en h8 s eq (leb-false _ _ p)

-- ---- what is built

same_size : (lo hi w : List ℕ) (e : Boundaries) (es : List Entry) → BothWithin lo hi w e → index_size_at e.lo.len e.hi.len e.prefix es ≡ index_size (bounds_of lo hi w e) es
unfolding index_size
same_size lo hi w e es h = omega (arith, length_boundary lo w e.lo h.footing, length_boundary hi w e.hi h.high)

same_end : (next : ℕ) (m : Call) (b : Borders) (es : List Entry) → next + frame_len (index_size b es) ≡ index_end next m b es
unfolding index_end
same_end next m b es = ap (λ (k : ℕ). next + k) (sym (length_index m b es))

apart : (n s : ℕ) (r : Refusal) → ◌≡◌ {A = Result (ℕ × ℕ) Refusal} (Ok (n, s)) (Err r) → ⊥
apart n s r e = absurd (let z : ◌≡◌ {A = ℕ} 0 1 = cc in omega arith)

one_no : (r q : Refusal) → ◌≡◌ {A = Result (ℕ × ℕ) Refusal} (Err r) (Err q) → r ≡ q
one_no r q e = cc

module _ (a : List ℕ) (next : ℕ) (m : Call) (lo hi : List ℕ) (e : Boundaries) (es : List Entry) (le : next ≤ length a) (h : Held lo hi (take next a) e) where
  abbrev b : Borders
  b = bounds_of lo hi (take next a) e

  abbrev rows : List Row
  rows = index_rows (length a) next m b es

  -- the judge's rows are the table's
  judge_is : index_verdict (length a) next b e es ≡ judged rows Err (Ok (length es, index_size b es))
  unfolding index_verdict
  judge_is =
      ap (λ (s : ℕ). judged (entry_rows true b es s (next + frame_len s) (length a)) Err (Ok (length es, s))) (same_size lo hi (take next a) e es h.inside)
      ∙ ap (λ (x : ℕ). judged (entry_rows true b es (index_size b es) x (length a)) Err (Ok (length es, index_size b es))) (same_end next m b es)

  module _ (v : Result (ℕ × ℕ) Refusal) (ev : v ≡ index_verdict (length a) next b e es) where
    pub index_refused : (r : Refusal) → v ≡ Err r → (Err r ≡ index_answer a next m b es) × (a ≡ index_arena a next m b es)
    unfolding index_answer index_arena
    index_refused r q =
        let z = sym (ev ∙ judge_is) ∙ q in (
          sym (refuses Err (Ok (length es, index_size b es)) (apart (length es) (index_size b es)) one_no rows r Err (Ok (addr next, index_end next m b es)) z),
          sym (refuses Err (Ok (length es, index_size b es)) (apart (length es) (index_size b es)) one_no rows r (λ (k : Refusal). a) (put a next (index_image m b es)) z),
        )

    module _ (n s : ℕ) (q : v ≡ Ok (n, s)) where
      passed : (◌≡◌ {A = Result (ℕ × ℕ) Refusal} (Ok (length es, index_size b es)) (Ok (n, s))) × All rows
      passed = passes Err (Ok (length es, index_size b es)) rows (Ok (n, s)) (λ r z. apart n s r (sym z)) (sym (ev ∙ judge_is) ∙ q)

      n-is : n ≡ length es
      n-is = let z = passed.0 in grind arith

      s_is : s ≡ index_size b es
      s_is = let z = passed.0 in grind arith

      both : (leb (length es) max_entries ≡ true) × (leb (index_size b es) max_size ≡ true)
      both = and_both _ _ passed.1.1.1.1.0

      pub index_ready : Ready a next next lo hi e es n s
      index_ready =
          let k : length es ≤ max_entries = leb-true _ _ both.0 in
          let j : index_size b es ≤ max_size = leb-true _ _ both.1 in
          let u : index_end next m b es ≤ length a = leb-true _ _ passed.1.1.1.1.1.0 in
          record {
            over = omega arith;
            inside = h.inside;
            long = held-long lo hi (take next a) e h es passed.1.1.0;
            shared = held-shared lo hi (take next a) e h;
            count = n-is;
            few = omega (arith, n-is, k);
            whole = s_is;
            small = omega (arith, s_is, j);
            room = omega (arith, ap frame_len s_is, same_end next m b es, u);
          }

      pub index_small : s ≤ max_size
      index_small = index_ready.small

      pub index_built_lem : (a₁ : List ℕ) (x : ℕ) → a₁ ≡ put a next (index_image m b es) → x ≡ frame_len s → (Ok (addr next, next + x) ≡ index_answer a next m b es) × (a₁ ≡ index_arena a next m b es)
      unfolding index_answer index_arena
      index_built_lem a₁ x p ex = (
        ap (λ (k : ℕ). Ok (addr next, next + k)) (ex ∙ ap frame_len s_is) ∙ ap (λ (k : ℕ). Ok (addr next, k)) (same_end next m b es) ∙ sym (all_go rows Err (Ok (addr next, index_end next m b es)) passed.1),
        p ∙ sym (all_go rows (λ (k : Refusal). a) (put a next (index_image m b es)) passed.1),
      )
