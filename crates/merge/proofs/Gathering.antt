-- What is gathered from two sound pages: the boundaries lie below the next free address and are short, and they and the entries are those
-- that the definition names. A cursor over the two pages finds why pages that do not meet are refused.
-- Assumes nothing.
use Prim.Native.Nat.{ℕ, ◌+◌, ◌*◌, ◌≤◌}
use mathlib.Core.Path.{◌≡◌, refl, sym, ap, ap₂, ◌∙◌}
use mathlib.Core.Bool.{Bool, true, false, cond, ◌&&◌, ◌||◌}
use mathlib.Core.List.{List, []}
use native.Mathlib.Omega.{arith}
use borrow.Author.Tests.{leb-true}
use lib.ListN.{length}
use lib.Dec.{leb, eqb}
use Rattle.spans.specs.Span.{part}
use Rattle.spans.proofs.Part.{length_part, part_or_in}
use Rattle.frames.specs.declared.Addr.{Addr}
use Rattle.frames.specs.declared.BoxHeader.{BoxHeader}
use Rattle.frames.specs.declared.BaseHeader.{BaseHeader}
use Rattle.frames.specs.declared.Body.{Body}
use Rattle.frames.specs.Layout.{box_len, base_len, box_at, base_fields, zeros_ok, leaf_ok, index_ok, many_ok, history_ok, payload_ok, lengths_ok, base_ok, page_of, page_at, body_of, open_of, open_at, box_base}
use Rattle.frames.specs.Limits.{max_key}
use Rattle.frames.proofs.Frames.{and_l, and_r, open_inside}
use Rattle.pages.specs.Boundaries.{part_in, bounds_of, bounds_at, lo_at, hi_at}
use Rattle.pages.specs.Meaning.{Page, says, meaning}
use Rattle.pages.proofs.Given.{Sound, sound_given}
use Rattle.build_sources.specs.declared.Cursor.{Cursor}
use Rattle.build_sources.specs.Lists.{first_of}
use Rattle.build_sources.specs.Pages.{page_first}
use Rattle.build_image.specs.Prefix.{common}
use Rattle.build_image.proofs.Prefix.{common-footing}
use Rattle.build_bounds.specs.declared.Boundaries.{Boundaries}
use Rattle.build_bounds.specs.Boundaries as boundaries_specs
use Rattle.build_bounds.specs.Boundaries.{Within, boundary_bytes}
use Rattle.build_table.specs.Index.{Held}
use Rattle.law_two_pages.proofs.On.{front_of, first-is, bounds_are}
use Rattle.merge.specs.Merge.{bounds_in, boundaries_in, gathered}
use Rattle.std.proofs.Common.{Option, Some, None, Ok}

-- ---- a page's boundaries are short (it belongs to `frames`)

base_short : (x : BoxHeader) (h : BaseHeader) → base_ok x h ≡ true → (h.lo_len ≤ max_key) × (h.hi_len ≤ max_key)
unfolding base_ok
base_short x h o =
    let front = zeros_ok h && (leaf_ok x h || index_ok x h) && many_ok x h && history_ok x h && payload_ok x h in
    let p = leb h.prefix_len h.lo_len in
    let z = leb h.size x.payload_size in
    let w = leb (base_len + 4 * h.elems + h.lo_len + h.hi_len) h.size in
    let o1 = and_l (front && lengths_ok h && p && z) w o in
    let o2 = and_l (front && lengths_ok h && p) z o1 in
    let o3 = and_r front (lengths_ok h) (and_l (front && lengths_ok h) p o2) in
    (leb-true h.lo_len max_key (and_l (leb h.lo_len max_key) (leb h.hi_len max_key) o3), leb-true h.hi_len max_key (and_r (leb h.lo_len max_key) (leb h.hi_len max_key) o3))

open_short : (s : List ℕ) (a : Addr) (b : Body) → open_at s a ≡ Some b → (b.lo_len ≤ max_key) × (b.hi_len ≤ max_key)
unfolding open_at page_at body_of
open_short s a b e = go (box_at s a) e
  where
    no : None ≡ Some b → ⊥
    no z = let x : ◌≡◌ {A = ℕ} 0 1 = cc in omega arith

    by : (h : BoxHeader) (t u v : Bool) → base_ok h (base_fields s (a.0 + box_len)) ≡ v → open_of a (cond t (cond u (cond v (Some (h, base_fields s (a.0 + box_len))) None) None) None) ≡ Some b → (b.lo_len ≤ max_key) × (b.hi_len ≤ max_key)
    by h true true true k q = let x : body_of a h (base_fields s (a.0 + box_len)) ≡ b = cc in rw (← x) (base_short h (base_fields s (a.0 + box_len)) k)
    by h true true false k q = absurd (no q)
    by h true false v k q = absurd (no q)
    by h false u v k q = absurd (no q)

    go : (f : Option BoxHeader) → open_of a (page_of s a.0 f) ≡ Some b → (b.lo_len ≤ max_key) × (b.hi_len ≤ max_key)
    go (Some h) q = by h (eqb h.box_kind box_base) (leb base_len h.payload_size) (base_ok h (base_fields s (a.0 + box_len))) refl q
    go None q = absurd (no q)

-- ---- what is gathered

-- what a merge hands to the builder
pub record Ready (w : List ℕ) (left right : Addr) (c : Cursor) (e : Boundaries) : Type 0 where
  pub held : Held [] [] w e
  pub bounds : boundaries_specs.bounds_of [] [] w e ≡ bounds_in w left right
  pub cursor : page_first w (first_of 2) left right ≡ Some c

module _ (w : List ℕ) (left right : Addr) (p q : Page) (m : meaning w left ≡ says p) (n : meaning w right ≡ says q) where
  g : Sound w left p
  g = sound_given w left p m

  h : Sound w right q
  h = sound_given w right q n

  abbrev b : Body
  b = g.body

  abbrev d : Body
  d = h.body

  abbrev front : Cursor
  front = front_of (first_of 2) b right

  abbrev held_boundaries : Boundaries
  held_boundaries = boundaries_in w (bounds_of b) (bounds_of d)

  begun : page_first w (first_of 2) left right ≡ Some front
  begun = first-is w (first_of 2) left right b g.opened g.kind

  left-bounds : bounds_at w left ≡ Ok (bounds_of b)
  left-bounds = bounds_are w (first_of 2) left right b g.opened g.kind

  right-bounds : bounds_at w right ≡ Ok (bounds_of d)
  right-bounds = bounds_are w (first_of 2) right left d h.opened h.kind

  gathered-is : gathered w left right ≡ Some (front, held_boundaries)
  unfolding gathered
  gathered-is = rw (begun, left-bounds, right-bounds)

  lo-is : lo_at w left ≡ part_in w (bounds_of b).lo
  unfolding lo_at
  lo-is = rw left-bounds

  hi-is : hi_at w right ≡ part_in w (bounds_of d).hi
  unfolding hi_at
  hi-is = rw right-bounds

  lo_in : (bounds_of b).lo.at + (bounds_of b).lo.len ≤ length w
  unfolding bounds_of
  lo_in = let i = (open_inside w left b g.opened).0 in omega (arith, i.slots, i.records, i.payload, i.arena)

  hi_in : (bounds_of d).hi.at + (bounds_of d).hi.len ≤ length w
  unfolding bounds_of
  hi_in = let i = (open_inside w right d h.opened).0 in omega (arith, i.slots, i.records, i.payload, i.arena)

  lo-part : part_in w (bounds_of b).lo ≡ part w (bounds_of b).lo.at (bounds_of b).lo.len
  lo-part = part_or_in w (bounds_of b).lo.at (bounds_of b).lo.len lo_in

  hi-part : part_in w (bounds_of d).hi ≡ part w (bounds_of d).hi.at (bounds_of d).hi.len
  hi-part = part_or_in w (bounds_of d).hi.at (bounds_of d).hi.len hi_in

  lo-few : (bounds_of b).lo.len ≤ max_key
  unfolding bounds_of
  lo-few = (open_short w left b g.opened).0

  hi-few : (bounds_of d).hi.len ≤ max_key
  unfolding bounds_of
  hi-few = (open_short w right d h.opened).1

  lo-long : length (part_in w (bounds_of b).lo) ≡ (bounds_of b).lo.len
  lo-long = ap length lo-part ∙ length_part w (bounds_of b).lo.at (bounds_of b).lo.len lo_in

  hi-long : length (part_in w (bounds_of d).hi) ≡ (bounds_of d).hi.len
  hi-long = ap length hi-part ∙ length_part w (bounds_of d).hi.at (bounds_of d).hi.len hi_in

  -- the boundaries keep document 01's lengths
  pub lo-short : length (bounds_in w left right).lo ≤ max_key
  unfolding bounds_in
  lo-short = omega (arith, ap length lo-is, lo-long, lo-few)

  pub hi-short : length (bounds_in w left right).hi ≤ max_key
  unfolding bounds_in
  hi-short = omega (arith, ap length hi-is, hi-long, hi-few)

  pub prefix-short : (bounds_in w left right).prefix ≤ length (bounds_in w left right).lo
  unfolding bounds_in
  prefix-short = common-footing (lo_at w left) (hi_at w right)

  bounds-is : boundaries_specs.bounds_of [] [] w held_boundaries ≡ bounds_in w left right
  unfolding bounds_in boundary_bytes
  bounds-is = rw (lo-is, hi-is, right-bounds, lo-part, hi-part)

  ready : Ready w left right front held_boundaries
  unfolding Within boundary_bytes
  ready =
      record {
        held = record { inside = record { footing = lo_in; high = hi_in }; front = ap₂ common lo-part hi-part; footing = lo-few; high = hi-few };
        bounds = bounds-is;
        cursor = begun;
      }

  -- THE LAWS
  pub gathers : gathered w left right ≡ None → ⊥
  gathers e = let z : ◌≡◌ {A = Option (Cursor × Boundaries)} (Some (front, held_boundaries)) None = sym gathered-is ∙ e in let y : ◌≡◌ {A = ℕ} 0 1 = cc in omega arith

  pub gathered_ready : (c : Cursor) (e : Boundaries) → gathered w left right ≡ Some (c, e) → Ready w left right c e
  gathered_ready c e f =
      let z : ◌≡◌ {A = Option (Cursor × Boundaries)} (Some (front, held_boundaries)) (Some (c, e)) = sym gathered-is ∙ f in
      let x : front ≡ c = grind arith in
      let y : held_boundaries ≡ e = grind arith in
      rw (← x, ← y) ready
