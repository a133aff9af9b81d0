-- The public call, one law a return: 1, 2, then 4 and 5, then what refuses pages that do not meet, or what the builder judges.
-- Assumes nothing.
use Prim.Native.Nat.{ℕ}
use mathlib.Core.Path.{◌≡◌, refl, sym, ap, ap₂, ◌∙◌}
use mathlib.Core.Bool.{Bool, true, false}
use mathlib.Core.List.{List}
use native.Mathlib.Omega.{arith}
use lib.ListN.{length, take}
use Rattle.spans.specs.Span.{put}
use Rattle.frames.specs.declared.Addr.{Addr}
use Rattle.frames.specs.Layout.{addr}
use Rattle.frames.specs.declared.Refusal.{Refusal}
use Rattle.frames.specs.declared.Refusal.TheVariants.{BadLimit, BadArena, BadFrame, MixedKinds}
use Rattle.pages.specs.Meaning.{Page, Said, nothing, says, meaning}
use Rattle.build_sources.specs.Source.{Entry}
use Rattle.build_image.specs.declared.Call.{Call}
use Rattle.build_image.specs.Image.{Borders}
use Rattle.build_image.specs.Call.{next_ok, limits_ok}
use Rattle.build_table.specs.Index.{index_answer, index_arena}
use Rattle.build_table.specs.Leaf.{leaf_answer, leaf_arena}
use Rattle.build_table.proofs.Judging.{at_apart}
use Rattle.merge.specs.declared.Kinds.{Kinds}
use Rattle.merge.specs.Merge.{said_kind, kinds_by, kinds_of, Sound, bounds_in, meet_in, merged}
use Rattle.merge.specs.Answer.{kinds_in, sound_ok, kinds_ok, payload_by, end_by, place_by, image_by, kind_rows, apart_in, answer_by, arena_by, kinds_answer, kinds_arena, merge_answer, merge_arena}
use Rattle.std.proofs.Common.{Option, Some, None, Result, Ok, Err}
use Rattle.merge.specs.declared.Kind.{Kind}

-- ---- 4 and 5: pages of known kinds are sound

first_said : (p q : Said) → (kinds_of p q ≡ Kinds.Bad → ⊥) → (x : Page) × (p ≡ says x)
first_said nothing q n = absurd (n refl)
first_said (says x) q n = (x, refl)

pub bad_right : (s : Option Kind) → kinds_by s None ≡ Kinds.Bad
bad_right (Some Kind.Leaf) = refl
bad_right (Some Kind.Index) = refl
bad_right None = refl

second_said : (p q : Said) → (kinds_of p q ≡ Kinds.Bad → ⊥) → (x : Page) × (q ≡ says x)
second_said p nothing n = absurd (n (bad_right (said_kind p)))
second_said p (says x) n = (x, refl)

module _ (w : List ℕ) (left right : Addr) (k : Kinds) (h : k ≡ kinds_in w left right) where
  pub left_sound : (k ≡ Kinds.Bad → ⊥) → Sound w left
  left_sound n = first_said (meaning w left) (meaning w right) (λ e. n (h ∙ e))

  pub right_sound : (k ≡ Kinds.Bad → ⊥) → Sound w right
  right_sound n = second_said (meaning w left) (meaning w right) (λ e. n (h ∙ e))

-- what pages of one kind are
both_leaves : (x y : Option Kind) → kinds_by x y ≡ Kinds.Leaves → (x ≡ Some Kind.Leaf) × (y ≡ Some Kind.Leaf)
both_leaves (Some Kind.Leaf) (Some Kind.Leaf) e = (refl, refl)
both_leaves (Some Kind.Leaf) (Some Kind.Index) e = absurd (let z : ◌≡◌ {A = ℕ} 0 1 = cc in omega arith)
both_leaves (Some Kind.Leaf) None e = absurd (let z : ◌≡◌ {A = ℕ} 0 1 = cc in omega arith)
both_leaves (Some Kind.Index) (Some Kind.Leaf) e = absurd (let z : ◌≡◌ {A = ℕ} 0 1 = cc in omega arith)
both_leaves (Some Kind.Index) (Some Kind.Index) e = absurd (let z : ◌≡◌ {A = ℕ} 0 1 = cc in omega arith)
both_leaves (Some Kind.Index) None e = absurd (let z : ◌≡◌ {A = ℕ} 0 1 = cc in omega arith)
both_leaves None y e = absurd (let z : ◌≡◌ {A = ℕ} 0 1 = cc in omega arith)

both_indexes : (x y : Option Kind) → kinds_by x y ≡ Kinds.Indexes → (x ≡ Some Kind.Index) × (y ≡ Some Kind.Index)
both_indexes (Some Kind.Index) (Some Kind.Index) e = (refl, refl)
both_indexes (Some Kind.Index) (Some Kind.Leaf) e = absurd (let z : ◌≡◌ {A = ℕ} 0 1 = cc in omega arith)
both_indexes (Some Kind.Index) None e = absurd (let z : ◌≡◌ {A = ℕ} 0 1 = cc in omega arith)
both_indexes (Some Kind.Leaf) (Some Kind.Leaf) e = absurd (let z : ◌≡◌ {A = ℕ} 0 1 = cc in omega arith)
both_indexes (Some Kind.Leaf) (Some Kind.Index) e = absurd (let z : ◌≡◌ {A = ℕ} 0 1 = cc in omega arith)
both_indexes (Some Kind.Leaf) None e = absurd (let z : ◌≡◌ {A = ℕ} 0 1 = cc in omega arith)
both_indexes None y e = absurd (let z : ◌≡◌ {A = ℕ} 0 1 = cc in omega arith)

module _ (w : List ℕ) (left right : Addr) (k : Kinds) (h : k ≡ kinds_in w left right) where
  pub are_leaves : k ≡ Kinds.Leaves → (said_kind (meaning w left) ≡ Some Kind.Leaf) × (said_kind (meaning w right) ≡ Some Kind.Leaf)
  are_leaves e = both_leaves (said_kind (meaning w left)) (said_kind (meaning w right)) (sym h ∙ e)

  pub are_indexes_lem : k ≡ Kinds.Indexes → (said_kind (meaning w left) ≡ Some Kind.Index) × (said_kind (meaning w right) ≡ Some Kind.Index)
  are_indexes_lem e = both_indexes (said_kind (meaning w left)) (said_kind (meaning w right)) (sym h ∙ e)

  pub one-leaves : k ≡ Kinds.Leaves → said_kind (meaning w left) ≡ said_kind (meaning w right)
  one-leaves e = let x = are_leaves e in x.0 ∙ sym x.1

  pub one-indexes : k ≡ Kinds.Indexes → said_kind (meaning w left) ≡ said_kind (meaning w right)
  one-indexes e = let x = are_indexes_lem e in x.0 ∙ sym x.1

pub leaves_not : Kinds.Leaves ≡ Kinds.Bad → ⊥
leaves_not e = let z : ◌≡◌ {A = ℕ} 0 1 = cc in omega arith

pub indexes_not : Kinds.Indexes ≡ Kinds.Bad → ⊥
indexes_not e = let z : ◌≡◌ {A = ℕ} 0 1 = cc in omega arith

-- ---- the answer of each kind

module _ (a : List ℕ) (next : ℕ) (m : Call) (left right : Addr) (k : Kinds) (h : k ≡ kinds_in (take next a) left right) where
  abbrev b : Borders
  b = bounds_in (take next a) left right

  abbrev es : List Entry
  es = merged (take next a) left right

  abbrev Answers : Result (Addr × ℕ) Refusal → List ℕ → Type 0
  Answers r a₁ = (r ≡ kinds_answer a next m left right) × (a₁ ≡ kinds_arena a next m left right)

  abbrev met : Bool
  met = meet_in (take next a) left right

  -- what a table with this kind answers and leaves, where the pages meet or do not
  abbrev answer_of : Bool → Kinds → Result (Addr × ℕ) Refusal
  answer_of t s = answer_by (kind_rows (length a) next m t b es s) next m b es s

  abbrev arena_of_lem : Bool → Kinds → List ℕ
  arena_of_lem t s = arena_by (kind_rows (length a) next m t b es s) a next m b es s

  by_kind : (t : Bool) (s : Kinds) → met ≡ t → k ≡ s → (r : Result (Addr × ℕ) Refusal) (a₁ : List ℕ) → r ≡ answer_of t s → a₁ ≡ arena_of_lem t s → Answers r a₁
  unfolding kinds_answer kinds_arena
  by_kind t s v q r a₁ e f = (e ∙ ap₂ answer_of (sym v) (sym q ∙ h), f ∙ ap₂ arena_of_lem (sym v) (sym q ∙ h))

  -- pages of one kind that do not meet
  by_apart : (s : Kinds) → sound_ok s ≡ true → kinds_ok s ≡ true → met ≡ false → k ≡ s → (r : Refusal) → r ≡ apart_in b es → Answers (Err r) a
  by_apart s x y v q r e =
      let payload = payload_by m b es s in
      let end = end_by next m b es s in
      by_kind false s v q (Err r) a
      (rw (x, y) (ap Err e ∙ at_apart false b es payload end (length a) Err (Ok (addr (place_by next m es s), end)) refl))
      (rw (x, y) (at_apart false b es payload end (length a) (λ (z : Refusal). a) (put a next (image_by next m b es s)) refl))

  module _ (t : Bool) (g : t ≡ meet_in (take next a) left right) where
    pub on-leaves : k ≡ Kinds.Leaves → t ≡ true → (r : Result (Addr × ℕ) Refusal) (a₁ : List ℕ) → r ≡ leaf_answer a next m b es → a₁ ≡ leaf_arena a next m b es → Answers r a₁
    unfolding leaf_answer leaf_arena
    on-leaves q u r a₁ e f = by_kind true Kinds.Leaves (sym g ∙ u) q r a₁ e f

    pub on-indexes : k ≡ Kinds.Indexes → t ≡ true → (r : Result (Addr × ℕ) Refusal) (a₁ : List ℕ) → r ≡ index_answer a next m b es → a₁ ≡ index_arena a next m b es → Answers r a₁
    unfolding index_answer index_arena
    on-indexes q u r a₁ e f = by_kind true Kinds.Indexes (sym g ∙ u) q r a₁ e f

    pub leaves_apart : k ≡ Kinds.Leaves → t ≡ false → (r : Refusal) → r ≡ apart_in b es → Answers (Err r) a
    leaves_apart q u r e = by_apart Kinds.Leaves refl refl (sym g ∙ u) q r e

    pub indexes_apart : k ≡ Kinds.Indexes → t ≡ false → (r : Refusal) → r ≡ apart_in b es → Answers (Err r) a
    indexes_apart q u r e = by_apart Kinds.Indexes refl refl (sym g ∙ u) q r e

  pub on_mixed : k ≡ Kinds.Mixed → Answers (Err MixedKinds) a
  on_mixed q = by_kind met Kinds.Mixed refl q (Err MixedKinds) a refl refl

  pub on_bad : k ≡ Kinds.Bad → Answers (Err BadFrame) a
  on_bad q = by_kind met Kinds.Bad refl q (Err BadFrame) a refl refl

-- ---- 1 and 2

module _ (a : List ℕ) (next : ℕ) (m : Call) (left right : Addr) where
  abbrev Merges : Result (Addr × ℕ) Refusal → List ℕ → Type 0
  Merges r a₁ = (r ≡ merge_answer a next m left right) × (a₁ ≡ merge_arena a next m left right)

  pub merge_one : (t : Bool) → t ≡ limits_ok m.limit m.budget → t ≡ false → Merges (Err BadLimit) a
  unfolding merge_answer merge_arena
  merge_one t e f = let x = sym e ∙ f in (rw x, rw x)

  module _ (t : Bool) (e : t ≡ limits_ok m.limit m.budget) (f : t ≡ true) where
    pub merge_two : (u : Bool) → u ≡ next_ok (length a) next → u ≡ false → Merges (Err BadArena) a
    unfolding merge_answer merge_arena
    merge_two u g h =
        let x = sym e ∙ f in
        let y = sym g ∙ h in
        (rw (x, y), rw (x, y))

    pub merge_on : (u : Bool) → u ≡ next_ok (length a) next → u ≡ true → (m' : Call) → m' ≡ m → (r : Result (Addr × ℕ) Refusal) (a₁ : List ℕ) → r ≡ kinds_answer a next m' left right → a₁ ≡ kinds_arena a next m' left right → Merges r a₁
    unfolding merge_answer merge_arena kinds_answer kinds_arena
    merge_on u g h m' z r a₁ p q =
        let x = sym e ∙ f in
        let y = sym g ∙ h in
        (rw (x, y) (p ∙ ap (λ (n : Call). kinds_answer a next n left right) z), rw (x, y) (q ∙ ap (λ (n : Call). kinds_arena a next n left right) z))
