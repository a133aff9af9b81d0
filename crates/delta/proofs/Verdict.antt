-- The judge: what each test that passed says, what the clerk's address says of room, the answer at each refusal and where all fits.
-- Assumes nothing.
use mathlib.Core.Path.{◌≡◌, refl, sym, ap, ◌∙◌}
use mathlib.Core.List.{List}
use mathlib.Core.Bool.{true, false}
use Prim.Native.Nat.{ℕ, ◌+◌, ◌≤◌, ◌<◌}
use native.Mathlib.Omega.{arith}
use native.Mathlib.Decide.{dec_le}
use native.Mathlib.Nat.{lt_of_not-le}
use borrow.Author.Tests.{le-leb, lt-leb, leb-true}
use lib.Dec.{leb}
use lib.ListN.{length}
use Rattle.spans.specs.Span.{put}
use Rattle.spans.proofs.Put.{put_chain, length-put}
use Rattle.order.specs.declared.Ver.{Ver}
use Rattle.frames.specs.declared.Clerk.{Clerk}
use Rattle.frames.specs.declared.PageId.{PageId}
use Rattle.frames.specs.declared.Taken.{Taken}
use Rattle.frames.specs.declared.Refusal.{Refusal}
use Rattle.frames.specs.Clerks.{gives, taken_of}
use Rattle.frames.specs.Layout.{addr}
use Rattle.frames.specs.Limits.{max_key, max_value}
use Rattle.frames.proofs.Frames.{and_l, and_r}
use Rattle.frames.proofs.Clerks.{take-room, take_none}
use Rattle.build_image.specs.declared.Call.{Call}
use Rattle.build_image.specs.Sizes.{remote_len}
use Rattle.delta.specs.Deltas.{remote_of, leaf_frame, index_frame, leaf_delta, leaf_len, index_len}
use Rattle.build_image.specs.Call.{limit_ok, next_ok}
use Rattle.delta.specs.Built.{leaf_built, leaf_arena, index_built, index_arena, address_or, pair_ok, leaf_at, leaf_end}
use Rattle.delta.proofs.Lengths.{length-remote_of, length_leaf_frame, length_index_frame}
use Rattle.std.proofs.Common.{Result, Ok, Err}
use Rattle.frames.specs.declared.Addr.{Addr}

-- ---- tests that passed

pub lengths_true : (k v : ℕ) → pair_ok k v ≡ true → (k ≤ max_key) × (v ≤ max_value)
unfolding pair_ok
lengths_true k v e = (leb-true k max_key (and_l (leb k max_key) (leb v max_value) e), leb-true v max_value (and_r (leb k max_key) (leb v max_value) e))

-- ---- the clerk's address

pub address_room : (next len remote n : ℕ) → next + remote + n ≤ len → address_or next len remote n ≡ next + remote
unfolding address_or
address_room next len remote n h = rw (le-leb (next + remote + n) len h) refl

pub address_none : (next len remote n : ℕ) → len < next + remote + n → address_or next len remote n ≡ 0
unfolding address_or
address_none next len remote n h = rw (lt-leb (next + remote + n) len h) refl

module _ (c : Clerk) (next len remote n : ℕ) (en : c.next.0 ≡ next) (el : c.limit ≡ len) (h : 8 ≤ next) (t : Taken) (et : t ≡ taken_of c remote) where
  pub placed_none : t.addr.0 ≡ 0 → 0 ≡ address_or next len remote n
  placed_none z =
      elim (dec_le (next + remote) len) [
        | yes p ↦ absurd (omega (arith, ap (λ (x : Taken). x.addr.0) (et ∙ take-room c remote (omega arith)), z, en, h))
        | no p ↦ sym (address_none next len remote n (omega (arith, lt_of_not-le p)))
      ]

  pub placed-is : (d : Taken) → (t.addr.0 ≡ 0 → ⊥) → d ≡ taken_of t.clerk n → d.addr.0 ≡ address_or next len remote n
  placed-is d z ed =
      elim (dec_le (next + remote) len) [
        | no p ↦ absurd (z (ap (λ (x : Taken). x.addr.0) (et ∙ take_none c remote (omega (arith, lt_of_not-le p)))))
        | yes p ↦
            let f : d ≡ taken_of (gives c remote).clerk n = ed ∙ ap (λ (x : Taken). taken_of x.clerk n) (et ∙ take-room c remote (omega arith)) in
            elim (dec_le (next + remote + n) len) [
              | yes q ↦ ap (λ (x : Taken). x.addr.0) (f ∙ take-room (gives c remote).clerk n (omega arith)) ∙ ap (λ (k : ℕ). k + remote) en ∙ sym (address_room next len remote n q)
              | no q ↦ ap (λ (x : Taken). x.addr.0) (f ∙ take_none (gives c remote).clerk n (omega (arith, lt_of_not-le q))) ∙ sym (address_none next len remote n (lt_of_not-le q))
            ]
      ]

-- what an address says
pub address-some : (next len remote n at : ℕ) → at ≡ address_or next len remote n → (at ≡ 0 → ⊥) → (at ≡ next + remote) × (next + remote + n ≤ len)
address-some next len remote n at e z =
    elim (dec_le (next + remote + n) len) [
      | yes p ↦ (e ∙ address_room next len remote n p, p)
      | no p ↦ absurd (z (e ∙ address_none next len remote n (lt_of_not-le p)))
    ]

pub address_zero : (next len remote n at : ℕ) → 8 ≤ next → at ≡ address_or next len remote n → at ≡ 0 → len < next + remote + n
address_zero next len remote n at h e z =
    elim (dec_le (next + remote + n) len) [
      | yes p ↦ absurd (omega (arith, e ∙ address_room next len remote n p, z))
      | no p ↦ lt_of_not-le p
    ]

-- ---- answer and arena, row by row

module _ (m : Call) (a : List ℕ) (next : ℕ) (ver : Ver) (key v : List ℕ) where
  abbrev Leaves : Result (Addr × ℕ) Refusal → List ℕ → Type 0
  Leaves r a₁ = (r ≡ leaf_built m (length a) next (length key) (length v)) × (a₁ ≡ leaf_arena m a next ver key v)

  pub leaf_limit : limit_ok m.limit ≡ false → Leaves (Err Refusal.BadLimit) a
  unfolding leaf_built leaf_arena
  leaf_limit e = (rw e refl, rw e refl)

  module _ (e₁ : limit_ok m.limit ≡ true) where
    pub leaf_next : next_ok (length a) next ≡ false → Leaves (Err Refusal.BadArena) a
    unfolding leaf_built leaf_arena
    leaf_next e = (rw (e₁, e) refl, rw (e₁, e) refl)

    module _ (e₂ : next_ok (length a) next ≡ true) where
      pub leaf_pair : pair_ok (length key) (length v) ≡ false → Leaves (Err Refusal.BadList) a
      unfolding leaf_built leaf_arena
      leaf_pair e = (rw (e₁, e₂, e) refl, rw (e₁, e₂, e) refl)

      module _ (e₃ : pair_ok (length key) (length v) ≡ true) where
        pub leaf_full : length a < leaf_end m next (length key) (length v) → Leaves (Err Refusal.NoRoom) a
        unfolding leaf_built leaf_arena
        leaf_full h = let e = lt-leb (leaf_end m next (length key) (length v)) (length a) h in (rw (e₁, e₂, e₃, e) refl, rw (e₁, e₂, e₃, e) refl)

        pub leaf_fits : leaf_end m next (length key) (length v) ≤ length a
            → Leaves (Ok (addr (leaf_at m next (length v)), leaf_end m next (length key) (length v))) (put a next (leaf_delta m next ver key v))
        unfolding leaf_built leaf_arena
        leaf_fits h = let e = le-leb (leaf_end m next (length key) (length v)) (length a) h in (rw (e₁, e₂, e₃, e) refl, rw (e₁, e₂, e₃, e) refl)

module _ (m : Call) (a : List ℕ) (next : ℕ) (key : List ℕ) (page : PageId) where
  abbrev Indexes : Result (Addr × ℕ) Refusal → List ℕ → Type 0
  Indexes r a₁ = (r ≡ index_built (length a) next (length key)) × (a₁ ≡ index_arena m a next key page)

  pub index_next : next_ok (length a) next ≡ false → Indexes (Err Refusal.BadArena) a
  unfolding index_built index_arena
  index_next e = (rw e refl, rw e refl)

  module _ (e₂ : next_ok (length a) next ≡ true) where
    pub index_pair : pair_ok (length key) 0 ≡ false → Indexes (Err Refusal.BadList) a
    unfolding index_built index_arena
    index_pair e = (rw (e₂, e) refl, rw (e₂, e) refl)

    module _ (e₃ : pair_ok (length key) 0 ≡ true) where
      pub index_full : length a < next + index_len (length key) → Indexes (Err Refusal.NoRoom) a
      unfolding index_built index_arena
      index_full h = let e = lt-leb (next + index_len (length key)) (length a) h in (rw (e₂, e₃, e) refl, rw (e₂, e₃, e) refl)

      pub index_fits : next + index_len (length key) ≤ length a → Indexes (Ok (addr next, next + index_len (length key))) (put a next (index_frame m key page))
      unfolding index_built index_arena
      index_fits h = let e = le-leb (next + index_len (length key)) (length a) h in (rw (e₂, e₃, e) refl, rw (e₂, e₃, e) refl)

-- ---- the stores

module _ (m : Call) (a : List ℕ) (next : ℕ) (ver : Ver) (key v : List ℕ) (at : ℕ) (ea : at ≡ next + remote_len m.limit (length v) 0)
    (fit : next + remote_len m.limit (length v) 0 + leaf_len m.limit (length key) (length v) ≤ length a) where
  pub leaf_remote-room : next + length (remote_of m v) ≤ length a
  leaf_remote-room = omega (arith, length-remote_of m v, fit)

  pub leaf_frame-room : (a₁ : List ℕ) → a₁ ≡ put a next (remote_of m v) → at + length (leaf_frame m next ver key v) ≤ length a₁
  leaf_frame-room a₁ e = omega (arith, ap length e ∙ length-put a next (remote_of m v), length_leaf_frame m next ver key v, ea, fit)

  pub leaf_stored : (a₁ a₂ : List ℕ) → a₁ ≡ put a next (remote_of m v) → a₂ ≡ put a₁ at (leaf_frame m next ver key v) → a₂ ≡ put a next (leaf_delta m next ver key v)
  unfolding leaf_delta
  leaf_stored a₁ a₂ e₁ e₂ = put_chain a next (remote_of m v) (leaf_frame m next ver key v) e₁ e₂ (ea ∙ ap (λ (k : ℕ). next + k) (sym (length-remote_of m v)))

pub index_frame-room : (m : Call) (a : List ℕ) (next : ℕ) (key : List ℕ) (page : PageId) (at : ℕ) → at ≡ next + 0 → next + 0 + index_len (length key) ≤ length a → at + length (index_frame m key page) ≤ length a
index_frame-room m a next key page at ea fit = omega (arith, length_index_frame m key page)
