-- The cases of an entry at a cursor of a list, in the order of the tests.
-- Assumes nothing.
use mathlib.Core.Path.{◌≡◌, sym}
use mathlib.Core.List.{List}
use mathlib.Core.Bool.{Bool, false}
use Prim.Native.Nat.{ℕ, ◌+◌, ◌≤◌, ◌<◌}
use lib.ListN.{length}
use borrow.Author.Tests.{le-leb, lt-leb}
use Rattle.numbers.specs.Number.{be_at}
use Rattle.order.specs.declared.Ver.{Ver}
use Rattle.order.specs.Version.{ver_of}
use Rattle.frames.specs.Layout.{addr, page_id}
use Rattle.frames.specs.Limits.{max_key, max_value}
use Rattle.build_sources.specs.declared.Cursor.{Cursor}
use Rattle.build_sources.specs.Lists.{same_key, list_key, record_at, index_at}
use Rattle.std.proofs.Common.{Some, None}

module _ (s : List ℕ) (c : Cursor) where
  pub record_short : length s < c.at + 2 → None ≡ record_at s c
  unfolding record_at
  record_short h = simp (lt-leb (c.at + 2) (length s) h)

  pub index_short : length s < c.at + 2 → None ≡ index_at s c
  unfolding index_at
  index_short h = simp (lt-leb (c.at + 2) (length s) h)

  module _ (k : ℕ) (ek : k ≡ be_at 2 s c.at) (h₁ : c.at + 2 ≤ length s) where
    pub record_long : max_key < k → None ≡ record_at s c
    unfolding record_at
    record_long h = simp (sym ek, le-leb (c.at + 2) (length s) h₁, lt-leb k max_key h)

    pub index_long : max_key < k → None ≡ index_at s c
    unfolding index_at
    index_long h = simp (sym ek, le-leb (c.at + 2) (length s) h₁, lt-leb k max_key h)

    module _ (h₂ : k ≤ max_key) where
      pub record_cut : length s < c.at + 2 + (k + 16) → None ≡ record_at s c
      unfolding record_at
      record_cut h = simp (sym ek, le-leb (c.at + 2) (length s) h₁, le-leb k max_key h₂, lt-leb (c.at + 2 + (k + 16)) (length s) h)

      pub index_cut : length s < c.at + 2 + (k + 8) → None ≡ index_at s c
      unfolding index_at
      index_cut h = simp (sym ek, le-leb (c.at + 2) (length s) h₁, le-leb k max_key h₂, lt-leb (c.at + 2 + (k + 8)) (length s) h)

      pub index_found : c.at + 2 + (k + 8) ≤ length s → (o : Bool) (w : Ver) (x : ℕ) → o ≡ same_key s c (list_key (c.at + 2) k) → w ≡ ver_of 0 0 → x ≡ be_at 8 s (c.at + 2 + k)
          → Some (record { footing = false; old = o; key = list_key (c.at + 2) k; ver = w; vat = 0; vlen = 0; kept = addr 0; page = page_id x }, c.at + 2 + k + 8) ≡ index_at s c
      unfolding index_at
      index_found h o w x eo ew ex =
          rw (eo, ew, ex) (simp (sym ek, le-leb (c.at + 2) (length s) h₁, le-leb k max_key h₂, le-leb (c.at + 2 + (k + 8)) (length s) h))

      module _ (v : ℕ) (ev : v ≡ be_at 4 s (c.at + 2 + k + 12)) (h₃ : c.at + 2 + (k + 16) ≤ length s) where
        pub record_big : max_value < v → None ≡ record_at s c
        unfolding record_at
        record_big h = simp (sym ek, sym ev, le-leb (c.at + 2) (length s) h₁, le-leb k max_key h₂, le-leb (c.at + 2 + (k + 16)) (length s) h₃, lt-leb v max_value h)

        pub record_open : v ≤ max_value → length s < c.at + 2 + k + 16 + v → None ≡ record_at s c
        unfolding record_at
        record_open h g =
            simp (sym ek, sym ev, le-leb (c.at + 2) (length s) h₁, le-leb k max_key h₂, le-leb (c.at + 2 + (k + 16)) (length s) h₃, le-leb v max_value h, lt-leb (c.at + 2 + k + 16 + v) (length s) g)

        pub record_found : v ≤ max_value → c.at + 2 + k + 16 + v ≤ length s → (o : Bool) (w : Ver) (x y : ℕ) → o ≡ same_key s c (list_key (c.at + 2) k) → w ≡ ver_of x y
            → x ≡ be_at 8 s (c.at + 2 + k) → y ≡ be_at 4 s (c.at + 2 + k + 8)
            → Some (record { footing = false; old = o; key = list_key (c.at + 2) k; ver = w; vat = c.at + 2 + k + 16; vlen = v; kept = addr 0; page = page_id 0 }, c.at + 2 + k + 16 + v) ≡ record_at s c
        unfolding record_at
        record_found h g o w x y eo ew ex ey =
            rw (eo, ew, ex, ey)
            (simp (sym ek, sym ev, le-leb (c.at + 2) (length s) h₁, le-leb k max_key h₂, le-leb (c.at + 2 + (k + 16)) (length s) h₃, le-leb v max_value h, le-leb (c.at + 2 + k + 16 + v) (length s) g))
