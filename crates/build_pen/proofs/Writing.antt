-- One entry written, wherever it comes from: a value, a record in two pieces, a remote frame, a hint.
-- Assumes nothing.
use mathlib.Core.Path.{◌≡◌, refl, sym, ap, ◌∙◌}
use mathlib.Core.List.{List, [], ◌++◌}
use mathlib.Core.Bool.{true}
use Prim.Native.Nat.{ℕ, ◌+◌, ◌≤◌, ◌<◌}
use native.Mathlib.Omega.{arith}
use borrow.Author.Tests.{lt-ltb, le-ltb, le-leb, ne_eqb}
use lib.Dec.{leb}
use lib.ListN.{length, drop, length-append}
use Rattle.spans.specs.Span.{put, Stored}
use Rattle.spans.proofs.Put.{stored-count, stored_bytes, length-put, put-append, put_nil}
use Rattle.numbers.specs.Number.{le}
use Rattle.numbers.proofs.Numbers.{length-le}
use Rattle.order.specs.declared.Ver.{Ver}
use Rattle.frames.specs.Layout.{frame_len}
use Rattle.frames.specs.Limits.{max_key, max_value}
use Rattle.values.specs.declared.HistRef.{HistRef}
use Rattle.values.specs.Keys.{ver_bytes, leaf_key}
use Rattle.values.specs.Vals.{no_hist, inline_bytes, remote_bytes}
use Rattle.build_sources.specs.Source.{Entry}
use Rattle.build_image.specs.declared.Call.{Call}
use Rattle.build_image.specs.Image.{remote_addr, val_bytes, remote_frame, remote_frame_of, old_rec, head_rec}
use Rattle.build_image.proofs.Lengths.{length-remote-frame}
use Rattle.build_pen.specs.Nibs.{hint_of}

-- ---- two pieces, one behind the other

module _ (a : List ℕ) (at : ℕ) (z x y : List ℕ) (e : z ≡ x ++ y) (room : at + length z ≤ length a) where
  long : length z ≡ length x + length y
  long = ap length e ∙ length-append x y

  pub two_first : at + length x ≤ length a
  two_first = omega (arith, long, room)

  module _ (k : ℕ) (a₁ : List ℕ) (ek : k ≡ length x) (ea : a₁ ≡ put a at x) where
    pub two_room : at + k + length y ≤ length a₁
    two_room = omega (arith, long, room, ek, ap length ea, length-put a at x)

    pub two_done : (n : ℕ) (a₂ : List ℕ) → n ≡ length y → a₂ ≡ put a₁ (at + k) y → (k + n ≡ length z) × (a₂ ≡ put a at z)
    two_done n a₂ en e₂ = (omega (arith, long, ek, en), e₂ ∙ rw (ea, ek) refl ∙ sym (ap (put a at) e ∙ put-append a at x y))

-- ---- a value of n bytes, and records

module _ (e : Entry) (n : ℕ) (en : n ≡ length e.val) (nv : n ≤ max_value) where
  module _ (limit remote : ℕ) (h : HistRef) where
    near : n < limit → val_bytes limit remote h e ≡ inline_bytes h e.val
    unfolding val_bytes
    near q = rw (sym en, lt-ltb n limit q) refl

    away : limit ≤ n → val_bytes limit remote h e ≡ remote_bytes h n (remote_addr remote e.kept)
    unfolding val_bytes
    away q = rw (sym en, le-ltb n limit q) refl

    module _ (a : List ℕ) (at : ℕ) (room : at + length (val_bytes limit remote h e) ≤ length a) where
      pub near_done : n < limit → (v : List ℕ) → v ≡ e.val → (r : ℕ) (a' : List ℕ) → Stored (leb (length v) max_value) a at (inline_bytes h v) r a'
          → (r ≡ length (val_bytes limit remote h e)) × (a' ≡ put a at (val_bytes limit remote h e))
      near_done q v ev r a' st =
          let x = near q ∙ ap (inline_bytes h) (sym ev) in
          let ok : leb (length v) max_value ≡ true = le-leb (length v) max_value (omega (arith, ap length ev, en, nv)) in
          let rm : at + length (inline_bytes h v) ≤ length a = omega (arith, room, ap length x) in
          (stored-count _ a at (inline_bytes h v) r a' st ok rm ∙ sym (ap length x), stored_bytes _ a at (inline_bytes h v) r a' st ok rm ∙ sym (ap (put a at) x))

      pub away_done : limit ≤ n → (f : ℕ) → f ≡ remote_addr remote e.kept → (r : ℕ) (a' : List ℕ) → Stored (leb n max_value) a at (remote_bytes h n f) r a'
          → (r ≡ length (val_bytes limit remote h e)) × (a' ≡ put a at (val_bytes limit remote h e))
      away_done q f ef r a' st =
          let x = away q ∙ ap (remote_bytes h n) (sym ef) in
          let ok : leb n max_value ≡ true = le-leb n max_value nv in
          let rm : at + length (remote_bytes h n f) ≤ length a = omega (arith, room, ap length x) in
          (stored-count _ a at (remote_bytes h n f) r a' st ok rm ∙ sym (ap length x), stored_bytes _ a at (remote_bytes h n f) r a' st ok rm ∙ sym (ap (put a at) x))

  -- its remote frame
  module _ (m : Call) where
    none_is : n < m.limit → remote_frame_of m e ≡ []
    unfolding remote_frame_of
    none_is q = rw (sym en, lt-ltb n m.limit q) refl

    frame_is : m.limit ≤ n → e.kept ≡ 0 → remote_frame_of m e ≡ remote_frame m e.val
    unfolding remote_frame_of
    frame_is q z = rw (sym en, le-ltb n m.limit q, z) refl

    -- a remote that is kept takes no frame
    kept-is : m.limit ≤ n → (e.kept ≡ 0 → ⊥) → remote_frame_of m e ≡ []
    unfolding remote_frame_of
    kept-is q z = rw (sym en, le-ltb n m.limit q, ne_eqb e.kept 0 z) refl

    module _ (a : List ℕ) (at : ℕ) where
      nothing : remote_frame_of m e ≡ [] → (at ≡ at + length (remote_frame_of m e)) × (a ≡ put a at (remote_frame_of m e))
      nothing z = (omega (arith, ap length z), sym (ap (put a at) z ∙ put_nil a at))

      pub none_done : n < m.limit → (at ≡ at + length (remote_frame_of m e)) × (a ≡ put a at (remote_frame_of m e))
      none_done q = nothing (none_is q)

      pub kept_done : m.limit ≤ n → (e.kept ≡ 0 → ⊥) → (at ≡ at + length (remote_frame_of m e)) × (a ≡ put a at (remote_frame_of m e))
      kept_done q z = nothing (kept-is q z)

      module _ (q : m.limit ≤ n) (z : e.kept ≡ 0) (room : at + length (remote_frame_of m e) ≤ length a) where
        frame-long : length (remote_frame_of m e) ≡ frame_len (8 + n)
        frame-long = ap length (frame_is q z) ∙ length-remote-frame m e.val ∙ ap (λ (k : ℕ). frame_len (8 + k)) (sym en)

        pub frame-room : at + length (remote_frame m e.val) ≤ length a
        frame-room = omega (arith, room, ap length (frame_is q z))

        pub frame-end : at + frame_len (8 + n) ≤ length a
        frame-end = omega (arith, room, frame-long)

        pub frame_done : (x : ℕ) → x ≡ frame_len (8 + n) → (a' : List ℕ) → a' ≡ put a at (remote_frame m e.val) → (at + x ≡ at + length (remote_frame_of m e)) × (a' ≡ put a at (remote_frame_of m e))
        frame_done x ex a' ea = (omega (arith, ex, frame-long), ea ∙ sym (ap (put a at) (frame_is q z)))

-- an old version's record
module _ (e : Entry) (limit remote : ℕ) (a : List ℕ) (at : ℕ) (room : at + length (old_rec limit remote e) ≤ length a) (v : Ver) (ev : v ≡ e.ver) (k : ℕ) (a₁ : List ℕ) (st : Stored true a at (ver_bytes v) k a₁) where
  old-is : old_rec limit remote e ≡ ver_bytes v ++ val_bytes limit remote no_hist e
  unfolding old_rec
  old-is = rw ev refl

  first : at + length (ver_bytes v) ≤ length a
  first = two_first a at _ (ver_bytes v) (val_bytes limit remote no_hist e) old-is room

  kc : k ≡ length (ver_bytes v)
  kc = stored-count true a at (ver_bytes v) k a₁ st refl first

  ac : a₁ ≡ put a at (ver_bytes v)
  ac = stored_bytes true a at (ver_bytes v) k a₁ st refl first

  pub old-fits : at + k ≤ length a
  old-fits = omega (arith, first, kc)

  pub old-room : at + k + length (val_bytes limit remote no_hist e) ≤ length a₁
  old-room = two_room a at _ (ver_bytes v) _ old-is room k a₁ kc ac

  pub old_done : (n : ℕ) (a₂ : List ℕ) → n ≡ length (val_bytes limit remote no_hist e) → a₂ ≡ put a₁ (at + k) (val_bytes limit remote no_hist e) → (k + n ≡ length (old_rec limit remote e)) × (a₂ ≡ put a at (old_rec limit remote e))
  old_done n a₂ en e₂ = two_done a at _ (ver_bytes v) _ old-is room k a₁ kc ac n a₂ en e₂

-- a head's, whose key begins with q bytes of the page's prefix
module _ (e : Entry) (q limit remote : ℕ) (h : HistRef) (a : List ℕ) (at : ℕ) (room : at + length (head_rec limit q remote h e) ≤ length a) (v : Ver) (ev : v ≡ e.ver)
    (rest : List ℕ) (er : rest ≡ drop q e.key) (short : length rest ≤ max_key) (k : ℕ) (a₁ : List ℕ) (st : Stored (leb (length rest) max_key) a at (leaf_key v rest) k a₁) where
  head_is_lem : head_rec limit q remote h e ≡ leaf_key v rest ++ val_bytes limit remote h e
  unfolding head_rec
  head_is_lem = rw (ev, er) refl

  first_h : at + length (leaf_key v rest) ≤ length a
  first_h = two_first a at _ (leaf_key v rest) (val_bytes limit remote h e) head_is_lem room

  ok_h : leb (length rest) max_key ≡ true
  ok_h = le-leb (length rest) max_key short

  kc_h : k ≡ length (leaf_key v rest)
  kc_h = stored-count _ a at (leaf_key v rest) k a₁ st ok_h first_h

  ac_h : a₁ ≡ put a at (leaf_key v rest)
  ac_h = stored_bytes _ a at (leaf_key v rest) k a₁ st ok_h first_h

  pub head_fits : at + k ≤ length a
  head_fits = omega (arith, first_h, kc_h)

  pub head_room : at + k + length (val_bytes limit remote h e) ≤ length a₁
  head_room = two_room a at _ (leaf_key v rest) _ head_is_lem room k a₁ kc_h ac_h

  pub head_done : (n : ℕ) (a₂ : List ℕ) → n ≡ length (val_bytes limit remote h e) → a₂ ≡ put a₁ (at + k) (val_bytes limit remote h e) → (k + n ≡ length (head_rec limit q remote h e)) × (a₂ ≡ put a at (head_rec limit q remote h e))
  head_done n a₂ en e₂ = two_done a at _ (leaf_key v rest) _ head_is_lem room k a₁ kc_h ac_h n a₂ en e₂

-- ---- a hint

module _ (limit remote n : ℕ) where
  hint_none : n < limit → hint_of limit remote n ≡ []
  unfolding hint_of
  hint_none q = rw (lt-ltb n limit q) refl

  hint-is : limit ≤ n → hint_of limit remote n ≡ le 8 remote
  unfolding hint_of
  hint-is q = rw (le-ltb n limit q) refl

  module _ (a : List ℕ) (at : ℕ) where
    pub unhinted : n < limit → (at ≡ at + length (hint_of limit remote n)) × (a ≡ put a at (hint_of limit remote n))
    unhinted q = (omega (arith, ap length (hint_none q)), sym (ap (put a at) (hint_none q) ∙ put_nil a at))

    pub hint-room : limit ≤ n → at + length (hint_of limit remote n) ≤ length a → at + 8 ≤ length a
    hint-room q room = omega (arith, room, ap length (hint-is q), length-le 8 remote)

    pub hinted : limit ≤ n → (a' : List ℕ) → a' ≡ put a at (le 8 remote) → (at + 8 ≡ at + length (hint_of limit remote n)) × (a' ≡ put a at (hint_of limit remote n))
    hinted q a' e = (omega (arith, ap length (hint-is q), length-le 8 remote), e ∙ sym (ap (put a at) (hint-is q)))
