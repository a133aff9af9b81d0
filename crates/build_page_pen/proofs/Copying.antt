-- One entry of a page written: value, records, remote frame, each by what it is told.
-- Assumes nothing.
use mathlib.Core.Path.{◌≡◌, refl, sym, ap, ap₂, ◌∙◌}
use mathlib.Core.List.{List, [], ◌++◌}
use mathlib.Core.Bool.{Bool, true, false, cond}
use Prim.Native.Nat.{ℕ, ◌+◌, ◌-◌, ◌*◌, ◌≤◌, ◌<◌}
use native.Mathlib.Omega.{arith}
use borrow.Author.Tests.{lt-ltb, le-leb}
use lib.Dec.{leb}
use lib.ListN.{length, take, drop, length-append, length-drop}
use lib.Seq.{length-take-le}
use Rattle.spans.specs.Span.{part, put, put_if, Stored}
use Rattle.spans.proofs.Part.{length_part}
use Rattle.spans.proofs.Put.{stored-count, stored_bytes, length-put, part-put-below, take_put}
use Rattle.order.specs.declared.Ver.{Ver}
use Rattle.frames.specs.declared.Body.{Body}
use Rattle.frames.specs.Layout.{base_len, frame_len}
use Rattle.frames.specs.Limits.{max_key, max_value}
use Rattle.values.specs.declared.HistRef.{HistRef}
use Rattle.values.specs.Keys.{ver_bytes, ver_in, leaf_front, leaf_key}
use Rattle.values.specs.Vals.{no_hist, front_bytes, inline_bytes, remote_bytes}
use Rattle.pages.specs.Meaning.{prefix_of}
use Rattle.build_sources.specs.Source.{Entry}
use Rattle.build_image.specs.declared.Call.{Call}
use Rattle.build_image.specs.Image.{remote_addr, val_bytes, remote_frame, remote_frame_of, old_rec, head_rec}
use Rattle.build_rows.specs.declared.Bytes.{Bytes}
use Rattle.build_rows.specs.declared.Old.{Old}
use Rattle.build_rows.specs.declared.Head.{Head}
use Rattle.build_pen.proofs.Writing as writing
use Rattle.build_page_pen.specs.Told.{told, value_told, old_told, key_told, head_told, ValueBelow, OldBelow, KeyBelow, HeadBelow}
use Rattle.build_page_pen.proofs.Telling.{value_up, key_up, value_same, key-same, value_alone}

-- ---- a value

new_remote : (remote : ℕ) → remote ≡ remote_addr remote 0
unfolding remote_addr
new_remote remote = refl

module _ (a : List ℕ) (v : Bytes) (at : ℕ) (h : HistRef) (limit remote : ℕ) (b : ValueBelow at v) (room : at + length (val_bytes limit remote h (value_told a v 0)) ≤ length a) where
  val-long : length (part a v.at v.len) ≡ v.len
  val-long = length_part a v.at v.len (omega (arith, b.all, room))

  near_by : (n : ℕ) → length (part a v.at v.len) ≡ n → n < limit → val_bytes limit remote h (value_told a v 0) ≡ front_bytes h false n ++ part a v.at v.len
  unfolding val_bytes inline_bytes
  near_by n e q = rw (e, lt-ltb n limit q) refl

  module _ (q : v.len < limit) (k : ℕ) (a₁ : List ℕ) (st : Stored (leb v.len max_value) a at (front_bytes h false v.len) k a₁) where
    is : val_bytes limit remote h (value_told a v 0) ≡ front_bytes h false v.len ++ part a v.at v.len
    is = near_by v.len val-long q

    first : at + length (front_bytes h false v.len) ≤ length a
    first = writing.two_first a at _ (front_bytes h false v.len) (part a v.at v.len) is room

    kc : k ≡ length (front_bytes h false v.len)
    kc = stored-count _ a at (front_bytes h false v.len) k a₁ st (le-leb v.len max_value b.small) first

    ac : a₁ ≡ put a at (front_bytes h false v.len)
    ac = stored_bytes _ a at (front_bytes h false v.len) k a₁ st (le-leb v.len max_value b.small) first

    pub near_fits : at + k + v.len ≤ length a
    near_fits = omega (arith, writing.two_room a at _ (front_bytes h false v.len) (part a v.at v.len) is room k a₁ kc ac, val-long, ap length ac, length-put a at (front_bytes h false v.len))

    pub near_asks : (v.at + v.len ≤ at + k) × (at + k + v.len ≤ length a₁)
    near_asks = (omega (arith, b.all), omega (arith, near_fits, ap length ac, length-put a at (front_bytes h false v.len)))

    pub near_done : (a₂ : List ℕ) → a₂ ≡ put a₁ (at + k) (part a₁ v.at v.len) → (k + v.len ≡ length (val_bytes limit remote h (value_told a v 0))) × (a₂ ≡ put a at (val_bytes limit remote h (value_told a v 0)))
    near_done a₂ e =
        let y : part a₁ v.at v.len ≡ part a v.at v.len = ap (λ (x : List ℕ). part x v.at v.len) ac ∙ part-put-below a at (front_bytes h false v.len) v.at v.len b.all in
        writing.two_done a at _ (front_bytes h false v.len) (part a v.at v.len) is room k a₁ kc ac v.len a₂ (sym val-long) (e ∙ ap (put a₁ (at + k)) y)

  pub away_done : limit ≤ v.len → (r : ℕ) (a₁ : List ℕ) → Stored (leb v.len max_value) a at (remote_bytes h v.len remote) r a₁
      → (r ≡ length (val_bytes limit remote h (value_told a v 0))) × (a₁ ≡ put a at (val_bytes limit remote h (value_told a v 0)))
  away_done q = writing.away_done (value_told a v 0) v.len (sym val-long) b.small limit remote h a at room q remote (new_remote remote)

-- a value that is told in an arena with more written above it
value-told : (x y : List ℕ) (low : ℕ) → take low x ≡ take low y → (v : Bytes) → ValueBelow low v → (old : Bool) (key : List ℕ) (ver : Ver) (limit remote : ℕ) (h : HistRef)
    → val_bytes limit remote h (value_told x v 0) ≡ val_bytes limit remote h (told y old key ver v 0)
value-told x y low e v b old key ver limit remote h =
    sym (value_alone x v old key ver limit remote h 0) ∙ ap (λ (z : List ℕ). val_bytes limit remote h (record { old = old; key = key; ver = ver; val = z; kept = 0; page = 0 })) (value_same x y low e v b)

-- what a store that takes any index leaves below it
stored_same : (ok : Bool) (a : List ℕ) (at : ℕ) (x : List ℕ) (k : ℕ) (a₁ : List ℕ) → Stored ok a at x k a₁ → take at a₁ ≡ take at a
unfolding put_if
stored_same ok a at x k a₁ st = ap (take at) st.bytes ∙ go ok (leb (at + length x) (length a))
  where
    go : (o t : Bool) → take at (cond o (cond t (put a at x) a) a) ≡ take at a
    go true true = take_put at a at x (omega arith)
    go true false = refl
    go false t = refl

-- ---- an old version's record

module _ (a : List ℕ) (o : Old) (at limit remote : ℕ) (b : OldBelow at o) (room : at + length (old_rec limit remote (old_told a o 0)) ≤ length a)
    (v : Ver) (ev : v ≡ ver_in a o.ver_at) (k : ℕ) (a₁ : List ℕ) (st : Stored true a at (ver_bytes v) k a₁) where
  pub old-fits : at + k ≤ length a
  old-fits = writing.old-fits (old_told a o 0) limit remote a at room v ev k a₁ st

  val_is : val_bytes limit remote no_hist (value_told a₁ o.bytes 0) ≡ val_bytes limit remote no_hist (old_told a o 0)
  val_is = value-told a₁ a at (stored_same true a at (ver_bytes v) k a₁ st) o.bytes b.value true [] (ver_in a o.ver_at) limit remote no_hist

  pub old_asks : ValueBelow (at + k) o.bytes × (at + k + length (val_bytes limit remote no_hist (value_told a₁ o.bytes 0)) ≤ length a₁)
  old_asks = (value_up at (at + k) o.bytes (omega arith) b.value, omega (arith, writing.old-room (old_told a o 0) limit remote a at room v ev k a₁ st, ap length val_is))

  pub old_done : (n : ℕ) (a₂ : List ℕ) → n ≡ length (val_bytes limit remote no_hist (value_told a₁ o.bytes 0)) → a₂ ≡ put a₁ (at + k) (val_bytes limit remote no_hist (value_told a₁ o.bytes 0))
      → (k + n ≡ length (old_rec limit remote (old_told a o 0))) × (a₂ ≡ put a at (old_rec limit remote (old_told a o 0)))
  old_done n a₂ en e₂ = writing.old_done (old_told a o 0) limit remote a at room v ev k a₁ st n a₂ (en ∙ ap length val_is) (e₂ ∙ ap (put a₁ (at + k)) val_is)

-- ---- a head's record

module _ (a : List ℕ) (b : Body) (r : Head) (at p limit remote : ℕ) (h : HistRef) (hb : HeadBelow at b r) (pl : p ≤ b.prefix_len + r.rest_len)
    (room : at + length (head_rec limit p remote h (head_told a b r 0)) ≤ length a) where
  abbrev key : List ℕ
  key = key_told a b (r.ver_at + 12) r.rest_len

  abbrev rest : List ℕ
  rest = drop p (key_told a b (r.ver_at + 12) r.rest_len)

  abbrev size : ℕ
  size = b.prefix_len + r.rest_len - p

  key-long : length key ≡ b.prefix_len + r.rest_len
  unfolding prefix_of
  key-long =
      length-append (part a (b.at + base_len + 4 * b.elems) b.prefix_len) (part a (r.ver_at + 12) r.rest_len)
      ∙ ap₂ (λ (m n : ℕ). m + n) (length_part a (b.at + base_len + 4 * b.elems) b.prefix_len (omega (arith, hb.key.prefix, room))) (length_part a (r.ver_at + 12) r.rest_len (omega (arith, hb.key.all, room)))

  rest-long : length rest ≡ size
  rest-long = length-drop p key ∙ ap (λ (n : ℕ). n - p) key-long

  module _ (v : Ver) (ev : v ≡ ver_in a r.ver_at) (k : ℕ) (a₁ : List ℕ) (st : Stored (leb size max_key) a at (leaf_front v size) k a₁) where
    is_h : head_rec limit p remote h (head_told a b r 0) ≡ leaf_key v rest ++ val_bytes limit remote h (head_told a b r 0)
    unfolding head_rec
    is_h = rw ev refl

    is_k : leaf_key v rest ≡ leaf_front v size ++ rest
    unfolding leaf_key
    is_k = ap (λ (n : ℕ). leaf_front v n ++ rest) rest-long

    room_k : at + length (leaf_key v rest) ≤ length a
    room_k = writing.two_first a at _ (leaf_key v rest) (val_bytes limit remote h (head_told a b r 0)) is_h room

    first_k : at + length (leaf_front v size) ≤ length a
    first_k = writing.two_first a at _ (leaf_front v size) rest is_k room_k

    ok_k : leb size max_key ≡ true
    ok_k = le-leb size max_key (omega (arith, hb.key.small))

    kc_k : k ≡ length (leaf_front v size)
    kc_k = stored-count _ a at (leaf_front v size) k a₁ st ok_k first_k

    ac_k : a₁ ≡ put a at (leaf_front v size)
    ac_k = stored_bytes _ a at (leaf_front v size) k a₁ st ok_k first_k

    same_k : take at a₁ ≡ take at a
    same_k = stored_same _ a at (leaf_front v size) k a₁ st

    pub head_fits : at + k ≤ length a
    head_fits = omega (arith, first_k, kc_k)

    rest-is : drop p (key_told a₁ b (r.ver_at + 12) r.rest_len) ≡ rest
    rest-is = ap (drop p) (key-same a₁ a at same_k b (r.ver_at + 12) r.rest_len hb.key)

    pub rest_asks : KeyBelow (at + k) b (r.ver_at + 12) r.rest_len × ((p ≤ b.prefix_len + r.rest_len) × (at + k + (b.prefix_len + r.rest_len - p) ≤ length a₁))
    rest_asks = (
      key_up at (at + k) b (r.ver_at + 12) r.rest_len (omega arith) hb.key,
      (pl, omega (arith, writing.two_room a at _ (leaf_front v size) rest is_k room_k k a₁ kc_k ac_k, rest-long)),
    )

    module _ (n : ℕ) (a₂ : List ℕ) (en : n ≡ length (drop p (key_told a₁ b (r.ver_at + 12) r.rest_len)))
        (e₂ : a₂ ≡ put a₁ (at + k) (drop p (key_told a₁ b (r.ver_at + 12) r.rest_len))) where
      both_k : (k + n ≡ length (leaf_key v rest)) × (a₂ ≡ put a at (leaf_key v rest))
      both_k = writing.two_done a at _ (leaf_front v size) rest is_k room_k k a₁ kc_k ac_k n a₂ (en ∙ ap length rest-is) (e₂ ∙ ap (put a₁ (at + k)) rest-is)

      same_2 : take at a₂ ≡ take at a
      same_2 = ap (take at) both_k.1 ∙ take_put at a at (leaf_key v rest) (omega arith)

      val-is_h : val_bytes limit remote h (value_told a₂ r.bytes 0) ≡ val_bytes limit remote h (head_told a b r 0)
      val-is_h = value-told a₂ a at same_2 r.bytes hb.value false key (ver_in a r.ver_at) limit remote h

      past_k : at + k + n ≡ at + (k + n)
      past_k = omega arith

      pub key_fits : at + k + n ≤ length a
      key_fits = omega (arith, room_k, both_k.0)

      pub head_asks : ValueBelow (at + k + n) r.bytes × (at + k + n + length (val_bytes limit remote h (value_told a₂ r.bytes 0)) ≤ length a₂)
      head_asks = (
        value_up at (at + k + n) r.bytes (omega arith) hb.value,
        omega (arith, writing.two_room a at _ (leaf_key v rest) (val_bytes limit remote h (head_told a b r 0)) is_h room (k + n) a₂ both_k.0 both_k.1, ap length val-is_h),
      )

      pub head_done : (j : ℕ) (a₃ : List ℕ) → j ≡ length (val_bytes limit remote h (value_told a₂ r.bytes 0)) → a₃ ≡ put a₂ (at + k + n) (val_bytes limit remote h (value_told a₂ r.bytes 0))
          → (k + n + j ≡ length (head_rec limit p remote h (head_told a b r 0))) × (a₃ ≡ put a at (head_rec limit p remote h (head_told a b r 0)))
      head_done j a₃ ej e₃ =
          writing.two_done a at _ (leaf_key v rest) (val_bytes limit remote h (head_told a b r 0)) is_h room (k + n) a₂ both_k.0 both_k.1 j a₃ (ej ∙ ap length val-is_h)
          (e₃ ∙ ap (λ (x : ℕ). put a₂ x (val_bytes limit remote h (value_told a₂ r.bytes 0))) past_k ∙ ap (put a₂ (at + (k + n))) val-is_h)

-- ---- a remote frame

module _ (a : List ℕ) (low : ℕ) (v : Bytes) (at : ℕ) (m : Call) (b : ValueBelow low v) (over : low ≤ at)
    (room : at + length (remote_frame_of m (value_told (take low a) v v.remote.0)) ≤ length a) where
  abbrev w : List ℕ
  w = take low a

  inside : v.at + v.len ≤ length w
  inside = omega (arith, b.all, length-take-le low a (omega (arith, over, room)))

  long_w : v.len ≡ length (part w v.at v.len)
  long_w = sym (length_part w v.at v.len inside)

  abbrev e : Entry
  e = value_told w v v.remote.0

  pub none_done : v.len < m.limit → (at ≡ at + length (remote_frame_of m e)) × (a ≡ put a at (remote_frame_of m e))
  none_done = writing.none_done e v.len long_w b.small m a at

  pub kept_done : m.limit ≤ v.len → (v.remote.0 ≡ 0 → ⊥) → (at ≡ at + length (remote_frame_of m e)) × (a ≡ put a at (remote_frame_of m e))
  kept_done = writing.kept_done e v.len long_w b.small m a at

  module _ (q : m.limit ≤ v.len) (z : v.remote.0 ≡ 0) where
    pub frame_asks : (low ≤ at) × ((v.len ≤ max_value) × ((v.at + v.len ≤ length w) × (at + length (remote_frame m (part w v.at v.len)) ≤ length a)))
    frame_asks = (over, (b.small, (inside, writing.frame-room e v.len long_w b.small m a at q z room)))

    pub frame-end : at + frame_len (8 + v.len) ≤ length a
    frame-end = writing.frame-end e v.len long_w b.small m a at q z room

    pub frame_done : (x : ℕ) → x ≡ frame_len (8 + v.len) → (a' : List ℕ) → a' ≡ put a at (remote_frame m (part w v.at v.len)) → (at + x ≡ at + length (remote_frame_of m e)) × (a' ≡ put a at (remote_frame_of m e))
    frame_done = writing.frame_done e v.len long_w b.small m a at q z room
