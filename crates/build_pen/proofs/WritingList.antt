-- One entry of a record list written: two keys told apart; value, record, remote frame and hint by `Writing`, with what is read of the list.
-- Assumes nothing.
use mathlib.Core.Path.{◌≡◌, refl, sym, ap, ◌∙◌}
use mathlib.Core.List.{List, ◌++◌}
use mathlib.Core.Bool.{Bool, true, false}
use Prim.Native.Nat.{ℕ, ◌+◌, ◌-◌, ◌≤◌, ◌<◌}
use native.Mathlib.Omega.{arith}
use lib.Dec.{leb}
use lib.ListN.{length, drop}
use lib.Seq.{drop-append_seam}
use Rattle.spans.specs.Span.{part, part_or, put, Stored}
use Rattle.spans.proofs.Part.{length_part, part_add, part_or_in}
use Rattle.order.specs.declared.Ver.{Ver}
use Rattle.order.specs.Order.{cmp_bytes, is_equal}
use Rattle.order.proofs.Laws.{cmp_eq}
use Rattle.frames.specs.Layout.{frame_len}
use Rattle.frames.specs.Limits.{max_key, max_value}
use Rattle.values.specs.declared.HistRef.{HistRef}
use Rattle.values.specs.Keys.{leaf_key}
use Rattle.values.specs.Vals.{inline_bytes, remote_bytes}
use Rattle.build_sources.specs.Source.{Entry}
use Rattle.build_image.specs.declared.Call.{Call}
use Rattle.build_image.specs.Image.{remote_addr, val_bytes, remote_frame, remote_frame_of, head_rec}
use Rattle.build_sweep.specs.Ents.{ver_in}
use Rattle.build_pen.specs.declared.RecordAt.{RecordAt}
use Rattle.build_pen.specs.Places.{Inside, entry_in, alike}
use Rattle.build_pen.specs.Nibs.{hint_of, hint_for}
use Rattle.build_pen.proofs.Writing as writing
use Rattle.std.specs.declared.cmp.Ordering.{Ordering}

-- ---- keys

not_equal : (o : Ordering) → (o ≡ Ordering.Equal → ⊥) → false ≡ is_equal o
not_equal Ordering.Less h = refl
not_equal Ordering.Equal h = absurd (h refl)
not_equal Ordering.Greater h = refl

module _ (l : List ℕ) (bat blen kat klen : ℕ) (hb : bat + blen ≤ length l) (hk : kat + klen ≤ length l) where
  bl : length (part_or l bat blen) ≡ blen
  bl = ap length (part_or_in l bat blen hb) ∙ length_part l bat blen hb

  kl : length (part_or l kat klen) ≡ klen
  kl = ap length (part_or_in l kat klen hk) ∙ length_part l kat klen hk

  pub alike_not : (blen ≡ klen → ⊥) → false ≡ alike l bat blen kat klen
  alike_not ne = not_equal (cmp_bytes (part_or l bat blen) (part_or l kat klen)) (λ e. ne (sym bl ∙ ap length (cmp_eq (part_or l bat blen) (part_or l kat klen) e) ∙ kl))

  module _ (a b : List ℕ) (ea : a ≡ part l bat blen) (eb : b ≡ part l kat klen) where
    pub alike_by : (r : Bool) → r ≡ is_equal (cmp_bytes a b) → r ≡ alike l bat blen kat klen
    alike_by r e = e ∙ rw (ea, eb, part_or_in l bat blen hb, part_or_in l kat klen hk) refl

-- ---- a value, and records

pub drop-part : (s : List ℕ) (at n k : ℕ) → at + n ≤ length s → k ≤ n → drop k (part s at n) ≡ part s (at + k) (n - k)
drop-part s at n k h q =
    let e : n ≡ k + (n - k) = omega arith in
    let f : k ≡ length (part s at k) = sym (length_part s at k (omega arith)) in
    ap (λ (j : ℕ). drop k (part s at j)) e ∙ ap (drop k) (part_add s at k (n - k)) ∙ ap (λ (j : ℕ). drop j (part s at k ++ part s (at + k) (n - k))) f ∙ drop-append_seam (part s at k) (part s (at + k) (n - k))

module _ (l : List ℕ) (i : RecordAt) (p : Inside l i) where
  abbrev vat : ℕ
  vat = i.kat + i.klen + 16

  abbrev e : Entry
  e = entry_in l true i

  val-long : i.vlen ≡ length (part l vat i.vlen)
  val-long = sym (length_part l vat i.vlen p.all)

  -- no remote is kept
  new_remote : (remote : ℕ) → remote ≡ remote_addr remote 0
  unfolding remote_addr
  new_remote remote = refl

  module _ (limit remote : ℕ) (h : HistRef) where
    either : val_bytes limit remote h (entry_in l false i) ≡ val_bytes limit remote h (entry_in l true i)
    unfolding val_bytes
    either = refl

    module _ (a : List ℕ) (at : ℕ) (room : at + length (val_bytes limit remote h (entry_in l true i)) ≤ length a) where
      pub near_done : i.vlen < limit → (v : List ℕ) → v ≡ part l vat i.vlen → (r : ℕ) (a' : List ℕ) → Stored (leb (length v) max_value) a at (inline_bytes h v) r a'
          → (r ≡ length (val_bytes limit remote h (entry_in l true i))) × (a' ≡ put a at (val_bytes limit remote h (entry_in l true i)))
      near_done = writing.near_done e i.vlen val-long p.val limit remote h a at room

      pub away_done : limit ≤ i.vlen → (r : ℕ) (a' : List ℕ) → Stored (leb i.vlen max_value) a at (remote_bytes h i.vlen remote) r a'
          → (r ≡ length (val_bytes limit remote h (entry_in l true i))) × (a' ≡ put a at (val_bytes limit remote h (entry_in l true i)))
      away_done q = writing.away_done e i.vlen val-long p.val limit remote h a at room q remote (new_remote remote)

  -- a head's record: the key's bytes behind the page's prefix
  module _ (q limit remote : ℕ) (h : HistRef) (qh : q ≤ i.klen) (a : List ℕ) (at : ℕ) (room : at + length (head_rec limit q remote h (entry_in l false i)) ≤ length a) (v : Ver) (ev : v ≡ ver_in l (i.kat + i.klen))
      (rest : List ℕ) (er : rest ≡ part l (i.kat + q) (i.klen - q)) (k : ℕ) (a₁ : List ℕ) (st : Stored (leb (length rest) max_key) a at (leaf_key v rest) k a₁) where
    key_in_lem : i.kat + i.klen ≤ length l
    key_in_lem = omega (arith, p.all)

    rest-is : rest ≡ drop q (part_or l i.kat i.klen)
    rest-is = sym (ap (drop q) (part_or_in l i.kat i.klen key_in_lem) ∙ drop-part l i.kat i.klen q key_in_lem qh ∙ sym er)

    short : length rest ≤ max_key
    short = omega (arith, ap length er, length_part l (i.kat + q) (i.klen - q) (omega (arith, key_in_lem, qh)), p.key)

    pub head_fits : at + k ≤ length a
    head_fits = writing.head_fits (entry_in l false i) q limit remote h a at room v ev rest rest-is short k a₁ st

    pub head_room : at + k + length (val_bytes limit remote h (entry_in l true i)) ≤ length a₁
    head_room = omega (arith, writing.head_room (entry_in l false i) q limit remote h a at room v ev rest rest-is short k a₁ st, ap length (either limit remote h))

    pub head_done : (n : ℕ) (a₂ : List ℕ) → n ≡ length (val_bytes limit remote h (entry_in l true i)) → a₂ ≡ put a₁ (at + k) (val_bytes limit remote h (entry_in l true i))
        → (k + n ≡ length (head_rec limit q remote h (entry_in l false i))) × (a₂ ≡ put a at (head_rec limit q remote h (entry_in l false i)))
    head_done n a₂ en e₂ =
        writing.head_done (entry_in l false i) q limit remote h a at room v ev rest rest-is short k a₁ st n a₂ (en ∙ sym (ap length (either limit remote h))) (e₂ ∙ sym (ap (put a₁ (at + k)) (either limit remote h)))

  -- its remote frame
  module _ (m : Call) where
    pub frame_either : remote_frame_of m (entry_in l true i) ≡ remote_frame_of m (entry_in l false i)
    unfolding remote_frame_of
    frame_either = refl

    module _ (a : List ℕ) (at : ℕ) where
      pub none_done : i.vlen < m.limit → (at ≡ at + length (remote_frame_of m (entry_in l true i))) × (a ≡ put a at (remote_frame_of m (entry_in l true i)))
      none_done = writing.none_done e i.vlen val-long p.val m a at

      module _ (q : m.limit ≤ i.vlen) (room : at + length (remote_frame_of m (entry_in l true i)) ≤ length a) where
        pub frame-room : at + length (remote_frame m (part l vat i.vlen)) ≤ length a
        frame-room = writing.frame-room e i.vlen val-long p.val m a at q refl room

        pub frame-end : at + frame_len (8 + i.vlen) ≤ length a
        frame-end = writing.frame-end e i.vlen val-long p.val m a at q refl room

        pub frame_done : (x : ℕ) → x ≡ frame_len (8 + i.vlen) → (a' : List ℕ) → a' ≡ put a at (remote_frame m (part l vat i.vlen))
            → (at + x ≡ at + length (remote_frame_of m (entry_in l true i))) × (a' ≡ put a at (remote_frame_of m (entry_in l true i)))
        frame_done = writing.frame_done e i.vlen val-long p.val m a at q refl room

-- its hint: no remote is kept
pub list-hint : (l : List ℕ) (i : RecordAt) → Inside l i → (limit remote : ℕ) (old : Bool) → hint_for limit remote (entry_in l old i) ≡ hint_of limit remote i.vlen
unfolding remote_addr
list-hint l i p limit remote old = ap (hint_of limit remote) (length_part l (i.kat + i.klen + 16) i.vlen p.all)
