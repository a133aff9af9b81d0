-- Stores of a head's record: the rest of a key in two parts, and the whole record.
-- Assumes nothing.
use mathlib.Core.Path.{◌≡◌, refl, sym, ap, ◌∙◌}
use mathlib.Core.List.{List, [], ◌∷◌, ◌++◌, append-nil, append_assoc}
use mathlib.Core.Bool.{Bool, true, false, cond}
use Prim.Native.Nat.{ℕ, zero, suc, ◌+◌, ◌-◌, ◌≤◌, ◌<◌}
use native.Mathlib.Omega.{arith}
use borrow.Author.Tests.{le-leb}
use lib.Dec.{leb}
use lib.ListN.{length, take, drop, length-append, length-drop, length-take}
use lib.Seq.{drop-append_seam, drop-append-le, drop-drop}
use Rattle.spans.specs.Span.{part, put, Stored}
use Rattle.spans.proofs.Part.{length_part, part_add}
use Rattle.spans.proofs.Put.{stored-count, stored_bytes}
use Rattle.spans.proofs.Writing.{Writing, begin, wrote, finished, front}
use Rattle.order.specs.declared.Ver.{Ver}
use Rattle.frames.specs.Limits.{max_key}
use Rattle.values.specs.declared.HistRef.{HistRef}
use Rattle.values.specs.Keys.{leaf_front, leaf_key}
use Rattle.build_sources.specs.declared.EntryAt.{EntryAt}
use Rattle.build_sources.specs.Keys.{src_of, key_bytes}
use Rattle.build_sources.specs.Source.{Entry, Placed, entry_of}
use Rattle.build_sources.proofs.Sourced.{key_parts, length-key}
use Rattle.build_image.specs.Image.{val_bytes, head_rec}
use Rattle.build_history.proofs.Writes.{wrote_n, room-n, wrote_part, part_asks}

drop-part : (s : List ℕ) (at n k : ℕ) → at + n ≤ length s → k ≤ n → drop k (part s at n) ≡ part s (at + k) (n - k)
drop-part s at n k h le =
    let e : n ≡ k + (n - k) = omega arith in
    let f : k ≡ length (part s at k) = sym (length_part s at k (omega arith)) in
    ap (λ (j : ℕ). drop k (part s at j)) e ∙ ap (drop k) (part_add s at k (n - k)) ∙ ap (λ (j : ℕ). drop j (part s at k ++ part s (at + k) (n - k))) f ∙ drop-append_seam (part s at k) (part s (at + k) (n - k))

-- a source is no longer than both slices
pub footing-short : (l a : List ℕ) (footing : ℕ) (b : Bool) → length (src_of l (take footing a) b) ≤ length l + length a
footing-short l a footing true = omega (arith, length-take footing a)
footing-short l a footing false = omega arith

drop-behind : (x y : List ℕ) (p : ℕ) → length x ≤ p → drop p (x ++ y) ≡ drop (p - length x) y
drop-behind x y p h =
    let e : length x + (p - length x) ≡ p = omega arith in
    ap (λ (k : ℕ). drop k (x ++ y)) (sym e) ∙ sym (drop-drop (p - length x) (length x) (x ++ y)) ∙ ap (drop (p - length x)) (drop-append_seam x y)

module _ (l a : List ℕ) (footing at : ℕ) (i : EntryAt) (p : ℕ) (over : footing ≤ at) (q : Placed l (take footing a) i) (pl : p ≤ i.key.plen + i.key.klen)
    (room : at + length (drop p (entry_of l (take footing a) i).key) ≤ length a) where
  abbrev src : List ℕ
  src = src_of l (take footing a) i.footing

  abbrev rest-whole : List ℕ
  rest-whole = put a at (drop p (entry_of l (take footing a) i).key)

  whole-key : (entry_of l (take footing a) i).key ≡ part (src_of l (take footing a) i.footing) i.key.pat i.key.plen ++ part (src_of l (take footing a) i.footing) i.key.kat i.key.klen
  unfolding entry_of
  whole-key = key_parts (src_of l (take footing a) i.footing) i.key q.pre q.rest

  r0 : Writing a footing rest-whole a at (drop p (entry_of l (take footing a) i).key)
  r0 = begin a footing at _ over room

  pre-long : length (part src i.key.pat i.key.plen) ≡ i.key.plen
  pre-long = length_part src i.key.pat i.key.plen q.pre

  -- the prefix of the page before is shorter than the new one
  module _ (s : i.key.plen < p) where
    back : drop p (entry_of l (take footing a) i).key ≡ part src (i.key.kat + (p - i.key.plen)) (i.key.klen - (p - i.key.plen)) ++ []
    back =
        ap (drop p) whole-key
        ∙ drop-behind (part src i.key.pat i.key.plen) (part src i.key.kat i.key.klen) p (omega (arith, pre-long))
        ∙ ap (λ (k : ℕ). drop (p - k) (part src i.key.kat i.key.klen)) pre-long
        ∙ drop-part src i.key.kat i.key.klen (p - i.key.plen) q.rest (omega arith)
        ∙ sym (append-nil (part src (i.key.kat + (p - i.key.plen)) (i.key.klen - (p - i.key.plen))))

    back_in : i.key.kat + (p - i.key.plen) + (i.key.klen - (p - i.key.plen)) ≤ length src
    back_in = omega (arith, q.rest)

    pub back_asks : (footing ≤ at) × ((at + (i.key.klen - (p - i.key.plen)) ≤ length a) × (i.key.kat + (p - i.key.plen) + (i.key.klen - (p - i.key.plen)) ≤ length (src_of l (take footing a) i.footing)))
    back_asks = part_asks a footing rest-whole a at _ [] l i.footing (i.key.kat + (p - i.key.plen)) (i.key.klen - (p - i.key.plen)) r0 back back_in

    pub back_end : (a₁ : List ℕ) → a₁ ≡ put a at (part (src_of l (take footing a) i.footing) (i.key.kat + (p - i.key.plen)) (i.key.klen - (p - i.key.plen)))
        → (at + (i.key.klen - (p - i.key.plen)) ≡ at + length (drop p (entry_of l (take footing a) i).key)) × (a₁ ≡ rest-whole)
    back_end a₁ e = (
      omega (arith, ap length back, length-append (part src (i.key.kat + (p - i.key.plen)) (i.key.klen - (p - i.key.plen))) [], length_part src (i.key.kat + (p - i.key.plen)) (i.key.klen - (p - i.key.plen)) back_in),
      finished a footing rest-whole a₁ (at + (i.key.klen - (p - i.key.plen))) []
          (wrote_part a footing rest-whole a at _ [] l i.footing (i.key.kat + (p - i.key.plen)) (i.key.klen - (p - i.key.plen)) r0 back back_in a₁ _ e refl) refl,
    )

  -- or not
  module _ (s : p ≤ i.key.plen) where
    both : drop p (entry_of l (take footing a) i).key ≡ part src (i.key.pat + p) (i.key.plen - p) ++ (part src i.key.kat i.key.klen ++ [])
    both =
        ap (drop p) whole-key
        ∙ drop-append-le p (part src i.key.pat i.key.plen) (part src i.key.kat i.key.klen) (omega (arith, pre-long))
        ∙ ap (λ (x : List ℕ). x ++ part src i.key.kat i.key.klen) (drop-part src i.key.pat i.key.plen p q.pre s)
        ∙ ap (λ (x : List ℕ). part src (i.key.pat + p) (i.key.plen - p) ++ x) (sym (append-nil (part src i.key.kat i.key.klen)))

    front_in : i.key.pat + p + (i.key.plen - p) ≤ length src
    front_in = omega (arith, q.pre)

    pub front_asks : (footing ≤ at) × ((at + (i.key.plen - p) ≤ length a) × (i.key.pat + p + (i.key.plen - p) ≤ length (src_of l (take footing a) i.footing)))
    front_asks = part_asks a footing rest-whole a at _ _ l i.footing (i.key.pat + p) (i.key.plen - p) r0 both front_in

    module _ (a₁ : List ℕ) (e₁ : a₁ ≡ put a at (part (src_of l (take footing a) i.footing) (i.key.pat + p) (i.key.plen - p))) where
      b1 : Writing a footing rest-whole a₁ (at + (i.key.plen - p)) (part src i.key.kat i.key.klen ++ [])
      b1 = wrote_part a footing rest-whole a at _ _ l i.footing (i.key.pat + p) (i.key.plen - p) r0 both front_in a₁ (at + (i.key.plen - p)) e₁ refl

      pub rest_asks : (footing ≤ at + (i.key.plen - p)) × ((at + (i.key.plen - p) + i.key.klen ≤ length a₁) × (i.key.kat + i.key.klen ≤ length (src_of l (take footing a₁) i.footing)))
      rest_asks = part_asks a footing rest-whole a₁ (at + (i.key.plen - p)) _ [] l i.footing i.key.kat i.key.klen b1 refl q.rest

      pub rest-fits : at + (i.key.plen - p) + i.key.klen ≤ length a
      rest-fits = omega (arith, rest_asks.1.0, b1.long)

      pub both_end : (a₂ : List ℕ) → a₂ ≡ put a₁ (at + (i.key.plen - p)) (part (src_of l (take footing a₁) i.footing) i.key.kat i.key.klen)
          → (at + (i.key.plen - p) + i.key.klen ≡ at + length (drop p (entry_of l (take footing a) i).key)) × (a₂ ≡ rest-whole)
      both_end a₂ e = (
        omega (arith, length-drop p (entry_of l (take footing a) i).key, key-long),
        finished a footing rest-whole a₂ (at + (i.key.plen - p) + i.key.klen) []
            (wrote_part a footing rest-whole a₁ (at + (i.key.plen - p)) _ [] l i.footing i.key.kat i.key.klen b1 refl q.rest a₂ _ e refl) refl,
      )
        where
          key-long : length (entry_of l (take footing a) i).key ≡ i.key.plen + i.key.klen
          key-long = ap length whole-key ∙ length-append (part src i.key.pat i.key.plen) (part src i.key.kat i.key.klen) ∙ omega (arith, pre-long, length_part src i.key.kat i.key.klen q.rest)

-- ---- the whole record

same-ver : (l w : List ℕ) (i : EntryAt) → (entry_of l w i).ver ≡ i.ver
unfolding entry_of
same-ver l w i = refl

module _ (l a : List ℕ) (footing at : ℕ) (i : EntryAt) (p limit remote : ℕ) (h : HistRef) (over : footing ≤ at) (q : Placed l (take footing a) i) (pl : p ≤ i.key.plen + i.key.klen)
    (room : at + length (head_rec limit p remote h (entry_of l (take footing a) i)) ≤ length a) where
  abbrev ent : Entry
  ent = entry_of l (take footing a) i

  abbrev head_whole : List ℕ
  head_whole = put a at (head_rec limit p remote h (entry_of l (take footing a) i))

  key-is : length (entry_of l (take footing a) i).key ≡ i.key.plen + i.key.klen
  unfolding entry_of
  key-is = length-key (src_of l (take footing a) i.footing) i.key q.pre q.rest

  rest-is : length (drop p (entry_of l (take footing a) i).key) ≡ i.key.plen + i.key.klen - p
  rest-is = length-drop p (entry_of l (take footing a) i).key ∙ ap (λ (k : ℕ). k - p) key-is

  head_bytes : head_rec limit p remote h (entry_of l (take footing a) i) ≡ leaf_front i.ver (i.key.plen + i.key.klen - p) ++ (drop p (entry_of l (take footing a) i).key ++ val_bytes limit remote h (entry_of l (take footing a) i))
  unfolding head_rec leaf_key
  head_bytes =
      append_assoc (leaf_front (entry_of l (take footing a) i).ver (length (drop p (entry_of l (take footing a) i).key))) (drop p (entry_of l (take footing a) i).key) (val_bytes limit remote h (entry_of l (take footing a) i))
      ∙ ap (λ (k : ℕ). leaf_front (entry_of l (take footing a) i).ver k ++ (drop p (entry_of l (take footing a) i).key ++ val_bytes limit remote h (entry_of l (take footing a) i))) rest-is
      ∙ ver-is
    where
      ver-is : leaf_front (entry_of l (take footing a) i).ver (i.key.plen + i.key.klen - p) ++ (drop p (entry_of l (take footing a) i).key ++ val_bytes limit remote h (entry_of l (take footing a) i))
          ≡ leaf_front i.ver (i.key.plen + i.key.klen - p) ++ (drop p (entry_of l (take footing a) i).key ++ val_bytes limit remote h (entry_of l (take footing a) i))
      ver-is = ap (λ (w : Ver). leaf_front w (i.key.plen + i.key.klen - p) ++ (drop p (entry_of l (take footing a) i).key ++ val_bytes limit remote h (entry_of l (take footing a) i))) (same-ver l (take footing a) i)

  h0 : Writing a footing head_whole a at (head_rec limit p remote h (entry_of l (take footing a) i))
  h0 = begin a footing at _ over room

  ok : leb (i.key.plen + i.key.klen - p) max_key ≡ true
  ok = le-leb (i.key.plen + i.key.klen - p) max_key (omega (arith, q.ksmall))

  front-room : at + length (leaf_front i.ver (i.key.plen + i.key.klen - p)) ≤ length a
  front-room = front a footing head_whole a at _ (leaf_front i.ver (i.key.plen + i.key.klen - p)) _ h0 head_bytes

  module _ (k : ℕ) (a₁ : List ℕ) (st : Stored (leb (i.key.plen + i.key.klen - p) max_key) a at (leaf_front i.ver (i.key.plen + i.key.klen - p)) k a₁) where
    h1 : Writing a footing head_whole a₁ (at + k) (drop p (entry_of l (take footing a) i).key ++ val_bytes limit remote h (entry_of l (take footing a) i))
    h1 =
        wrote a footing head_whole a at _ (leaf_front i.ver (i.key.plen + i.key.klen - p)) _ a₁ (at + k) h0 head_bytes
        (stored_bytes _ a at (leaf_front i.ver (i.key.plen + i.key.klen - p)) k a₁ st ok front-room)
        (ap (λ (n : ℕ). at + n) (stored-count _ a at (leaf_front i.ver (i.key.plen + i.key.klen - p)) k a₁ st ok front-room))

    pub head_fits : at + k ≤ length a
    head_fits = omega (arith, h1.room, h1.long)

    pub rest_needs : (footing ≤ at + k) × (Placed l (take footing a₁) i × ((p ≤ i.key.plen + i.key.klen) × (at + k + length (drop p (entry_of l (take footing a₁) i).key) ≤ length a₁)))
    rest_needs = rw h1.same (h1.over, (q, (pl, front a footing head_whole a₁ (at + k) _ (drop p (entry_of l (take footing a) i).key) _ h1 refl)))

    module _ (s : ℕ) (a₂ : List ℕ) (es : s ≡ at + k + length (drop p (entry_of l (take footing a₁) i).key)) (e₂ : a₂ ≡ put a₁ (at + k) (drop p (entry_of l (take footing a₁) i).key)) where
      h2 : Writing a footing head_whole a₂ s (val_bytes limit remote h (entry_of l (take footing a) i))
      h2 = wrote a footing head_whole a₁ (at + k) _ (drop p (entry_of l (take footing a) i).key) _ a₂ s h1 refl (rw h1.same at e₂) (rw h1.same at es)

      pub val_needs : (footing ≤ s) × (Placed l (take footing a₂) i × (s + length (val_bytes limit remote h (entry_of l (take footing a₂) i)) ≤ length a₂))
      val_needs = rw h2.same (h2.over, (q, h2.room))

      pub head_end : (a₃ : List ℕ) → a₃ ≡ put a₂ s (val_bytes limit remote h (entry_of l (take footing a₂) i)) → a₃ ≡ head_whole
      head_end a₃ e = (rw h2.same at e) ∙ h2.goes
