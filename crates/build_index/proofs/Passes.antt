-- The passes over an index page's entries: their sizes, slots and records. Each law speaks of `Found`.
-- Assumes nothing.
use mathlib.Core.Path.{◌≡◌, refl, sym, ap, ◌∙◌, subst}
use mathlib.Core.List.{List, [], ◌∷◌, ◌++◌, append-nil, append_assoc}
use mathlib.Core.Bool.{true}
use Prim.Native.Nat.{ℕ, ◌+◌, ◌-◌, ◌*◌, ◌≤◌}
use native.Mathlib.Omega.{arith}
use lib.ListN.{length, take, drop, length-append, length-drop}
use Rattle.spans.specs.Span.{put, Stored}
use Rattle.spans.proofs.Put.{stored-count, stored_bytes}
use Rattle.spans.proofs.Writing.{Writing, begin, wrote, finished, front}
use Rattle.numbers.specs.Number.{le}
use Rattle.numbers.proofs.Numbers.{length-le}
use Rattle.lengths.specs.Leb128.{uleb}
use Rattle.frames.specs.Limits.{max_entries, max_key}
use Rattle.values.specs.Keys.{index_key}
use Rattle.build_sources.specs.declared.Cursor.{Cursor}
use Rattle.build_sources.specs.declared.EntryAt.{EntryAt}
use Rattle.build_sources.specs.Keys.{src_of}
use Rattle.build_sources.specs.Source.{Entry, Placed, entry_of, entries}
use Rattle.build_sources.proofs.Sourced.{Found, length-key}
use Rattle.build_image.specs.Image.{index_key_len, index_sums, index_slots, index_recs}
use Rattle.build_history.proofs.Writes.{wrote_le, room-le}
use Rattle.build_heads.specs.Steps.{Long}
use Rattle.lengths.proofs.Laws.{uleb-few}
use Rattle.build_index.specs.Parts.{index_rec}

-- ---- what each definition says of the first entry

pub key_most : (p n : ℕ) → index_key_len p n ≤ 5 + n
unfolding index_key_len
key_most p n = omega (arith, uleb-few (n - p))

pub sums_nil : (p : ℕ) (es : List Entry) → es ≡ [] → index_sums p es ≡ 0
unfolding index_sums
sums_nil p es e = rw e refl

slots_nil : (p off : ℕ) (es : List Entry) → es ≡ [] → index_slots p off es ≡ []
unfolding index_slots
slots_nil p off es e = rw e refl

recs_nil : (p : ℕ) (es : List Entry) → es ≡ [] → index_recs p es ≡ []
unfolding index_recs
recs_nil p es e = rw e refl

module _ (l w : List ℕ) (p : ℕ) (c : Cursor) (i : EntryAt) (d : Cursor) (f : Found l w c i d) where
  sums-found : index_sums p (entries l w c) ≡ index_key_len p (i.key.plen + i.key.klen) + 8 + index_sums p (entries l w d)
  unfolding index_sums
  sums-found = ap (index_sums p) f.list ∙ ap (λ (n : ℕ). index_key_len p n + 8 + index_sums p (entries l w d)) f.klen

  slots-found : (off : ℕ) → index_slots p off (entries l w c) ≡ le 4 off ++ index_slots p (off + (index_key_len p (i.key.plen + i.key.klen) + 8)) (entries l w d)
  unfolding index_slots
  slots-found off = ap (index_slots p off) f.list ∙ ap (λ (n : ℕ). le 4 off ++ index_slots p (off + (index_key_len p n + 8)) (entries l w d)) f.klen

  recs-found : index_recs p (entries l w c) ≡ index_rec p (entry_of l w i) ++ index_recs p (entries l w d)
  unfolding index_recs index_rec
  recs-found =
      ap (index_recs p) f.list
      ∙ sym (append_assoc (index_key (drop p (entry_of l w i).key)) (le 8 (entry_of l w i).page) (index_recs p (entries l w d)))

  longs : Long p (entries l w c) → Long p (entry_of l w i ∷ entries l w d)
  longs h = subst (λ (es : List Entry). Long p es) f.list h

  key_asks : Long p (entries l w c) → (i.key.plen + i.key.klen ≤ max_key) × (p ≤ i.key.plen + i.key.klen)
  key_asks h = let q = (longs h).0 in (f.placed.ksmall, omega (arith, q, f.klen))

-- ---- sizes

pub record Summing (l w : List ℕ) (p : ℕ) (c₀ c : Cursor) (n : ℕ) : Type 0 where
  pub goes : n + index_sums p (entries l w c) ≡ index_sums p (entries l w c₀)
  pub long : Long p (entries l w c)
  pub few : n + 4109 * length (entries l w c) ≤ 269283315

pub sum_begin : (l w : List ℕ) (p : ℕ) (c : Cursor) → Long p (entries l w c) → length (entries l w c) ≤ max_entries → Summing l w p c c 0
sum_begin l w p c h k = record { goes = omega arith; long = h; few = omega arith }

module _ (l w : List ℕ) (p : ℕ) (c₀ c : Cursor) (n : ℕ) (h : Summing l w p c₀ c n) where
  pub sum-end : entries l w c ≡ [] → (n ≡ index_sums p (entries l w c₀)) × (n ≤ 269283315)
  sum-end e = (omega (arith, h.goes, sums_nil p (entries l w c) e), omega (arith, h.few))

  module _ (i : EntryAt) (d : Cursor) (f : Found l w c i d) where
    pub sum_asks : (i.key.plen + i.key.klen ≤ max_key) × (p ≤ i.key.plen + i.key.klen)
    sum_asks = key_asks l w p c i d f h.long

    module _ (k : ℕ) (e : k ≡ index_key_len p (i.key.plen + i.key.klen)) where
      pub sum-small : n + (k + 8) ≤ 269283315
      sum-small = omega (arith, e, key_most p (i.key.plen + i.key.klen), sum_asks.0, h.few, ap length f.list)

      pub sum_turn : Summing l w p c₀ d (n + (k + 8))
      sum_turn =
          record {
            goes = omega (arith, e, h.goes, sums-found l w p c i d f);
            long = (longs l w p c i d f h.long).1;
            few = omega (arith, e, key_most p (i.key.plen + i.key.klen), sum_asks.0, h.few, ap length f.list);
          }

-- ---- slots

pub record Slotting (a₀ l : List ℕ) (footing : ℕ) (whole : List ℕ) (p : ℕ) (a : List ℕ) (c : Cursor) (to off : ℕ) : Type 0 where
  pub writing : Writing a₀ footing whole a to (index_slots p off (entries l (take footing a₀) c))
  pub long : Long p (entries l (take footing a₀) c)
  pub small : off + index_sums p (entries l (take footing a₀) c) ≤ 4294967295

module _ (a₀ l : List ℕ) (footing : ℕ) (whole : List ℕ) (p : ℕ) (a : List ℕ) (c : Cursor) (to off : ℕ) (h : Slotting a₀ l footing whole p a c to off) where
  pub slots_end : entries l (take footing a₀) c ≡ [] → a ≡ whole
  slots_end e = finished a₀ footing whole a to _ h.writing (slots_nil p off (entries l (take footing a₀) c) e)

  module _ (i : EntryAt) (d : Cursor) (f : Found l (take footing a₀) c i d) where
    pub slot_asks : (i.key.plen + i.key.klen ≤ max_key) × (p ≤ i.key.plen + i.key.klen)
    slot_asks = key_asks l (take footing a₀) p c i d f h.long

    pub slot-room : to + 4 ≤ length a
    slot-room = room-le a₀ footing whole a to _ 4 off _ h.writing (slots-found l (take footing a₀) p c i d f off)

    module _ (k : ℕ) (e : k ≡ index_key_len p (i.key.plen + i.key.klen)) where
      pub off_small : off + (k + 8) ≤ 4294967295
      off_small = omega (arith, e, h.small, sums-found l (take footing a₀) p c i d f)

      pub slots_turn : (a₁ : List ℕ) → a₁ ≡ put a to (le 4 off) → Slotting a₀ l footing whole p a₁ d (to + 4) (off + (k + 8))
      slots_turn a₁ q =
          record {
            writing = rw e (wrote_le a₀ footing whole a to _ 4 off _ h.writing (slots-found l (take footing a₀) p c i d f off) a₁ (to + 4) q refl);
            long = (longs l (take footing a₀) p c i d f h.long).1;
            small = omega (arith, e, h.small, sums-found l (take footing a₀) p c i d f);
          }

-- ---- records

pub record Recording (a₀ l : List ℕ) (footing : ℕ) (whole : List ℕ) (p : ℕ) (a : List ℕ) (c : Cursor) (to : ℕ) : Type 0 where
  pub writing : Writing a₀ footing whole a to (index_recs p (entries l (take footing a₀) c))
  pub long : Long p (entries l (take footing a₀) c)

module _ (a₀ l : List ℕ) (footing : ℕ) (whole : List ℕ) (p : ℕ) (a : List ℕ) (c : Cursor) (to : ℕ) (h : Recording a₀ l footing whole p a c to) where
  pub recs-end : entries l (take footing a₀) c ≡ [] → a ≡ whole
  recs-end e = finished a₀ footing whole a to _ h.writing (recs_nil p (entries l (take footing a₀) c) e)

  module _ (i : EntryAt) (d : Cursor) (f : Found l (take footing a₀) c i d) where
    pub rec_asks : (footing ≤ to) × (Placed l (take footing a) i × ((p ≤ i.key.plen + i.key.klen) × (to + length (index_rec p (entry_of l (take footing a) i)) ≤ length a)))
    rec_asks =
        rw h.writing.same
        (h.writing.over, (f.placed, ((key_asks l (take footing a₀) p c i d f h.long).1, front a₀ footing whole a to _ (index_rec p (entry_of l (take footing a₀) i)) _ h.writing (recs-found l (take footing a₀) p c i d f))))

    pub recs_turn : (a₁ : List ℕ) (to₁ : ℕ) → to₁ ≡ to + length (index_rec p (entry_of l (take footing a) i)) → a₁ ≡ put a to (index_rec p (entry_of l (take footing a) i)) → Recording a₀ l footing whole p a₁ d to₁
    recs_turn a₁ to₁ et ea =
        record {
          writing = wrote a₀ footing whole a to _ (index_rec p (entry_of l (take footing a₀) i)) _ a₁ to₁ h.writing (recs-found l (take footing a₀) p c i d f) (rw h.writing.same at ea) (rw h.writing.same at et);
          long = (longs l (take footing a₀) p c i d f h.long).1;
        }

-- ---- one record

same-page : (l w : List ℕ) (i : EntryAt) → (entry_of l w i).page ≡ i.page.0
unfolding entry_of
same-page l w i = refl

module _ (l a : List ℕ) (footing at : ℕ) (i : EntryAt) (p : ℕ) (over : footing ≤ at) (q : Placed l (take footing a) i) (pl : p ≤ i.key.plen + i.key.klen)
    (room : at + length (index_rec p (entry_of l (take footing a) i)) ≤ length a) where
  abbrev whole : List ℕ
  whole = put a at (index_rec p (entry_of l (take footing a) i))

  key-is : length (entry_of l (take footing a) i).key ≡ i.key.plen + i.key.klen
  unfolding entry_of
  key-is = length-key (src_of l (take footing a) i.footing) i.key q.pre q.rest

  rest-is : length (drop p (entry_of l (take footing a) i).key) ≡ i.key.plen + i.key.klen - p
  rest-is = length-drop p (entry_of l (take footing a) i).key ∙ ap (λ (k : ℕ). k - p) key-is

  bytes : index_rec p (entry_of l (take footing a) i) ≡ uleb (i.key.plen + i.key.klen - p) ++ (drop p (entry_of l (take footing a) i).key ++ (le 8 i.page.0 ++ []))
  unfolding index_rec index_key
  bytes =
      append_assoc (uleb (length (drop p (entry_of l (take footing a) i).key))) (drop p (entry_of l (take footing a) i).key) (le 8 (entry_of l (take footing a) i).page)
      ∙ ap (λ (k : ℕ). uleb k ++ (drop p (entry_of l (take footing a) i).key ++ le 8 (entry_of l (take footing a) i).page)) rest-is
      ∙ ap (λ (x : List ℕ). uleb (i.key.plen + i.key.klen - p) ++ (drop p (entry_of l (take footing a) i).key ++ x)) (page-is ∙ sym (append-nil (le 8 i.page.0)))
    where
      page-is : le 8 (entry_of l (take footing a) i).page ≡ le 8 i.page.0
      page-is = ap (le 8) (same-page l (take footing a) i)

  w0 : Writing a footing whole a at (index_rec p (entry_of l (take footing a) i))
  w0 = begin a footing at _ over room

  front-room : at + length (uleb (i.key.plen + i.key.klen - p)) ≤ length a
  front-room = front a footing whole a at _ (uleb (i.key.plen + i.key.klen - p)) _ w0 bytes

  module _ (k : ℕ) (a₁ : List ℕ) (st : Stored true a at (uleb (i.key.plen + i.key.klen - p)) k a₁) where
    w1 : Writing a footing whole a₁ (at + k) (drop p (entry_of l (take footing a) i).key ++ (le 8 i.page.0 ++ []))
    w1 =
        wrote a footing whole a at _ (uleb (i.key.plen + i.key.klen - p)) _ a₁ (at + k) w0 bytes
        (stored_bytes true a at (uleb (i.key.plen + i.key.klen - p)) k a₁ st refl front-room)
        (ap (λ (n : ℕ). at + n) (stored-count true a at (uleb (i.key.plen + i.key.klen - p)) k a₁ st refl front-room))

    pub len_fits : at + k ≤ length a
    len_fits = omega (arith, w1.room, w1.long)

    pub rest_needs : (footing ≤ at + k) × (Placed l (take footing a₁) i × ((p ≤ i.key.plen + i.key.klen) × (at + k + length (drop p (entry_of l (take footing a₁) i).key) ≤ length a₁)))
    rest_needs = rw w1.same (w1.over, (q, (pl, front a footing whole a₁ (at + k) _ (drop p (entry_of l (take footing a) i).key) _ w1 refl)))

    module _ (v : ℕ) (a₂ : List ℕ) (ev : v ≡ at + k + length (drop p (entry_of l (take footing a₁) i).key)) (e₂ : a₂ ≡ put a₁ (at + k) (drop p (entry_of l (take footing a₁) i).key)) where
      w2 : Writing a footing whole a₂ v (le 8 i.page.0 ++ [])
      w2 = wrote a footing whole a₁ (at + k) _ (drop p (entry_of l (take footing a) i).key) _ a₂ v w1 refl (rw w1.same at e₂) (rw w1.same at ev)

      pub id-room : v + 8 ≤ length a₂
      id-room = room-le a footing whole a₂ v _ 8 i.page.0 [] w2 refl

      pub id-fits : v + 8 ≤ length a
      id-fits = omega (arith, id-room, w2.long)

      pub rec-end : (a₃ : List ℕ) → a₃ ≡ put a₂ v (le 8 i.page.0) → (v + 8 ≡ at + length (index_rec p (entry_of l (take footing a) i))) × (a₃ ≡ whole)
      rec-end a₃ e₃ =
          let w3 = wrote_le a footing whole a₂ v _ 8 i.page.0 [] w2 refl a₃ (v + 8) e₃ refl in (
            omega (
              arith,
              ap length bytes,
              length-append (uleb (i.key.plen + i.key.klen - p)) (drop p (entry_of l (take footing a) i).key ++ (le 8 i.page.0 ++ [])),
              length-append (drop p (entry_of l (take footing a) i).key) (le 8 i.page.0 ++ []),
              length-append (le 8 i.page.0) [],
              length-le 8 i.page.0,
              stored-count true a at (uleb (i.key.plen + i.key.klen - p)) k a₁ st refl front-room,
              rw w1.same at ev,
            ),
            finished a footing whole a₃ (v + 8) [] w3 refl,
          )
