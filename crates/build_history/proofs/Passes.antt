-- The passes over the next k entries of one kind: slots, records, remote frames. Each law speaks of `Chosen`.
-- Assumes nothing.
use mathlib.Core.Path.{◌≡◌, refl, sym, ap, ◌∙◌}
use mathlib.Core.List.{List, [], ◌∷◌, ◌++◌}
use mathlib.Core.Bool.{Bool, true, false}
use Prim.Native.Nat.{ℕ, zero, suc, ◌+◌, ◌-◌, ◌*◌, ◌≤◌, ◌<◌}
use native.Mathlib.Numerals.{sub-one}
use native.Mathlib.Omega.{arith}
use borrow.Author.Tests.{lt-ltb, le-ltb, eq-eqb, ne_eqb}
use lib.ListN.{length, take, drop, length-append}
use Rattle.spans.specs.Span.{part, put}
use Rattle.spans.proofs.Part.{length_part}
use Rattle.spans.proofs.Put.{put_nil}
use Rattle.spans.proofs.Writing.{Writing, wrote, front}
use Rattle.numbers.specs.Number.{le}
use Rattle.frames.specs.Layout.{frame_len}
use Rattle.frames.specs.Limits.{max_value}
use Rattle.values.specs.Vals.{size_of}
use Rattle.build_paging.specs.Cuts.{total}
use Rattle.build_sources.specs.declared.Cursor.{Cursor}
use Rattle.build_sources.specs.declared.EntryAt.{EntryAt}
use Rattle.build_sources.specs.Keys.{src_of}
use Rattle.build_sources.specs.Source.{Entry, Placed, entry_of, entries, only, Chosen}
use Rattle.build_image.specs.declared.Call.{Call}
use Rattle.build_image.specs.Sizes.{remote_len, val_len, cost, costs_of, remotes_len}
use Rattle.build_image.specs.Image.{old_slots, old_rec, old_recs, remote_frame, remote_frame_of, remote_frames}
use Rattle.build_image.proofs.Lengths.{length-old, length-remote_of, length-remotes, length-remote-frame}
use Rattle.build_history.proofs.Writes.{wrote_le, room-le}

pub take_cons : (k : ℕ) (x : Entry) (xs ys : List Entry) → ys ≡ x ∷ xs → 0 < k → take k ys ≡ x ∷ take (k - 1) xs
take_cons zero x xs ys e p = absurd (omega arith)
take_cons (suc k) x xs ys e p = rw (e, sub-one)

pub take_nil : (k : ℕ) (xs : List Entry) → xs ≡ [] → take k xs ≡ []
take_nil zero xs e = refl
take_nil (suc k) xs e = rw e

pub take_none : (k : ℕ) (xs : List Entry) → k ≤ 0 → take k xs ≡ []
take_none zero xs e = refl
take_none (suc k) xs e = absurd (omega arith)

pub slots_nil : (limit off : ℕ) (es : List Entry) → es ≡ [] → old_slots limit off es ≡ []
unfolding old_slots
slots_nil limit off es e = rw e

pub recs_nil : (limit remote : ℕ) (es : List Entry) → es ≡ [] → old_recs limit remote es ≡ []
unfolding old_recs
recs_nil limit remote es e = rw e

pub frames_nil : (m : Call) (es : List Entry) → es ≡ [] → remote_frames m es ≡ []
unfolding remote_frames
frames_nil m es e = rw e

pub no_bytes : (xs : List ℕ) → length xs ≡ 0 → xs ≡ []
no_bytes [] e = refl
no_bytes (x ∷ xs) e = absurd (omega (arith, e))

-- none take a remote frame
pub frames_none : (a : List ℕ) (at : ℕ) (m : Call) (es : List Entry) (n : ℕ) → n ≡ remotes_len m.limit es → n ≡ 0 → a ≡ put a at (remote_frames m es)
frames_none a at m es n e z = sym (ap (put a at) (no_bytes (remote_frames m es) (omega (arith, length-remotes m es, e, z))) ∙ put_nil a at)

module _ (l w : List ℕ) (b : Bool) (c : Cursor) (i : EntryAt) (d : Cursor) (g : Chosen l w b c i d) (k : ℕ) (p : 0 < k) where
  taken : take k (only b (entries l w c)) ≡ entry_of l w i ∷ take (k - 1) (only b (entries l w d))
  taken = take_cons k (entry_of l w i) (only b (entries l w d)) (only b (entries l w c)) g.list p

  size_is : (limit : ℕ) → val_len limit (entry_of l w i) ≡ size_of false limit i.vlen
  size_is limit = ap (size_of false limit) g.vlen

  remote-is : (limit : ℕ) → remote_len limit (length (entry_of l w i).val) (entry_of l w i).kept ≡ remote_len limit i.vlen i.kept.0
  unfolding entry_of
  remote-is limit = ap (λ (n : ℕ). remote_len limit n i.kept.0) g.vlen

  pub costs_found : (limit : ℕ) → total (costs_of limit (take k (only b (entries l w c)))) ≡ 12 + size_of false limit i.vlen + 4 + total (costs_of limit (take (k - 1) (only b (entries l w d))))
  unfolding costs_of cost total
  costs_found limit = ap (λ (es : List Entry). total (costs_of limit es)) taken ∙ ap (λ (v : ℕ). 12 + v + 4 + total (costs_of limit (take (k - 1) (only b (entries l w d))))) (size_is limit)

  pub remotes-found : (limit : ℕ) → remotes_len limit (take k (only b (entries l w c))) ≡ remote_len limit i.vlen i.kept.0 + remotes_len limit (take (k - 1) (only b (entries l w d)))
  unfolding remotes_len
  remotes-found limit = ap (remotes_len limit) taken ∙ ap (λ (v : ℕ). v + remotes_len limit (take (k - 1) (only b (entries l w d)))) (remote-is limit)

  slots-found : (limit off : ℕ) → old_slots limit off (take k (only b (entries l w c))) ≡ le 4 off ++ old_slots limit (off + (12 + size_of false limit i.vlen)) (take (k - 1) (only b (entries l w d)))
  unfolding old_slots
  slots-found limit off = ap (old_slots limit off) taken ∙ ap (λ (v : ℕ). le 4 off ++ old_slots limit (off + (12 + v)) (take (k - 1) (only b (entries l w d)))) (size_is limit)

  recs-found : (limit remote : ℕ) → old_recs limit remote (take k (only b (entries l w c))) ≡ old_rec limit remote (entry_of l w i) ++ old_recs limit (remote + remote_len limit i.vlen i.kept.0) (take (k - 1) (only b (entries l w d)))
  unfolding old_recs
  recs-found limit remote = ap (old_recs limit remote) taken ∙ ap (λ (v : ℕ). old_rec limit remote (entry_of l w i) ++ old_recs limit (remote + v) (take (k - 1) (only b (entries l w d)))) (remote-is limit)

  frames_found : (m : Call) → remote_frames m (take k (only b (entries l w c))) ≡ remote_frame_of m (entry_of l w i) ++ remote_frames m (take (k - 1) (only b (entries l w d)))
  unfolding remote_frames
  frames_found m = ap (remote_frames m) taken

  pub old-long : (limit remote : ℕ) → length (old_rec limit remote (entry_of l w i)) ≡ 12 + size_of false limit i.vlen
  old-long limit remote = length-old limit remote (entry_of l w i) ∙ ap (λ (v : ℕ). 12 + v) (size_is limit)

  -- slots
  module _ (a₀ : List ℕ) (footing : ℕ) (whole a : List ℕ) (to limit off : ℕ) (h : Writing a₀ footing whole a to (old_slots limit off (take k (only b (entries l w c))))) where
    pub slot-room : to + 4 ≤ length a
    slot-room = room-le a₀ footing whole a to _ 4 off _ h (slots-found limit off)

    pub slot_turn : (a' : List ℕ) (x : ℕ) → a' ≡ put a to (le 4 off) → x ≡ size_of false limit i.vlen
        → Writing a₀ footing whole a' (to + 4) (old_slots limit (off + (12 + x)) (take (k - 1) (only b (entries l w d))))
    slot_turn a' x e ex = rw ex (wrote_le a₀ footing whole a to _ 4 off _ h (slots-found limit off) a' (to + 4) e refl)

-- records: the footing is still that of a₀
module _ (l a₀ : List ℕ) (footing : ℕ) (b : Bool) (c : Cursor) (i : EntryAt) (d : Cursor) (g : Chosen l (take footing a₀) b c i d) (k : ℕ) (p : 0 < k) (whole a : List ℕ) (to : ℕ) where
  module _ (limit remote : ℕ) (h : Writing a₀ footing whole a to (old_recs limit remote (take k (only b (entries l (take footing a₀) c))))) where
    pub recs_asks : (footing ≤ to) × (Placed l (take footing a) i × (to + length (old_rec limit remote (entry_of l (take footing a) i)) ≤ length a))
    recs_asks = rw h.same (h.over, (g.placed, front a₀ footing whole a to _ (old_rec limit remote (entry_of l (take footing a₀) i)) _ h (recs-found l (take footing a₀) b c i d g k p limit remote)))

    pub recs-room : to + (12 + size_of false limit i.vlen) ≤ length a
    recs-room = rw (old-long l (take footing a₀) b c i d g k p limit remote) at (front a₀ footing whole a to _ (old_rec limit remote (entry_of l (take footing a₀) i)) _ h (recs-found l (take footing a₀) b c i d g k p limit remote))

    pub recs_turn : (a' : List ℕ) (x y : ℕ) → a' ≡ put a to (old_rec limit remote (entry_of l (take footing a) i)) → x ≡ size_of false limit i.vlen → y ≡ remote_len limit i.vlen i.kept.0
        → Writing a₀ footing whole a' (to + (12 + x)) (old_recs limit (remote + y) (take (k - 1) (only b (entries l (take footing a₀) d))))
    recs_turn a' x y e ex ey =
        rw (ex, ey)
        (wrote a₀ footing whole a to _ (old_rec limit remote (entry_of l (take footing a₀) i)) _ a' (to + (12 + size_of false limit i.vlen)) h (recs-found l (take footing a₀) b c i d g k p limit remote)
        (rw h.same at e) (ap (λ (n : ℕ). to + n) (sym (old-long l (take footing a₀) b c i d g k p limit remote))))

  module _ (m : Call) (h : Writing a₀ footing whole a to (remote_frames m (take k (only b (entries l (take footing a₀) c))))) where
    pub frames_asks : (footing ≤ to) × (Placed l (take footing a) i × (to + length (remote_frame_of m (entry_of l (take footing a) i)) ≤ length a))
    frames_asks = rw h.same (h.over, (g.placed, front a₀ footing whole a to _ (remote_frame_of m (entry_of l (take footing a₀) i)) _ h (frames_found l (take footing a₀) b c i d g k p m)))

    pub frames_turn : (a' : List ℕ) (to' : ℕ) → to' ≡ to + length (remote_frame_of m (entry_of l (take footing a) i)) → a' ≡ put a to (remote_frame_of m (entry_of l (take footing a) i))
        → Writing a₀ footing whole a' to' (remote_frames m (take (k - 1) (only b (entries l (take footing a₀) d))))
    frames_turn a' to' q e =
        wrote a₀ footing whole a to _ (remote_frame_of m (entry_of l (take footing a₀) i)) _ a' to' h (frames_found l (take footing a₀) b c i d g k p m) (rw h.same at e) (rw h.same at q)

-- one remote frame, or none
val-long : (l w : List ℕ) (i : EntryAt) → Placed l w i → length (entry_of l w i).val ≡ i.vlen
unfolding entry_of
val-long l w i p = length_part _ _ _ p.val

module _ (l w : List ℕ) (i : EntryAt) (m : Call) (p : Placed l w i) where
  near_none : i.vlen < m.limit → remote_frame_of m (entry_of l w i) ≡ []
  unfolding remote_frame_of
  near_none h = rw (val-long l w i p, lt-ltb i.vlen m.limit h)

  kept_none : m.limit ≤ i.vlen → (i.kept.0 ≡ 0 → ⊥) → remote_frame_of m (entry_of l w i) ≡ []
  unfolding remote_frame_of entry_of
  kept_none h k = rw (val-long l w i p, le-ltb i.vlen m.limit h, ne_eqb i.kept.0 0 k)

  remote-one : m.limit ≤ i.vlen → i.kept.0 ≡ 0 → remote_frame_of m (entry_of l w i) ≡ remote_frame m (entry_of l w i).val
  unfolding remote_frame_of entry_of
  remote-one h k = rw (val-long l w i p, le-ltb i.vlen m.limit h, eq-eqb i.kept.0 0 k)

  module _ (a : List ℕ) (at : ℕ) where
    nothing : remote_frame_of m (entry_of l w i) ≡ [] → (at ≡ at + length (remote_frame_of m (entry_of l w i))) × (a ≡ put a at (remote_frame_of m (entry_of l w i)))
    nothing e = rw e (omega arith, sym (put_nil a at))

    pub near_ret : i.vlen < m.limit → (at ≡ at + length (remote_frame_of m (entry_of l w i))) × (a ≡ put a at (remote_frame_of m (entry_of l w i)))
    near_ret h = nothing (near_none h)

    pub kept_ret : m.limit ≤ i.vlen → (i.kept.0 ≡ 0 → ⊥) → (at ≡ at + length (remote_frame_of m (entry_of l w i))) × (a ≡ put a at (remote_frame_of m (entry_of l w i)))
    kept_ret h k = nothing (kept_none h k)

    remote-asked : m.limit ≤ i.vlen → i.kept.0 ≡ 0 → at + length (remote_frame_of m (entry_of l w i)) ≤ length a → at + length (remote_frame m (entry_of l w i).val) ≤ length a
    remote-asked h k r = rw (remote-one h k) at r

    -- what the frame's writer asks of the value's place
    pub remote_asks : m.limit ≤ i.vlen → i.kept.0 ≡ 0 → at + length (remote_frame_of m (entry_of l w i)) ≤ length a
        → (i.vlen ≤ max_value) × ((i.vat + i.vlen ≤ length (src_of l w i.footing)) × (at + length (remote_frame m (part (src_of l w i.footing) i.vat i.vlen)) ≤ length a))
    unfolding entry_of
    remote_asks h k r = (p.vsmall, (p.val, remote-asked h k r))

    remote-long : length (remote_frame m (entry_of l w i).val) ≡ frame_len (8 + i.vlen)
    remote-long = length-remote-frame m (entry_of l w i).val ∙ ap (λ (n : ℕ). frame_len (8 + n)) (val-long l w i p)

    pub remote_fit : m.limit ≤ i.vlen → i.kept.0 ≡ 0 → at + length (remote_frame_of m (entry_of l w i)) ≤ length a → at + frame_len (8 + i.vlen) ≤ length a
    remote_fit h k r = omega (arith, remote-asked h k r, remote-long)

    pub remote_ret : m.limit ≤ i.vlen → i.kept.0 ≡ 0 → (r : ℕ) (a' : List ℕ) → r ≡ frame_len (8 + i.vlen) → a' ≡ put a at (remote_frame m (part (src_of l w i.footing) i.vat i.vlen))
        → (at + r ≡ at + length (remote_frame_of m (entry_of l w i))) × (a' ≡ put a at (remote_frame_of m (entry_of l w i)))
    unfolding entry_of
    remote_ret h k r a' e q = rw (remote-one h k) (ap (λ (n : ℕ). at + n) (e ∙ sym remote-long), q)
