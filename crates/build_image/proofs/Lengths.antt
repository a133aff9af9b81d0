-- The length of each thing that a build writes: the arithmetic of its judge.
-- Assumes nothing.
use mathlib.Core.Path.{◌≡◌, refl, ap, ◌∙◌}
use mathlib.Core.List.{List, [], ◌∷◌, ◌++◌}
use mathlib.Core.Bool.{Bool, true, false, cond}
use Prim.Native.Nat.{ℕ, zero, suc, ◌+◌, ◌-◌, ◌*◌, ◌≤◌, ◌<◌}
use native.Mathlib.Omega.{arith}
use borrow.Author.Tests.{ltb-true}
use lib.Dec.{ltb, eqb}
use lib.ListN.{length, take, drop, length-append, length-replicate}
use Rattle.numbers.specs.Number.{le}
use Rattle.numbers.proofs.Numbers.{length-le}
use Rattle.frames.specs.Layout.{box_len, base_len, slots_at, box_remote, node_leaf, flag_sibling, frame_len}
use Rattle.frames.specs.Stored.{box_bytes, base_of}
use Rattle.frames.proofs.Stores.{length_box, length-heads}
use Rattle.values.specs.declared.HistRef.{HistRef}
use Rattle.values.specs.Keys.{ver_bytes}
use Rattle.values.specs.Vals.{no_hist, size_of, front_size, inline_bytes, remote_bytes}
use Rattle.values.proofs.Laws.{length-ver, length_inline, length-remote}
use Rattle.lengths.proofs.Laws.{uleb-few}
use Rattle.frames.specs.Limits.{max_value}
use Rattle.build_paging.specs.Cuts.{total}
use Rattle.build_sources.specs.Source.{Entry, wanted, only}
use Rattle.build_image.specs.declared.Call.{Call}
use Rattle.build_image.specs.Sizes.{pad, remote_len, val_len, cost, costs_of, remotes_len, key_len}
use Rattle.build_image.specs.Image.{box_of, page_box, remote_addr, val_bytes, remote_frame, remote_frame_of, remote_frames, old_rec, old_recs, old_slots, hist_head, hist_size, hist_page, page_end}

pub frame-least : (n : ℕ) → box_len + n ≤ frame_len n
frame-least n = omega arith

pub frame_most : (n : ℕ) → frame_len n ≤ box_len + n + 7
frame_most n = omega arith

pub length-pad : (n : ℕ) → length (pad n) ≡ frame_len n - (box_len + n)
unfolding pad
length-pad n = length-replicate (frame_len n - (box_len + n)) 0

-- of a list's entries, its heads or its old versions are no more
few_by : (t : Bool) (e : Entry) (xs : List Entry) (n : ℕ) → length xs ≤ n → length (cond t (e ∷ xs) xs) ≤ suc n
few_by true e xs n h = omega arith
few_by false e xs n h = omega arith

pub only-few : (b : Bool) (es : List Entry) → length (only b es) ≤ length es
unfolding only
only-few b [] = omega arith
only-few b (e ∷ es) = few_by (wanted b e.old) e (only b es) (length es) (only-few b es)

-- ---- keys and values

pub key_most : (p n : ℕ) → key_len p n ≤ 17 + n
unfolding key_len
key_most p n = omega (arith, uleb-few (12 + (n - p)))

whole_by : (h b : Bool) (limit n : ℕ) → n ≤ max_value → cond h 14 0 + cond b (5 + n) 13 ≤ 65600
whole_by true true limit n q = omega arith
whole_by true false limit n q = omega arith
whole_by false true limit n q = omega arith
whole_by false false limit n q = omega arith

pub size_most : (h : Bool) (limit n : ℕ) → n ≤ max_value → size_of h limit n ≤ 65600
unfolding size_of
size_most h limit n q = whole_by h (ltb n limit) limit n q

size_by : (b : Bool) (limit n : ℕ) → ltb n limit ≡ b → (5 ≤ 0 + cond b (5 + n) 13) × (0 + cond b (5 + n) 13 ≤ limit + 13)
size_by true limit n e = (omega arith, let h : n < limit = ltb-true n limit e in omega arith)
size_by false limit n e = (omega arith, omega arith)

pub size-some : (limit n : ℕ) → (5 ≤ size_of false limit n) × (size_of false limit n ≤ limit + 13)
unfolding size_of
size-some limit n = size_by (ltb n limit) limit n refl

val_by : (b : Bool) (h : HistRef) (v : List ℕ) (a : ℕ) → length (cond b (inline_bytes h v) (remote_bytes h (length v) a)) ≡ front_size h.count + cond b (length v) 8
val_by true h v a = length_inline h v
val_by false h v a = length-remote h (length v) a

pub length-val : (limit remote : ℕ) (h : HistRef) (e : Entry) → length (val_bytes limit remote h e) ≡ front_size h.count + cond (ltb (length e.val) limit) (length e.val) 8
unfolding val_bytes
length-val limit remote h e = val_by (ltb (length e.val) limit) h e.val (remote_addr remote e.kept)

plain_by : (b : Bool) (n : ℕ) → 5 + cond b n 8 ≡ 0 + cond b (5 + n) 13
plain_by true n = omega arith
plain_by false n = omega arith

-- without history
pub length-plain : (limit remote : ℕ) (e : Entry) → length (val_bytes limit remote no_hist e) ≡ val_len limit e
unfolding front_size size_of
length-plain limit remote e = length-val limit remote no_hist e ∙ plain_by (ltb (length e.val) limit) (length e.val)

-- ---- remote frames

remote_by : (b c : Bool) (n : ℕ) → cond b 0 (cond c (frame_len (8 + n)) 0) ≤ n + 47
remote_by true c n = omega arith
remote_by false true n = omega arith
remote_by false false n = omega arith

pub remote_most : (limit n kept : ℕ) → remote_len limit n kept ≤ n + 47
unfolding remote_len
remote_most limit n kept = remote_by (ltb n limit) (eqb kept 0) n

pub length-remote-frame : (m : Call) (v : List ℕ) → length (remote_frame m v) ≡ frame_len (8 + length v)
unfolding remote_frame
length-remote-frame m v =
    let box = box_bytes (box_of m (8 + length v) box_remote node_leaf 0 0 0) in
    length-append box (le 8 (length v) ++ (v ++ pad (8 + length v)))
    ∙ omega (arith, length_box (box_of m (8 + length v) box_remote node_leaf 0 0 0), length-append (le 8 (length v)) (v ++ pad (8 + length v)), length-le 8 (length v), length-append v (pad (8 + length v)), length-pad (8 + length v))

frame_by : (b c : Bool) (m : Call) (v : List ℕ) → length (cond b [] (cond c (remote_frame m v) [])) ≡ cond b 0 (cond c (frame_len (8 + length v)) 0)
frame_by true c m v = refl
frame_by false true m v = length-remote-frame m v
frame_by false false m v = refl

pub length-remote_of : (m : Call) (e : Entry) → length (remote_frame_of m e) ≡ remote_len m.limit (length e.val) e.kept
unfolding remote_frame_of remote_len
length-remote_of m e = frame_by (ltb (length e.val) m.limit) (eqb e.kept 0) m e.val

pub length-remotes : (m : Call) (es : List Entry) → length (remote_frames m es) ≡ remotes_len m.limit es
unfolding remote_frames remotes_len
length-remotes m [] = refl
length-remotes m (e ∷ es) = omega (arith, length-append (remote_frame_of m e) (remote_frames m es), length-remote_of m e, length-remotes m es)

-- ---- history pages

pub length-old : (limit remote : ℕ) (e : Entry) → length (old_rec limit remote e) ≡ 12 + val_len limit e
unfolding old_rec
length-old limit remote e = omega (arith, length-append (ver_bytes e.ver) (val_bytes limit remote no_hist e), length-ver e.ver, length-plain limit remote e)

pub length-slots : (limit off : ℕ) (es : List Entry) → length (old_slots limit off es) ≡ 4 * length es
unfolding old_slots
length-slots limit off [] = refl
length-slots limit off (e ∷ es) = omega (arith, length-append (le 4 off) (old_slots limit (off + (12 + val_len limit e)) es), length-le 4 off, length-slots limit (off + (12 + val_len limit e)) es)

pub length-recs : (limit remote : ℕ) (es : List Entry) → length (old_recs limit remote es) + 4 * length es ≡ total (costs_of limit es)
unfolding old_recs costs_of cost total
length-recs limit remote [] = refl
length-recs limit remote (e ∷ es) =
    let next = remote + remote_len limit (length e.val) e.kept in
    omega (arith, length-append (old_rec limit remote e) (old_recs limit next es), length-old limit remote e, length-recs limit next es)

pub length_hist_head : (m : Call) (link n size : ℕ) → length (hist_head m link n size) ≡ slots_at
unfolding hist_head
length_hist_head m link n size = length-heads (page_box m size node_leaf flag_sibling link) (base_of size n 0 0 0 0 0 0)

-- a page and its remote frames end where the next page starts
pub length-page : (m : Call) (at link : ℕ) (es : List Entry) → at + length (hist_page m at link es) ≡ page_end m.limit at es
unfolding hist_page page_end hist_size
length-page m at link es =
    let s = base_len + total (costs_of m.limit es) in
    let f = remote_frames m es in
    let r = old_recs m.limit (at + frame_len s) es in
    let o = old_slots m.limit (base_len + 4 * length es) es in
    let h = hist_head m link (length es) s in
    omega (
      arith,
      length-append h (o ++ (r ++ (pad s ++ f))),
      length-append o (r ++ (pad s ++ f)),
      length-append r (pad s ++ f),
      length-append (pad s) f,
      length_hist_head m link (length es) s,
      length-slots m.limit (base_len + 4 * length es) es,
      length-recs m.limit (at + frame_len s) es,
      length-pad s,
      length-remotes m es,
    )

-- ---- costs

pub cost-some : (limit : ℕ) (e : Entry) → (21 ≤ cost limit e) × (cost limit e ≤ limit + 29)
unfolding cost
cost-some limit e = let h = size-some limit (length e.val) in (omega arith, omega arith)

pub costs_many : (limit : ℕ) (es : List Entry) → 21 * length es ≤ total (costs_of limit es)
unfolding costs_of total
costs_many limit [] = omega arith
costs_many limit (e ∷ es) = omega (arith, (cost-some limit e).0, costs_many limit es)

pub costs_take : (limit k : ℕ) (es : List Entry) → costs_of limit (take k es) ≡ take k (costs_of limit es)
unfolding costs_of
costs_take limit zero es = refl
costs_take limit (suc k) [] = refl
costs_take limit (suc k) (e ∷ es) = ap (λ (l : List ℕ). cost limit e ∷ l) (costs_take limit k es)

pub costs_drop : (limit k : ℕ) (es : List Entry) → costs_of limit (drop k es) ≡ drop k (costs_of limit es)
unfolding costs_of
costs_drop limit zero es = refl
costs_drop limit (suc k) [] = refl
costs_drop limit (suc k) (e ∷ es) = costs_drop limit k es

pub costs_length : (limit : ℕ) (es : List Entry) → length (costs_of limit es) ≡ length es
unfolding costs_of
costs_length limit [] = refl
costs_length limit (e ∷ es) = ap suc (costs_length limit es)
