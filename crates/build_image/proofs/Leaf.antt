-- The length of each part of a leaf's frame and of a whole build; the head records fit in rule 5's size.
-- Assumes nothing.
use mathlib.Core.Path.{◌≡◌, refl, sym, ap, ◌∙◌}
use mathlib.Core.List.{List, [], ◌∷◌, ◌++◌}
use mathlib.Core.Bool.{Bool, true, false, not, cond}
use Prim.Native.Nat.{ℕ, zero, suc, ◌+◌, ◌-◌, ◌*◌, ◌≤◌, ◌<◌}
use native.Mathlib.Omega.{arith}
use borrow.Author.Tests.{eqb-true, ne_eqb}
use lib.Dec.{ltb, eqb}
use lib.ListN.{length, take, drop, length-append, length-drop, replicate, length-replicate}
use Rattle.numbers.specs.Number.{le}
use Rattle.numbers.proofs.Numbers.{length-le}
use Rattle.lengths.specs.Leb128.{uleb}
use Rattle.frames.specs.Layout.{box_len, base_len, node_leaf, frame_len}
use Rattle.frames.specs.Stored.{page_bytes, base_of}
use Rattle.frames.proofs.Stores.{length-heads}
use Rattle.values.specs.declared.HistRef.{HistRef}
use Rattle.values.specs.Keys.{leaf_key}
use Rattle.values.specs.Vals.{size_of, front_size}
use Rattle.values.proofs.Laws.{length-leaf_key}
use Rattle.build_sources.specs.Source.{Entry, only, olds, heads}
use Rattle.build_paging.specs.Cuts.{cuts_from}
use Rattle.build_image.specs.declared.Call.{Call}
use Rattle.build_image.specs.Sizes.{pad, remote_len, val_len, costs_of, remotes_len, key_len, old_run, sums, counted, room_of}
use Rattle.build_image.specs.Image.{page_box, val_bytes, remote_addr, remote_frames, remote_addrs, hist_page, page_end, hist_size, link_to, history, history_end, starts, hist_addrs, PageSlot, places, ref_of, head_rec, head_recs, any, head_slots, les, hints, Borders, first_of, leaf_size, cuts_of, leaf_room, one_if, leaf_frame, leaf_image}
use Rattle.build_image.proofs.Lengths.{length-val, length-remotes, length-pad, length-page, frame-least}

-- ---- history

pub length-history : (m : Call) (ns : List ℕ) (at : ℕ) (es : List Entry) → at + length (history m at ns es) ≡ history_end m.limit at ns es
unfolding history history_end
length-history m [] at es = omega arith
length-history m (n ∷ ns) at es =
    let next = page_end m.limit at (take n es) in
    let page = hist_page m at (link_to next ns) (take n es) in
    omega (arith, length-append page (history m next ns (drop n es)), length-page m at (link_to next ns) (take n es), length-history m ns next (drop n es))

-- ---- heads

slots_by : (b : Bool) (x y : List ℕ) (off : ℕ) (e : Entry) (hs : List Entry) → length x ≡ 4 * length hs → length y ≡ 4 * length hs
    → length (cond b x (le 4 off ++ y)) ≡ 4 * length (cond (not b) (e ∷ hs) hs)
slots_by true x y off e hs p q = p
slots_by false x y off e hs p q = omega (arith, length-append (le 4 off) y, length-le 4 off)

-- "4 per head"
pub length_head_slots : (limit p : ℕ) (es : List Entry) (off : ℕ) → length (head_slots limit p off es) ≡ 4 * length (heads es)
unfolding head_slots only
length_head_slots limit p [] off = refl
length_head_slots limit p (e ∷ es) off =
    let step = key_len p (length e.key) + size_of (any (old_run es)) limit (length e.val) in
    slots_by e.old (head_slots limit p off es) (head_slots limit p (off + step) es) off e (heads es) (length_head_slots limit p es off) (length_head_slots limit p es (off + step))

front_by : (k n : ℕ) (b : Bool) → front_size k + cond b n 8 ≡ cond (any k) 14 0 + cond b (5 + n) 13
unfolding front_size
front_by zero n true = omega arith
front_by zero n false = omega arith
front_by (suc k) n true = rw (ne_eqb (suc k) 0 (λ e. omega (arith, e))) (omega arith)
front_by (suc k) n false = rw (ne_eqb (suc k) 0 (λ e. omega (arith, e))) (omega arith)

-- a value, with as many old versions behind it
pub length_head_val : (limit remote : ℕ) (h : HistRef) (e : Entry) → length (val_bytes limit remote h e) ≡ size_of (any h.count) limit (length e.val)
unfolding size_of
length_head_val limit remote h e = length-val limit remote h e ∙ front_by h.count (length e.val) (ltb (length e.val) limit)

pub length_head : (limit p remote : ℕ) (h : HistRef) (e : Entry) → length (head_rec limit p remote h e) ≡ key_len p (length e.key) + size_of (any h.count) limit (length e.val)
unfolding head_rec key_len
length_head limit p remote h e =
    let k = length-leaf_key e.ver (drop p e.key) in
    let d : length (drop p e.key) ≡ length e.key - p = length-drop p e.key in
    length-append (leaf_key e.ver (drop p e.key)) (val_bytes limit remote h e)
    ∙ omega (arith, k, d, ap (λ (n : ℕ). length (uleb (12 + n))) d, length_head_val limit remote h e)

ref-count : (ps : List PageSlot) (k : ℕ) → (ref_of ps k).count ≡ k
ref-count [] k = refl
ref-count (p ∷ ps) k = refl

hist_by : (k : ℕ) (b : Bool) (n : ℕ) → cond (any k) 14 0 + cond b (5 + n) 13 ≡ 0 + cond b (5 + n) 13 + 14 * one_if k
hist_by zero b n = omega arith
hist_by (suc k) b n = omega arith

head_most : (limit p remote : ℕ) (ps : List PageSlot) (k : ℕ) (e : Entry) → length (head_rec limit p remote (ref_of ps k) e) ≡ key_len p (length e.key) + val_len limit e + 14 * one_if k
unfolding size_of
head_most limit p remote ps k e =
    let h = length_head limit p remote (ref_of ps k) e in
    omega (arith, h, ap (λ (j : ℕ). size_of (any j) limit (length e.val)) (ref-count ps k), hist_by k (ltb (length e.val) limit) (length e.val))

old-size : (limit n : ℕ) → 14 ≤ size_of true limit n
unfolding size_of
old-size limit n = omega arith

-- rule 5's size has room for every head record: where the entry before is a head, it has room for its reference to this one
fit_by : (b h : Bool) (x y z : List ℕ) (k v sf st hs : ℕ) → 14 ≤ v → length x + 0 ≤ sf → length z + 14 * one_if k ≤ st → length y ≡ hs + 14 * one_if k
    → length (cond b x (y ++ z)) + cond h (14 * one_if (cond b (suc k) 0)) 0 ≤ cond b (cond h v 0 + sf) (hs + st)
fit_by true true x y z k v sf st hs o p q r = omega arith
fit_by true false x y z k v sf st hs o p q r = omega arith
fit_by false true x y z k v sf st hs o p q r = omega (arith, length-append y z)
fit_by false false x y z k v sf st hs o p q r = omega (arith, length-append y z)

pub heads_fit : (limit p : ℕ) (es : List Entry) (remote : ℕ) (ps : List PageSlot) (h : Bool) → length (head_recs limit p remote ps es) + cond h (14 * one_if (old_run es)) 0 ≤ sums limit p h es
unfolding head_recs sums old_run
heads_fit limit p [] remote ps true = omega arith
heads_fit limit p [] remote ps false = omega arith
heads_fit limit p (e ∷ es) remote ps h =
    let next = remote + remote_len limit (length e.val) e.kept in
    fit_by e.old h (head_recs limit p remote (drop 1 ps) es) (head_rec limit p remote (ref_of ps (old_run es)) e) (head_recs limit p next ps es) (old_run es) (size_of true limit (length e.val))
    (sums limit p false es) (sums limit p true es) (key_len p (length e.key) + val_len limit e)
    (old-size limit (length e.val)) (heads_fit limit p es remote (drop 1 ps) false) (heads_fit limit p es next ps true) (head_most limit p remote ps (old_run es) e)

pub head_recs_fit : (limit p remote : ℕ) (ps : List PageSlot) (es : List Entry) → length (head_recs limit p remote ps es) ≤ sums limit p false es
head_recs_fit limit p remote ps es = omega (arith, heads_fit limit p es remote ps false)

-- ---- hints

pub length-les : (xs : List ℕ) → length (les 8 xs) ≡ 8 * length xs
unfolding les
length-les [] = refl
length-les (x ∷ xs) = omega (arith, length-append (le 8 x) (les 8 xs), length-le 8 x, length-les xs)

pub length-starts : (limit : ℕ) (ns : List ℕ) (at : ℕ) (es : List Entry) → length (starts limit at ns es) ≡ length ns
unfolding starts
length-starts limit [] at es = refl
length-starts limit (n ∷ ns) at es = ap suc (length-starts limit ns (page_end limit at (take n es)) (drop n es))

-- how many remotes some entries have
unfoldable pub remotes : ℕ → List Entry → ℕ
remotes limit [] = 0
remotes limit (e ∷ es) = cond (ltb (length e.val) limit) 0 1 + remotes limit es

addrs_by : (b : Bool) (a : ℕ) (x y : List ℕ) (n : ℕ) → length x ≡ n → length y ≡ n → length (cond b x (a ∷ y)) ≡ cond b 0 1 + n
addrs_by true a x y n p q = omega (arith, p)
addrs_by false a x y n p q = omega (arith, q)

pub length_addrs : (limit : ℕ) (es : List Entry) (remote : ℕ) → length (remote_addrs limit remote es) ≡ remotes limit es
unfolding remote_addrs remotes
length_addrs limit [] remote = refl
length_addrs limit (e ∷ es) remote =
    let next = remote + remote_len limit (length e.val) e.kept in
    addrs_by (ltb (length e.val) limit) (remote_addr remote e.kept) (remote_addrs limit remote es) (remote_addrs limit next es) (remotes limit es) (length_addrs limit es remote) (length_addrs limit es next)

counted_by : (b c : Bool) (m n : ℕ) → m ≤ n → cond b 0 1 + m ≤ cond b (cond c 0 1) 1 + n
counted_by true true m n h = omega arith
counted_by true false m n h = omega arith
counted_by false c m n h = omega arith

-- all of them are counted for the room
pub remotes-counted : (limit : ℕ) (es : List Entry) → remotes limit es ≤ counted limit es
unfolding remotes counted
remotes-counted limit [] = omega arith
remotes-counted limit (e ∷ es) = counted_by (ltb (length e.val) limit) (eqb e.kept 0) (remotes limit es) (counted limit es) (remotes-counted limit es)

pub remotes_cut : (limit n : ℕ) (es : List Entry) → remotes limit (take n es) + remotes limit (drop n es) ≡ remotes limit es
unfolding remotes
remotes_cut limit zero es = omega arith
remotes_cut limit (suc n) [] = refl
remotes_cut limit (suc n) (e ∷ es) = omega (arith, remotes_cut limit n es)

kinds_by_lem : (b : Bool) (limit x : ℕ) (e : Entry) (os hs : List Entry) → remotes limit os + remotes limit hs ≡ x
    → remotes limit (cond b (e ∷ os) os) + remotes limit (cond (not b) (e ∷ hs) hs) ≡ cond (ltb (length e.val) limit) 0 1 + x
unfolding remotes
kinds_by_lem true limit x e os hs h = omega arith
kinds_by_lem false limit x e os hs h = omega arith

-- old versions' and heads'
pub remotes_kinds : (limit : ℕ) (es : List Entry) → remotes limit (olds es) + remotes limit (heads es) ≡ remotes limit es
unfolding remotes only
remotes_kinds limit [] = refl
remotes_kinds limit (e ∷ es) = kinds_by_lem e.old limit (remotes limit es) e (olds es) (heads es) (remotes_kinds limit es)

pub hist_addrs_few : (limit : ℕ) (ns : List ℕ) (at : ℕ) (es : List Entry) → length (hist_addrs limit at ns es) ≤ remotes limit es
unfolding hist_addrs
hist_addrs_few limit [] at es = omega arith
hist_addrs_few limit (n ∷ ns) at es =
    let remote = at + frame_len (hist_size limit (take n es)) in
    let next = page_end limit at (take n es) in
    omega (arith, length-append (remote_addrs limit remote (take n es)) (hist_addrs limit next ns (drop n es)), length_addrs limit (take n es) remote, hist_addrs_few limit ns next (drop n es), remotes_cut limit n es)

hints_by : (b : Bool) (room : ℕ) (ps rs : List ℕ) → eqb room 0 ≡ b → (b ≡ false → 8 + 8 * length ps + 8 * length rs ≤ room)
    → length (cond b [] (le 4 (length ps) ++ (les 8 ps ++ (le 4 (length rs) ++ (les 8 rs ++ replicate (room - (8 + 8 * length ps + 8 * length rs)) 0))))) ≡ room
hints_by true room ps rs e h = omega (arith, eqb-true room 0 e)
hints_by false room ps rs e h =
    let z : List ℕ = replicate (room - (8 + 8 * length ps + 8 * length rs)) 0 in
    omega (
      arith,
      h refl,
      length-append (le 4 (length ps)) (les 8 ps ++ (le 4 (length rs) ++ (les 8 rs ++ z))),
      length-append (les 8 ps) (le 4 (length rs) ++ (les 8 rs ++ z)),
      length-append (le 4 (length rs)) (les 8 rs ++ z),
      length-append (les 8 rs) z,
      length-le 4 (length ps),
      length-le 4 (length rs),
      length-les ps,
      length-les rs,
      length-replicate {A = ℕ} (room - (8 + 8 * length ps + 8 * length rs)) 0,
    )

-- where the counts fit, hints take their room
pub length-hints : (room : ℕ) (ps rs : List ℕ) → (eqb room 0 ≡ false → 8 + 8 * length ps + 8 * length rs ≤ room) → length (hints room ps rs) ≡ room
unfolding hints
length-hints room ps rs h = hints_by (eqb room 0) room ps rs refl h

room_by : (b : Bool) (x y : ℕ) → eqb (cond b 0 x) 0 ≡ false → y ≤ x → y ≤ cond b 0 x
room_by true x y e h = absurd (let z : ◌≡◌ {A = ℕ} 0 1 = cc in omega arith)
room_by false x y e h = h

-- the leaf's do
pub leaf_hints_fit : (m : Call) (es : List Entry) (at remote : ℕ) → eqb (leaf_room m es) 0 ≡ false
    → 8 + 8 * length (starts m.limit at (cuts_of m es) (olds es)) + 8 * length (hist_addrs m.limit at (cuts_of m es) (olds es) ++ remote_addrs m.limit remote (heads es)) ≤ leaf_room m es
unfolding leaf_room room_of
leaf_hints_fit m es at remote nz =
    let hs = hist_addrs m.limit at (cuts_of m es) (olds es) in
    room_by (eqb (length (cuts_of m es) + counted m.limit es) 0) (8 + 8 * length (cuts_of m es) + 8 * counted m.limit es) _ nz
    (omega (
      arith,
      length-starts m.limit (cuts_of m es) at (olds es),
      length-append hs (remote_addrs m.limit remote (heads es)),
      length_addrs m.limit (heads es) remote,
      hist_addrs_few m.limit (cuts_of m es) at (olds es),
      remotes_kinds m.limit es,
      remotes-counted m.limit es,
    ))

-- ---- the frame and the whole

pub leaf_tail_fits : (m : Call) (b : Borders) (remote : ℕ) (ps : List PageSlot) (es : List Entry) → first_of b (length (heads es)) + length (head_recs m.limit b.prefix remote ps es) ≤ leaf_size m b es
unfolding leaf_size
leaf_tail_fits m b remote ps es = omega (arith, head_recs_fit m.limit b.prefix remote ps es)

pub length_leaf_frame : (m : Call) (b : Borders) (first at : ℕ) (es : List Entry) → length (leaf_frame m b first at es) ≡ frame_len (leaf_size m b es + leaf_room m es)
unfolding leaf_frame
length_leaf_frame m b first at es =
    let size = leaf_size m b es in
    let room = leaf_room m es in
    let remote = at + frame_len (size + room) in
    let ps = places m.limit first (cuts_of m es) (olds es) in
    let recs = head_recs m.limit b.prefix remote ps es in
    let hs = hints room (starts m.limit first (cuts_of m es) (olds es)) (hist_addrs m.limit first (cuts_of m es) (olds es) ++ remote_addrs m.limit remote (heads es)) in
    let tail : List ℕ = replicate (size - (first_of b (length (heads es)) + length recs)) 0 in
    let slots = head_slots m.limit b.prefix (first_of b (length (heads es))) es in
    let box = page_box m (size + room) node_leaf 0 0 in
    let base = base_of size (length (heads es)) b.sibling (length b.lo) (length b.hi) b.prefix 0 (one_if (length (olds es))) in
    omega (
      arith,
      length-append (page_bytes box base) (slots ++ (b.lo ++ (b.hi ++ (recs ++ (tail ++ (hs ++ pad (size + room))))))),
      length-append slots (b.lo ++ (b.hi ++ (recs ++ (tail ++ (hs ++ pad (size + room)))))),
      length-append b.lo (b.hi ++ (recs ++ (tail ++ (hs ++ pad (size + room))))),
      length-append b.hi (recs ++ (tail ++ (hs ++ pad (size + room)))),
      length-append recs (tail ++ (hs ++ pad (size + room))),
      length-append tail (hs ++ pad (size + room)),
      length-append hs (pad (size + room)),
      length-heads box base,
      length_head_slots m.limit b.prefix es (first_of b (length (heads es))),
      leaf_tail_fits m b remote ps es,
      length-replicate {A = ℕ} (size - (first_of b (length (heads es)) + length recs)) 0,
      length-hints room (starts m.limit first (cuts_of m es) (olds es)) (hist_addrs m.limit first (cuts_of m es) (olds es) ++ remote_addrs m.limit remote (heads es)) (leaf_hints_fit m es first remote),
      length-pad (size + room),
      frame-least (size + room),
    )

-- the new next free address
pub length_leaf_image : (m : Call) (b : Borders) (at : ℕ) (es : List Entry)
    → at + length (leaf_image m b at es) ≡ history_end m.limit at (cuts_of m es) (olds es) + frame_len (leaf_size m b es + leaf_room m es) + remotes_len m.limit (heads es)
unfolding leaf_image
length_leaf_image m b at es =
    let h = history m at (cuts_of m es) (olds es) in
    let end = history_end m.limit at (cuts_of m es) (olds es) in
    let f = remote_frames m (heads es) in
    omega (
      arith,
      length-append h (leaf_frame m b at end es ++ f),
      length-append (leaf_frame m b at end es) f,
      length-history m (cuts_of m es) at (olds es),
      length_leaf_frame m b at end es,
      length-remotes m (heads es),
    )
