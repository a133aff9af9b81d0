-- The hints of a leaf that a build wrote: the readers give its history pages' addresses, and the remotes', history's first, then heads'.
-- Assumes nothing.
use Prim.Native.Nat.{ℕ, ◌+◌, ◌*◌, ◌^◌, ◌<◌}
use mathlib.Core.Path.{◌≡◌, refl}
use mathlib.Core.Bool.{Bool, true, false, cond}
use mathlib.Core.List.{List, [], ◌∷◌, ◌++◌}
use native.Mathlib.Omega.{arith}
use borrow.Author.Tests.{eqb-true}
use lib.ListN.{length, take, drop, get_or, length-append}
use lib.Dec.{ltb, eqb}
use Rattle.spans.specs.Span.{Lies}
use Rattle.frames.specs.Layout.{addr, box_len, frame_len, body_of}
use Rattle.pages.specs.HintsAt.{hints_of, history_hints_at, remote_hints_at, hint_in}
use Rattle.build_sources.specs.Source.{Entry, olds, heads}
use Rattle.build_sources.specs.Marks.{Each}
use Rattle.build_image.specs.declared.Call.{Call}
use Rattle.build_image.specs.Sizes.{remote_len, remotes_len, counted, room_of}
use Rattle.build_image.specs.Image.{remote_addr, remote_addrs, hist_size, page_end, history_end, starts, hist_addrs, Borders, leaf_size, cuts_of, leaf_room, leaf_image}
use Rattle.build_image.proofs.Leaf.{length-starts, length_addrs, remotes-counted, remotes_kinds, hist_addrs_few, leaf_hints_fit}
use Rattle.law_history.specs.Fit.{Fits}
use Rattle.law_history.proofs.Chain.{end-above, each_take, each-drop}
use Rattle.law_leaf.specs.Grouped.{LeafFit}
use Rattle.law_leaf.proofs.Hints.{pages_lie, remotes_lie, history-hints, remote-hints}
use Rattle.law_leaf.proofs.Listed.{Word, hint_back}
use Rattle.law_leaf.proofs.Built.{each-only, body, whole, kind-is, leaf_opens, hints_lie}
use Rattle.std.proofs.Common.{Some}

-- ---- every address is a u64

pub each_append : {A : Type 0} (P : A → Type 0) (xs ys : List A) → Each P xs → Each P ys → Each P (xs ++ ys)
unfolding Each
each_append P [] ys p q = q
each_append P (x ∷ xs) ys p q = (p.0, each_append P xs ys p.1 q)

page-end : (limit at : ℕ) (es : List Entry) → at + frame_len (hist_size limit es) + remotes_len limit es ≡ page_end limit at es
unfolding page_end
page-end limit at es = refl

starts-word : (limit : ℕ) (ns : List ℕ) (at : ℕ) (es : List Entry) → history_end limit at ns es < 256 ^ 8 → Each Word (starts limit at ns es)
unfolding starts history_end Each
starts-word limit [] at es h = tt
starts-word limit (n ∷ ns) at es h =
    let next = page_end limit at (take n es) in
    (omega (arith, page-end limit at (take n es), end-above limit ns next (drop n es)), starts-word limit ns next (drop n es) h)

addr-word : (c : Bool) (remote kept : ℕ) → remote < 256 ^ 8 → kept < 256 ^ 8 → cond c remote kept < 256 ^ 8
addr-word true remote kept p q = p
addr-word false remote kept p q = q

addrs_by : (t : Bool) (x : ℕ) (xs ys : List ℕ) → Word x → Each Word xs → Each Word ys → Each Word (cond t xs (x ∷ ys))
unfolding Each
addrs_by true x xs ys w p q = p
addrs_by false x xs ys w p q = (w, q)

addrs_word : (s : List ℕ) (limit : ℕ) (es : List Entry) (remote : ℕ) → Each (Fits s) es → remote + remotes_len limit es < 256 ^ 8 → Each Word (remote_addrs limit remote es)
unfolding remote_addrs remotes_len remote_addr Each
addrs_word s limit [] remote f h = tt
addrs_word s limit (e ∷ es) remote f h =
    let next = remote + remote_len limit (length e.val) e.kept in
    addrs_by (ltb (length e.val) limit) (cond (eqb e.kept 0) remote e.kept) (remote_addrs limit remote es) (remote_addrs limit next es)
    (addr-word (eqb e.kept 0) remote e.kept (omega arith) f.0.wide.kept) (addrs_word s limit es remote f.1 (omega arith)) (addrs_word s limit es next f.1 (omega arith))

hist_word : (s : List ℕ) (limit : ℕ) (ns : List ℕ) (at : ℕ) (es : List Entry) → Each (Fits s) es → history_end limit at ns es < 256 ^ 8 → Each Word (hist_addrs limit at ns es)
unfolding hist_addrs history_end Each
hist_word s limit [] at es f h = tt
hist_word s limit (n ∷ ns) at es f h =
    let here = take n es in
    let remote = at + frame_len (hist_size limit here) in
    let next = page_end limit at here in
    each_append Word (remote_addrs limit remote here) (hist_addrs limit next ns (drop n es)) (addrs_word s limit here remote (each_take (Fits s) n es f) (omega (arith, page-end limit at here, end-above limit ns next (drop n es))))
    (hist_word s limit ns next (drop n es) (each-drop (Fits s) n es f) h)

-- ---- a room of 0 lists nothing

zero_by : (t : Bool) (n k : ℕ) → eqb n 0 ≡ t → eqb (cond t 0 (8 + k)) 0 ≡ true → n ≡ 0
zero_by true n k e h = eqb-true n 0 e
zero_by false n k e h = absurd (omega (arith, eqb-true (8 + k) 0 h))

room_none : (m : Call) (es : List Entry) → eqb (leaf_room m es) 0 ≡ true → length (cuts_of m es) + counted m.limit es ≡ 0
unfolding leaf_room room_of
room_none m es h =
    let p = length (cuts_of m es) in
    let c = counted m.limit es in
    let z : 8 + 8 * p + 8 * c ≡ 8 + (8 * p + 8 * c) = omega arith in
    zero_by (eqb (p + c) 0) (p + c) (8 * p + 8 * c) refl (rw z at h)

-- ---- the leaf

module _ (s : List ℕ) (m : Call) (b : Borders) (first : ℕ) (es : List Entry) (fit : LeafFit s m b first es) (lies : Lies s first (leaf_image m b first es)) where
  abbrev at : ℕ
  at = history_end m.limit first (cuts_of m es) (olds es)

  abbrev remote : ℕ
  remote = at + frame_len (leaf_size m b es + leaf_room m es)

  -- the addresses that the hints list
  abbrev pages : List ℕ
  pages = starts m.limit first (cuts_of m es) (olds es)

  abbrev remotes_of_lem : List ℕ
  remotes_of_lem = hist_addrs m.limit first (cuts_of m es) (olds es) ++ remote_addrs m.limit remote (heads es)

  none : eqb (leaf_room m es) 0 ≡ true → (length pages ≡ 0) × (length remotes_of_lem ≡ 0)
  none h =
      let z = room_none m es h in
      let hs = hist_addrs m.limit first (cuts_of m es) (olds es) in (
        omega (arith, length-starts m.limit (cuts_of m es) first (olds es)),
        omega (
          arith,
          length-append hs (remote_addrs m.limit remote (heads es)),
          length_addrs m.limit (heads es) remote,
          hist_addrs_few m.limit (cuts_of m es) first (olds es),
          remotes_kinds m.limit es,
          remotes-counted m.limit es,
        ),
      )

  abbrev hints-at : ℕ
  hints-at = at + box_len + leaf_size m b es

  small : leaf_room m es < 256 ^ 4
  small = omega (arith, fit.small)

  -- both readers: where each list stands, and how many it holds
  pub leaf_history-hints : history_hints_at s (addr at) ≡ hints_of (hints-at + 4) (length pages)
  unfolding body_of
  leaf_history-hints =
      history-hints s _ (leaf_room m es) pages remotes_of_lem (omega arith) small (leaf_hints_fit m es first remote) (hints_lie s m b first es fit lies) (addr at) (leaf_opens s m b first es fit lies) (kind-is s m b first es fit lies) none

  pub leaf_remote-hints : remote_hints_at s (addr at) ≡ hints_of (hints-at + 4 + 8 * length pages + 4) (length remotes_of_lem)
  unfolding body_of
  leaf_remote-hints =
      remote-hints s _ (leaf_room m es) pages remotes_of_lem (omega arith) small (leaf_hints_fit m es first remote) (hints_lie s m b first es fit lies) (addr at) (leaf_opens s m b first es fit lies) (kind-is s m b first es fit lies) none

  word : at < 256 ^ 8
  word = omega (arith, whole s m b first es fit lies, fit.address.word)

  remote-word : remote + remotes_len m.limit (heads es) < 256 ^ 8
  remote-word = omega (arith, whole s m b first es fit lies, fit.address.word)

  full : (t : Bool) → eqb (leaf_room m es) 0 ≡ t → (t ≡ true → ⊥) → t ≡ false
  full true e n = absurd (n refl)
  full false e n = refl

  -- each of the addresses
  pub leaf_history-hint : (k : ℕ) → k < length pages → hint_in s (record { at = hints-at + 4; count = length pages }) k ≡ Some (addr (get_or pages k 0))
  unfolding body_of
  leaf_history-hint k h =
      let q : eqb (leaf_room m es) 0 ≡ false = full (eqb (leaf_room m es) 0) refl (λ z. omega (arith, (none z).0)) in
      let f = leaf_hints_fit m es first remote q in
      hint_back s pages (hints-at + 4) k (starts-word m.limit (cuts_of m es) first (olds es) word) h (omega (arith, whole s m b first es fit lies))
      (pages_lie s (body s m b first es fit lies) (leaf_room m es) pages remotes_of_lem (omega arith) small (leaf_hints_fit m es first remote) (hints_lie s m b first es fit lies) q)

  pub leaf_remote-hint : (k : ℕ) → k < length remotes_of_lem → hint_in s (record { at = hints-at + 4 + 8 * length pages + 4; count = length remotes_of_lem }) k ≡ Some (addr (get_or remotes_of_lem k 0))
  unfolding body_of
  leaf_remote-hint k h =
      let q : eqb (leaf_room m es) 0 ≡ false = full (eqb (leaf_room m es) 0) refl (λ z. omega (arith, (none z).1)) in
      let f = leaf_hints_fit m es first remote q in
      let hs = hist_addrs m.limit first (cuts_of m es) (olds es) in
      hint_back s remotes_of_lem (hints-at + 4 + 8 * length pages + 4) k
      (each_append Word hs (remote_addrs m.limit remote (heads es)) (hist_word s m.limit (cuts_of m es) first (olds es) (each-only (Fits s) true es fit.each) word)
      (addrs_word s m.limit (heads es) remote (each-only (Fits s) false es fit.each) remote-word)) h (omega (arith, whole s m b first es fit lies))
      (remotes_lie s (body s m b first es fit lies) (leaf_room m es) pages remotes_of_lem (omega arith) small (leaf_hints_fit m es first remote) (hints_lie s m b first es fit lies) q)
