-- "An address is a frame's offset, a multiple of 8": where next is one, so is the address of each page that a build writes, and the new
-- next free address.
-- Assumes nothing.
use mathlib.Core.Path.{◌≡◌, refl, ap, ◌∙◌}
use mathlib.Core.List.{List, [], ◌∷◌}
use mathlib.Core.Bool.{Bool, true, false, cond}
use Prim.Native.Nat.{ℕ, ◌+◌, ◌%◌}
use native.Mathlib.Omega.{arith}
use lib.Dec.{ltb, eqb}
use lib.ListN.{length, take, drop}
use Rattle.frames.specs.Layout.{frame_len}
use Rattle.build_sources.specs.Source.{Entry, olds, heads}
use Rattle.build_image.specs.declared.Call.{Call}
use Rattle.build_image.specs.Sizes.{remote_len, remotes_len}
use Rattle.build_image.specs.Image.{Borders, cuts_of, hist_size, page_end, history_end, starts, leaf_size, leaf_room, index_size}
use Rattle.build_image.proofs.Leaf.{length_leaf_image}
use Rattle.build_image.proofs.Index.{length_index}
use Rattle.build_totals.specs.Totals.{leaf_at}
use Rattle.build_table.specs.Leaf.{leaf_end}
use Rattle.build_table.specs.Index.{index_end}

frame_eight : (n : ℕ) → frame_len n % 8 ≡ 0
frame_eight n = omega arith

remote_by : (b c : Bool) (n : ℕ) → cond b 0 (cond c (frame_len (8 + n)) 0) % 8 ≡ 0
remote_by true c n = refl
remote_by false true n = frame_eight (8 + n)
remote_by false false n = refl

remote_eight : (limit n kept : ℕ) → remote_len limit n kept % 8 ≡ 0
unfolding remote_len
remote_eight limit n kept = remote_by (ltb n limit) (eqb kept 0) n

sum_eight : (x y : ℕ) → x % 8 ≡ 0 → y % 8 ≡ 0 → (x + y) % 8 ≡ 0
sum_eight x y h k = omega (arith, h, k)

remotes_eight : (limit : ℕ) (es : List Entry) → remotes_len limit es % 8 ≡ 0
unfolding remotes_len
remotes_eight limit [] = refl
remotes_eight limit (e ∷ es) = sum_eight (remote_len limit (length e.val) e.kept) (remotes_len limit es) (remote_eight limit (length e.val) e.kept) (remotes_eight limit es)

page_eight : (limit at : ℕ) (es : List Entry) → at % 8 ≡ 0 → page_end limit at es % 8 ≡ 0
unfolding page_end
page_eight limit at es h =
    sum_eight (at + frame_len (hist_size limit es)) (remotes_len limit es) (sum_eight at (frame_len (hist_size limit es)) h (frame_eight (hist_size limit es))) (remotes_eight limit es)

history_eight : (limit : ℕ) (ns : List ℕ) (at : ℕ) (es : List Entry) → at % 8 ≡ 0 → history_end limit at ns es % 8 ≡ 0
unfolding history_end
history_eight limit [] at es h = h
history_eight limit (n ∷ ns) at es h = history_eight limit ns (page_end limit at (take n es)) (drop n es) (page_eight limit at (take n es) h)

-- every address of a list
abbrev pub Eights : List ℕ → Type 0
Eights [] = Unit {0}
Eights (x ∷ xs) = (x % 8 ≡ 0) × Eights xs

-- the history pages'
pub starts_eight : (limit : ℕ) (ns : List ℕ) (at : ℕ) (es : List Entry) → at % 8 ≡ 0 → Eights (starts limit at ns es)
unfolding starts
starts_eight limit [] at es h = tt
starts_eight limit (n ∷ ns) at es h = (h, starts_eight limit ns (page_end limit at (take n es)) (drop n es) (page_eight limit at (take n es) h))

-- the leaf's own, and the new next free address
pub leaf_eight : (next : ℕ) (m : Call) (b : Borders) (es : List Entry) → next % 8 ≡ 0 → (leaf_at m next es % 8 ≡ 0) × (leaf_end next m b es % 8 ≡ 0)
unfolding leaf_at leaf_end
leaf_eight next m b es h =
    let k = history_eight m.limit (cuts_of m es) next (olds es) h in (
      k,
      ap (λ (x : ℕ). x % 8) (length_leaf_image m b next es)
          ∙ sum_eight (history_end m.limit next (cuts_of m es) (olds es) + frame_len (leaf_size m b es + leaf_room m es)) (remotes_len m.limit (heads es))
          (sum_eight (history_end m.limit next (cuts_of m es) (olds es)) (frame_len (leaf_size m b es + leaf_room m es)) k (frame_eight (leaf_size m b es + leaf_room m es)))
          (remotes_eight m.limit (heads es)),
    )

pub index_eight : (next : ℕ) (m : Call) (b : Borders) (es : List Entry) → next % 8 ≡ 0 → index_end next m b es % 8 ≡ 0
unfolding index_end
index_eight next m b es h =
    ap (λ (x : ℕ). (next + x) % 8) (length_index m b es) ∙ sum_eight next (frame_len (index_size b es)) h (frame_eight (index_size b es))
