-- The length of each thing that a delta writes: the arithmetic of its judge.
-- Assumes nothing.
use mathlib.Core.Path.{◌≡◌, refl, ap₂, ◌∙◌}
use mathlib.Core.List.{List, [], ◌++◌}
use mathlib.Core.Bool.{Bool, true, false, cond}
use Prim.Native.Nat.{ℕ, ◌+◌, ◌≤◌}
use native.Mathlib.Omega.{arith}
use lib.Dec.{ltb, eqb}
use lib.ListN.{length, length-append}
use Rattle.numbers.specs.Number.{le}
use Rattle.numbers.proofs.Numbers.{length-le}
use Rattle.lengths.proofs.Laws.{uleb-few}
use Rattle.order.specs.declared.Ver.{Ver}
use Rattle.frames.specs.declared.PageId.{PageId}
use Rattle.frames.specs.Layout.{frame_len, delta_key_at}
use Rattle.frames.specs.Stored.{box_bytes}
use Rattle.frames.specs.Limits.{max_key, max_limit}
use Rattle.values.specs.Keys.{leaf_key, index_key, leaf_key_size, index_key_size}
use Rattle.values.specs.Vals.{no_hist, inline_bytes, remote_bytes, front_size, size_of}
use Rattle.values.proofs.Laws.{length_inline, length-remote, leaf_key-size_lem, index_key-size_lem}
use Rattle.build_image.specs.declared.Call.{Call}
use Rattle.build_image.specs.Sizes.{pad, remote_len}
use Rattle.build_image.specs.Image.{remote_frame}
use Rattle.build_image.proofs.Lengths.{length-pad, length-remote-frame, size-some}
use Rattle.delta.specs.Deltas.{value_of, remote_of, delta_head, delta_frame, leaf_frame, index_frame, leaf_delta, leaf_len, index_len}

value_by : (b : Bool) (v : List ℕ) (remote : ℕ) → length (cond b (inline_bytes no_hist v) (remote_bytes no_hist (length v) remote)) ≡ 0 + cond b (5 + length v) 13
unfolding front_size
value_by true v remote = length_inline no_hist v ∙ omega arith
value_by false v remote = length-remote no_hist (length v) remote ∙ omega arith

pub length-value : (limit remote : ℕ) (v : List ℕ) → length (value_of limit remote v) ≡ size_of false limit (length v)
unfolding value_of size_of
length-value limit remote v = value_by (ltb (length v) limit) v remote

remote_by : (b : Bool) (m : Call) (v : List ℕ) → length (cond b [] (remote_frame m v)) ≡ cond b 0 (cond (eqb 0 0) (frame_len (8 + length v)) 0)
remote_by true m v = refl
remote_by false m v = length-remote-frame m v

pub length-remote_of : (m : Call) (v : List ℕ) → length (remote_of m v) ≡ remote_len m.limit (length v) 0
unfolding remote_of remote_len
length-remote_of m v = remote_by (ltb (length v) m.limit) m v

pub length_head : (m : Call) (node k v : ℕ) → length (delta_head m node k v) ≡ delta_key_at
unfolding delta_head box_bytes le
length_head m node k v = refl

pub length-frame : (m : Call) (node : ℕ) (key val : List ℕ) → length (delta_frame m node key val) ≡ frame_len (8 + length key + length val)
unfolding delta_frame
length-frame m node key val =
    let k = length key in
    let v = length val in
    length-append (delta_head m node k v) (key ++ (val ++ pad (8 + k + v)))
    ∙ omega (arith, length_head m node k v, length-append key (val ++ pad (8 + k + v)), length-append val (pad (8 + k + v)), length-pad (8 + k + v))

pub length_leaf_frame : (m : Call) (remote : ℕ) (ver : Ver) (key v : List ℕ) → length (leaf_frame m remote ver key v) ≡ leaf_len m.limit (length key) (length v)
unfolding leaf_frame leaf_len
length_leaf_frame m remote ver key v =
    length-frame m 1 (leaf_key ver key) (value_of m.limit remote v)
    ∙ ap₂ (λ (j k : ℕ). frame_len (8 + j + k)) (leaf_key-size_lem ver key) (length-value m.limit remote v)

pub length_index_frame : (m : Call) (key : List ℕ) (page : PageId) → length (index_frame m key page) ≡ index_len (length key)
unfolding index_frame index_len
length_index_frame m key page =
    length-frame m 2 (index_key key) (le 8 page.0) ∙ ap₂ (λ (j k : ℕ). frame_len (8 + j + k)) (index_key-size_lem key) (length-le 8 page.0)

pub length_leaf_delta : (m : Call) (at : ℕ) (ver : Ver) (key v : List ℕ) → length (leaf_delta m at ver key v) ≡ remote_len m.limit (length v) 0 + leaf_len m.limit (length key) (length v)
unfolding leaf_delta
length_leaf_delta m at ver key v =
    length-append (remote_of m v) (leaf_frame m at ver key v) ∙ ap₂ (λ (j k : ℕ). j + k) (length-remote_of m v) (length_leaf_frame m at ver key v)

-- nothing is large
pub leaf_key_most : (n : ℕ) → leaf_key_size n ≤ 17 + n
unfolding leaf_key_size
leaf_key_most n = omega (arith, uleb-few (12 + n))

pub index_key_most : (n : ℕ) → index_key_size n ≤ 5 + n
unfolding index_key_size
index_key_most n = omega (arith, uleb-few n)

pub leaf_most : (limit n v : ℕ) → n ≤ max_key → limit ≤ max_limit → leaf_len limit n v ≤ 70000
unfolding leaf_len
leaf_most limit n v h l = omega (arith, leaf_key_most n, (size-some limit v).1)

pub index_most : (n : ℕ) → n ≤ max_key → index_len n ≤ 5000
unfolding index_len
index_most n h = omega (arith, index_key_most n)
