-- Every entry of a source keeps document 01's lengths: what the source's step says of each.
-- Assumes nothing. Belongs in sources.
use mathlib.Core.Path.{◌≡◌, refl, sym, subst}
use mathlib.Core.List.{List, [], ◌∷◌}
use mathlib.Core.Bool.{Bool, true, false, cond}
use Prim.Native.Nat.{ℕ, zero, suc, ◌*◌, ◌≤◌, ◌<◌}
use native.Mathlib.Omega.{arith}
use lib.ListN.{length, take}
use Rattle.frames.specs.Limits.{max_value}
use Rattle.build_sources.specs.declared.Cursor.{Cursor}
use Rattle.build_sources.specs.declared.EntryRead.{EntryRead}
use Rattle.build_sources.specs.declared.EntryRead.TheVariants.{Got, End, Bad}
use Rattle.build_sources.specs.Source.{Entry, next_of, left_of, entries, only, wanted}
use Rattle.build_sources.proofs.Sourced.{found, ended, odd}
use Rattle.build_image.specs.Sizes.{remotes_len}
use Rattle.build_image.proofs.Lengths.{remote_most}

abbrev pub Fine : List Entry → Type 0
Fine [] = Unit {0}
Fine (e ∷ es) = (length e.val ≤ max_value) × Fine es

fine_by : (l w : List ℕ) (n : ℕ) (c : Cursor) → ((d : Cursor) → left_of l w d < n → Fine (entries l w d)) → left_of l w c < suc n → (st : EntryRead) → next_of l w c ≡ st → Fine (entries l w c)
fine_by l w n c ih h (Got i d) e =
    let f = found l w c i d e in
    subst (λ (es : List Entry). Fine es) (sym f.list) (omega (arith, f.vlen, f.placed.vsmall), ih d (omega (arith, f.falls, h)))
fine_by l w n c ih h End e = subst (λ (es : List Entry). Fine es) (sym (ended l w c e).0) tt
fine_by l w n c ih h Bad e = subst (λ (es : List Entry). Fine es) (sym (odd l w c e).0) tt

fine_fuel : (l w : List ℕ) (n : ℕ) (c : Cursor) → left_of l w c < n → Fine (entries l w c)
fine_fuel l w zero c h = absurd (omega arith)
fine_fuel l w (suc n) c h = fine_by l w n c (fine_fuel l w n) h (next_of l w c) refl

pub fine : (l w : List ℕ) (c : Cursor) → Fine (entries l w c)
fine l w c = fine_fuel l w (suc (left_of l w c)) c (omega arith)

only_by : (t : Bool) (e : Entry) (xs : List Entry) → length e.val ≤ max_value → Fine xs → Fine (cond t (e ∷ xs) xs)
only_by true e xs h k = (h, k)
only_by false e xs h k = k

pub fine_only : (b : Bool) (es : List Entry) → Fine es → Fine (only b es)
unfolding only
fine_only b [] h = tt
fine_only b (e ∷ es) h = only_by (wanted b e.old) e (only b es) h.0 (fine_only b es h.1)

pub fine_take : (n : ℕ) (es : List Entry) → Fine es → Fine (take n es)
fine_take zero es h = tt
fine_take (suc n) [] h = tt
fine_take (suc n) (e ∷ es) h = (h.0, fine_take n es h.1)

pub remotes_most : (limit : ℕ) (es : List Entry) → Fine es → remotes_len limit es ≤ 65583 * length es
unfolding remotes_len
remotes_most limit [] h = omega arith
remotes_most limit (e ∷ es) h = omega (arith, remote_most limit (length e.val) e.kept, h.0, remotes_most limit es h.1)
