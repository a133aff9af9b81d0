-- Numbers that stand one behind the other are read back each by itself; what a leaf's hint room of 0 says.
-- Assumes nothing.
use Prim.Native.Nat.{ℕ, zero, suc, ◌+◌, ◌*◌, ◌-◌, ◌/◌, ◌^◌, ◌≤◌, ◌<◌}
use mathlib.Core.Path.{◌≡◌, refl}
use mathlib.Core.List.{List, [], ◌∷◌}
use native.Mathlib.Omega.{arith}
use borrow.Author.Tests.{le-leb, lt-ltb}
use lib.ListN.{length, get_or}
use Rattle.spans.specs.Span.{Lies}
use Rattle.spans.proofs.Lying.{lies_front, lies_back}
use Rattle.numbers.specs.Number.{le, le_at}
use Rattle.numbers.proofs.Numbers.{length-le, lies_le}
use Rattle.frames.specs.Layout.{addr}
use Rattle.pages.specs.HintsAt.{hint_in}
use Rattle.build_sources.specs.Marks.{Each}
use Rattle.build_image.specs.Image.{les}
use Rattle.std.proofs.Common.{Some}

-- an address is a u64
abbrev pub Word : ℕ → Type 0
Word x = x < 256 ^ 8

pub les-read : (s : List ℕ) (xs : List ℕ) (at k : ℕ) → Each Word xs → k < length xs → Lies s at (les 8 xs) → le_at 8 s (at + 8 * k) ≡ get_or xs k 0
unfolding les Each
les-read s [] at k f h l = absurd (omega arith)
les-read s (x ∷ xs) at zero f h l =
    let z : at + 8 * 0 ≡ at = omega arith in
    rw z (lies_le s at 8 x f.0 (lies_front s at (le 8 x) (les 8 xs) l))
les-read s (x ∷ xs) at (suc k) f h l =
    let z : at + 8 * suc k ≡ at + 8 + 8 * k = omega arith in
    let r : Lies s (at + 8) (les 8 xs) = rw (length-le 8 x) at (lies_back s at (le 8 x) (les 8 xs) l) in
    rw z (les-read s xs (at + 8) k f.1 (omega arith) r)

-- the k-th address of a list of hints
pub hint_back : (s : List ℕ) (xs : List ℕ) (at k : ℕ) → Each Word xs → k < length xs → at + 8 * length xs ≤ length s → Lies s at (les 8 xs) → hint_in s (record { at = at; count = length xs }) k ≡ Some (addr (get_or xs k 0))
unfolding hint_in
hint_back s xs at k f h r l =
    let q : k < (length s - at) / 8 = omega arith in
    rw (lt-ltb k (length xs) h, le-leb at (length s) (omega arith), lt-ltb k ((length s - at) / 8) q, les-read s xs at k f h l) refl
