-- Pages whose boundaries meet (order 4): a merge of two sound pages of one kind that meet is never refused with 6, 7 or 10; only 8 and 9 remain.
-- Assumes nothing.
use Prim.Native.Nat.{ℕ}
use mathlib.Core.Path.{◌≡◌, refl}
use mathlib.Core.Logic.{◌⊎◌, inl, inr}
use mathlib.Core.Bool.{Bool, true, false, ◌&&◌}
use mathlib.Core.List.{List}
use native.Mathlib.Omega.{arith}
use lib.Dec.{leb}
use lib.ListN.{length, take}
use Rattle.order.specs.Bounds.{meet}
use Rattle.frames.specs.declared.Addr.{Addr}
use Rattle.frames.specs.Limits.{max_entries, max_size}
use Rattle.pages.specs.Meaning.{Rows, leaf, index, Page, says, meaning}
use Rattle.build_sources.specs.Source.{Entry}
use Rattle.build_sources.specs.Judged.{rising, prefixed, enclosed}
use Rattle.build_image.specs.declared.Call.{Call}
use Rattle.build_image.specs.Image.{Borders}
use Rattle.build_image.specs.Call.{next_ok, limits_ok, built_number}
use Rattle.merge.specs.declared.Kinds.{Kinds}
use Rattle.merge.specs.Merge.{kind_by, kinds_by, bounds_in, meet_in, merged}
use Rattle.merge.specs.Answer.{kinds_in, sound_ok, kinds_ok, payload_by, end_by, merge_answer}
use Rattle.merge.proofs.Refusing.{merge_8, merge_9, merge_accepted}
use Rattle.merge.proofs.Said.{meeting_6, meeting_7, meeting_10}

kinds_hold : (r t : Rows) → kind_by r ≡ kind_by t → (sound_ok (kinds_by (kind_by r) (kind_by t)) ≡ true) × (kinds_ok (kinds_by (kind_by r) (kind_by t)) ≡ true)
kinds_hold (leaf hs) (leaf ks) e = (refl, refl)
kinds_hold (index cs) (index ds) e = (refl, refl)
kinds_hold (leaf hs) (index ds) e = absurd (let z : ◌≡◌ {A = ℕ} 0 1 = cc in omega arith)
kinds_hold (index cs) (leaf ks) e = absurd (let z : ◌≡◌ {A = ℕ} 0 1 = cc in omega arith)

-- THE LAW: once 1 and 2 hold, the pages are sound and of one kind, and they meet, the answer is a page, 8 or 9
module _ (a : List ℕ) (next : ℕ) (c : Call) (left right : Addr) (p q : Page) (m : meaning (take next a) left ≡ says p) (n : meaning (take next a) right ≡ says q)
    (same : kind_by p.rows ≡ kind_by q.rows) (met : meet p.hi q.lo ≡ true) (limits : limits_ok c.limit c.budget ≡ true) (free : next_ok (length a) next ≡ true) where
  abbrev number : ℕ
  number = built_number (merge_answer a next c left right)

  abbrev w : List ℕ
  w = take next a

  abbrev k : Kinds
  k = kinds_in w left right

  abbrev bs : Borders
  bs = bounds_in w left right

  abbrev all : List Entry
  all = merged w left right

  known : (sound_ok k ≡ true) × (kinds_ok k ≡ true)
  known = rw (m, n) (kinds_hold p.rows q.rows same)

  pub meeting_answers : (number ≡ 0) ⊎ ((number ≡ 8) ⊎ (number ≡ 9))
  meeting_answers =
      by (leb (length all) max_entries && leb (payload_by c bs all k) max_size) (leb (end_by next c bs all k) (length a)) refl refl
    where
      h6 : rising all ≡ true
      h6 = meeting_6 w left right p q m n same met

      h7 : prefixed (take bs.prefix bs.lo) all ≡ true
      h7 = meeting_7 w left right p q m n same met

      h10 : meet_in w left right && enclosed bs.lo bs.hi all ≡ true
      h10 = meeting_10 w left right p q m n same met

      by : (t u : Bool) → (leb (length all) max_entries && leb (payload_by c bs all k) max_size) ≡ t → leb (end_by next c bs all k) (length a) ≡ u → (number ≡ 0) ⊎ ((number ≡ 8) ⊎ (number ≡ 9))
      by false u e f = inr (inl ((merge_8 a next c left right).1 ((limits, (free, (known.0, (known.1, (h6, (h7, (h10, tt))))))), e)))
      by true false e f = inr (inr ((merge_9 a next c left right).1 ((limits, (free, (known.0, (known.1, (h6, (h7, (h10, (e, tt)))))))), f)))
      by true true e f = inl ((merge_accepted a next c left right).1 (limits, (free, (known.0, (known.1, (h6, (h7, (h10, (e, (f, tt))))))))))
