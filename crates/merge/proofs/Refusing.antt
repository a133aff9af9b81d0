-- Document 01's table for merge: refused with a number exactly when; a refusal leaves every byte.
-- Assumes nothing.
use mathlib.Core.Path.{◌≡◌, refl, sym, ap, ◌∙◌}
use mathlib.Core.Logic.{◌⊎◌, ⊎_elim, inl, inr}
use mathlib.Core.List.{List}
use mathlib.Core.Bool.{Bool, true, false, ◌&&◌}
use Prim.Native.Nat.{ℕ}
use native.Mathlib.Omega.{arith}
use lib.Dec.{leb}
use lib.ListN.{length, take}
use Rattle.spans.specs.Span.{put}
use Rattle.frames.specs.declared.Addr.{Addr}
use Rattle.pages.specs.Meaning.{Rows, leaf, index, Page, Said, nothing, says}
use Rattle.frames.specs.Limits.{max_entries, max_size}
use Rattle.build_sources.specs.Source.{Entry}
use Rattle.build_sources.specs.Judged.{rising, prefixed, enclosed}
use Rattle.build_image.specs.declared.Call.{Call}
use Rattle.build_image.specs.Image.{Borders}
use Rattle.build_image.specs.Call.{next_ok, built_number, limits_ok}
use Rattle.build_image.specs.Table.{Row}
use Rattle.build_image.proofs.Tables.{All}
use Rattle.build_image.proofs.Exactly.{Exactly, before, asks, once, call_exactly, call_accepted, call_stays}
use Rattle.merge.specs.declared.Kinds.{Kinds}
use Rattle.merge.specs.Merge.{kind_by, kinds_by, kinds_of, bounds_in, meet_in, merged}
use Rattle.merge.specs.Answer.{kinds_in, sound_ok, kinds_ok, payload_by, end_by, place_by, image_by, merge_rows, merge_answer, merge_arena}
use Rattle.merge.proofs.Answering.{bad_right}

-- ---- 4 and 5 in words

sound_rows : (r q : Rows) → sound_ok (kinds_by (kind_by r) (kind_by q)) ≡ true
sound_rows (leaf hs) (leaf ks) = refl
sound_rows (leaf hs) (index cs) = refl
sound_rows (index cs) (leaf hs) = refl
sound_rows (index cs) (index ds) = refl

no : {A : Type 0} → true ≡ false → A
no e = absurd (let z : ◌≡◌ {A = ℕ} 0 1 = cc in omega arith)

-- 4: one of the pages says nothing below the next free address
pub four_says : (p q : Said) → Exactly (sound_ok (kinds_of p q) ≡ false) ((p ≡ nothing) ⊎ (q ≡ nothing))
four_says nothing q = (λ e. inl refl, λ e. refl)
four_says (says x) nothing = (λ e. inr refl, λ e. ap sound_ok (bad_right (kind_by x.rows)))
four_says (says x) (says y) =
    (λ e. no (sym (sound_rows x.rows y.rows) ∙ e), λ e. ⊎_elim (λ z. absurd (let n : ◌≡◌ {A = ℕ} 0 1 = cc in omega arith)) (λ z. absurd (let n : ◌≡◌ {A = ℕ} 0 1 = cc in omega arith)) e)

-- 5: of two pages that say something one is a leaf and the other an index page
pub five_says : (x y : Page) → Exactly (kinds_ok (kinds_of (says x) (says y)) ≡ false) (kind_by x.rows ≡ kind_by y.rows → ⊥)
five_says x y = go x.rows y.rows
  where
    go : (r q : Rows) → Exactly (kinds_ok (kinds_by (kind_by r) (kind_by q)) ≡ false) (kind_by r ≡ kind_by q → ⊥)
    go (leaf hs) (leaf ks) = (λ e. no e, λ n. absurd (n refl))
    go (leaf hs) (index cs) = (λ e z. let n : ◌≡◌ {A = ℕ} 0 1 = cc in omega arith, λ n. refl)
    go (index cs) (leaf hs) = (λ e z. let n : ◌≡◌ {A = ℕ} 0 1 = cc in omega arith, λ n. refl)
    go (index cs) (index ds) = (λ e. no e, λ n. absurd (n refl))

-- ---- the table

module _ (a : List ℕ) (next : ℕ) (m : Call) (left right : Addr) where
  abbrev k : Kinds
  k = kinds_in (take next a) left right

  abbrev b : Borders
  b = bounds_in (take next a) left right

  abbrev es : List Entry
  es = merged (take next a) left right

  abbrev prefix : List ℕ
  prefix = take b.prefix b.lo

  abbrev fits : Bool
  fits = leb (length es) max_entries && leb (payload_by m b es k) max_size

  abbrev rows : List Row
  rows = merge_rows a next m left right

  -- one row, by the law for any table
  is : (n : ℕ) → once n rows ≡ true → Exactly (built_number (merge_answer a next m left right) ≡ n) (All (before n rows) × (asks n rows ≡ false))
  unfolding merge_answer
  is = call_exactly rows (place_by next m es k) (end_by next m b es k)

  pub merge_1 : Exactly (built_number (merge_answer a next m left right) ≡ 1) (All (before 1 rows) × (limits_ok m.limit m.budget ≡ false))
  merge_1 = is 1 refl

  pub merge_2 : Exactly (built_number (merge_answer a next m left right) ≡ 2) (All (before 2 rows) × (next_ok (length a) next ≡ false))
  merge_2 = is 2 refl

  -- a page that says nothing
  pub merge_4 : Exactly (built_number (merge_answer a next m left right) ≡ 4) (All (before 4 rows) × (sound_ok k ≡ false))
  merge_4 = is 4 refl

  -- a leaf and an index page
  pub merge_5 : Exactly (built_number (merge_answer a next m left right) ≡ 5) (All (before 5 rows) × (kinds_ok k ≡ false))
  merge_5 = is 5 refl

  pub merge_6 : Exactly (built_number (merge_answer a next m left right) ≡ 6) (All (before 6 rows) × (rising es ≡ false))
  merge_6 = is 6 refl

  pub merge_7 : Exactly (built_number (merge_answer a next m left right) ≡ 7) (All (before 7 rows) × (prefixed prefix es ≡ false))
  merge_7 = is 7 refl

  -- the left page has no hi, or the right one begins elsewhere, or new boundaries and keys are not as a build's
  pub merge_10 : Exactly (built_number (merge_answer a next m left right) ≡ 10) (All (before 10 rows) × (meet_in (take next a) left right && enclosed b.lo b.hi es ≡ false))
  merge_10 = is 10 refl

  pub merge_8 : Exactly (built_number (merge_answer a next m left right) ≡ 8) (All (before 8 rows) × (fits ≡ false))
  merge_8 = is 8 refl

  pub merge_9 : Exactly (built_number (merge_answer a next m left right) ≡ 9) (All (before 9 rows) × (leb (end_by next m b es k) (length a) ≡ false))
  merge_9 = is 9 refl

  pub merge_accepted : Exactly (built_number (merge_answer a next m left right) ≡ 0) (All rows)
  unfolding merge_answer
  merge_accepted = call_accepted rows (place_by next m es k) (end_by next m b es k)

  -- a refusal changes nothing
  pub merge_stays : (built_number (merge_answer a next m left right) ≡ 0 → ⊥) → merge_arena a next m left right ≡ a
  unfolding merge_answer merge_arena
  merge_stays = call_stays rows (place_by next m es k) (end_by next m b es k) a (put a next (image_by next m b es k))
