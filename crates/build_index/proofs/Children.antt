-- The children of a judged index page as entries: each where it is read, and all of them added up.
-- Assumes nothing.
use mathlib.Core.Path.{◌≡◌, refl, sym, ap, ◌∙◌}
use mathlib.Core.List.{List, [], ◌∷◌, ◌++◌}
use Prim.Native.Nat.{ℕ, zero, suc, ◌+◌, ◌-◌, ◌*◌, ◌≤◌, ◌<◌}
use native.Mathlib.Omega.{arith}
use lib.ListN.{length}
use Rattle.spans.specs.Span.{part}
use Rattle.frames.specs.declared.Body.{Body}
use Rattle.frames.specs.Layout.{base_len}
use Rattle.frames.specs.Limits.{max_entries, max_key}
use Rattle.values.specs.Keys.{index_key_size}
use Rattle.pages.specs.Meaning.{prefix_of}
use Rattle.pages.proofs.Rows.{Good}
use Rattle.build_sources.specs.Source.{Entry}
use Rattle.build_image.specs.Image.{index_key_len, index_sums}
use Rattle.law_rows.specs.Rows.{child_entry, slot_of, slot_entries, index_entries}
use Rattle.build_rows.specs.declared.Child.{Child}
use Rattle.build_rows.specs.Judged.{Judged, ChildAt}
use Rattle.build_rows.proofs.Rows.{judged_good, slots_end, index_more, key-places, child_says}
use Rattle.build_index.proofs.Passes.{key_most, sums_nil}
use Rattle.std.proofs.Common.{Option}
use Rattle.records.specs.declared.Rec.{Rec}

-- ---- one child

-- the entry of slot i, by what is read there, and those behind it
pub record Here (w : List ℕ) (b : Body) (end i : ℕ) (x : Child) : Type 0 where
  pub entry : Entry
  pub list : index_entries w b (end - i) i ≡ entry ∷ index_entries w b (end - (i + 1)) (i + 1)
  pub key : entry.key ≡ prefix_of w b ++ part w x.rest_at x.rest_len
  pub page : entry.page ≡ x.page.0
  pub long : length entry.key ≡ b.prefix_len + x.rest_len
  pub prefix : b.at + base_len + 4 * b.elems + b.prefix_len ≤ length w
  pub rest : x.rest_at + x.rest_len ≤ length w
  pub small : b.prefix_len + x.rest_len ≤ max_key

pub child-here : (w : List ℕ) (b : Body) (end i : ℕ) (x : Child) → Judged w b 1 → end ≤ b.elems → i < end → ChildAt w b i x → Here w b end i x
child-here w b end i x g u l h = go (judged_good w b 1 i g (omega arith))
  where
    go : Good w b i → Here w b end i x
    go d =
        let k = key-places w b i d.rec g.inside d.read in
        rw (h d.rec d.read)
        (record {
          entry = child_entry w b d.rec;
          list = index_more w b end i d.rec l d.read;
          key = ap (λ (e : Entry). e.key) (child_says w b d.rec);
          page = ap (λ (e : Entry). e.page) (child_says w b d.rec);
          long = ap (λ (e : Entry). length e.key) (child_says w b d.rec) ∙ k.long;
          prefix = k.prefix;
          rest = k.rest;
          small = k.whole;
        })

-- ---- how many, and their sizes

count_by : (w : List ℕ) (b : Body) → Judged w b 1 → (k i : ℕ) → i + k ≤ b.elems → length (index_entries w b k i) ≡ k
unfolding slot_entries
count_by w b g zero i u = refl
count_by w b g (suc k) i u =
    let d = judged_good w b 1 i g (omega (arith, u)) in
    ap (λ (x : Option Rec). length (slot_of (λ r. child_entry w b r ∷ []) (index_entries w b k (i + 1)) x)) d.read
    ∙ ap (λ (n : ℕ). suc n) (count_by w b g k (i + 1) (omega (arith, u)))

pub count-is : (w : List ℕ) (b : Body) (end i : ℕ) → Judged w b 1 → i ≤ end → end ≤ b.elems → length (index_entries w b (end - i) i) ≡ end - i
count-is w b end i g l u = count_by w b g (end - i) i (omega (arith, l, u))

pub count-all : (w : List ℕ) (b : Body) (n : ℕ) → Judged w b 1 → n ≤ b.elems → length (index_entries w b n 0) ≡ n
count-all w b n g u = count_by w b g n 0 (omega (arith, u))

pub record Counting (w : List ℕ) (b : Body) (from end p i n : ℕ) : Type 0 where
  pub goes : n + index_sums p (index_entries w b (end - i) i) ≡ index_sums p (index_entries w b (end - from) from)
  pub few : n + 4109 * (end - i) ≤ 4109 * (end - from)

pub count_begin : (w : List ℕ) (b : Body) (from end p : ℕ) → Counting w b from end p from 0
count_begin w b from end p = record { goes = omega arith; few = omega arith }

module _ (w : List ℕ) (b : Body) (from end p i n : ℕ) (h : Counting w b from end p i n) where
  pub count-end : end ≤ i → (n ≡ index_sums p (index_entries w b (end - from) from)) × (n ≤ 4109 * (end - from))
  count-end l = (omega (arith, h.goes, sums_nil p (index_entries w b (end - i) i) (slots_end _ w b end i l)), omega (arith, h.few))

  module _ (l : i < end) (x : Child) (z : Here w b end i x) (r k : ℕ) (er : r ≡ b.prefix_len + x.rest_len - p) (ek : k ≡ index_key_size r) where
    size_is : k ≡ index_key_len p (length z.entry.key)
    unfolding index_key_len
    size_is = ek ∙ ap index_key_size (er ∙ ap (λ (j : ℕ). j - p) (sym z.long))

    sums_are : index_sums p (index_entries w b (end - i) i) ≡ k + 8 + index_sums p (index_entries w b (end - (i + 1)) (i + 1))
    unfolding index_sums
    sums_are = ap (index_sums p) z.list ∙ ap (λ (j : ℕ). j + 8 + index_sums p (index_entries w b (end - (i + 1)) (i + 1))) (sym size_is)

    pub count_small : k + 8 ≤ 4109
    count_small = omega (arith, size_is, key_most p (length z.entry.key), z.long, z.small)

    pub count_turn : Counting w b from end p (i + 1) (n + (k + 8))
    count_turn = record { goes = omega (arith, h.goes, sums_are); few = omega (arith, h.few, count_small, l) }

    pub count_fits : end - from ≤ max_entries → n + (k + 8) ≤ 269283315
    count_fits f = omega (arith, count_turn.few, f)
