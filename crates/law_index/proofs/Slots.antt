-- The records of an index page read back slot by slot; their keys rise.
-- Assumes nothing.
use Prim.Native.Nat.{ℕ, suc, ◌+◌, ◌*◌, ◌^◌, ◌≤◌, ◌<◌}
use mathlib.Core.Path.{◌≡◌, refl, sym, ap, ◌∙◌, subst}
use mathlib.Core.Bool.{true, false}
use mathlib.Core.List.{List, [], ◌∷◌, ◌++◌, map}
use native.Mathlib.Omega.{arith}
use borrow.Author.Tests.{le-leb, eq-eqb}
use lib.ListN.{length, take, drop}
use Rattle.spans.specs.Span.{part, Lies}
use Rattle.spans.proofs.Lying.{lies_front, lies_back, lies_part, lies_append}
use Rattle.numbers.specs.Number.{le, le_at}
use Rattle.numbers.proofs.Numbers.{length-le, lies_le}
use Rattle.lengths.specs.Leb128.{uleb}
use Rattle.order.specs.Order.{cmp_bytes}
use Rattle.order.specs.Version.{ver_of}
use Rattle.order.proofs.Versions.{newer_self}
use Rattle.frames.specs.declared.Body.{Body}
use Rattle.frames.specs.Layout.{addr, base_len}
use Rattle.frames.specs.Limits.{max_key}
use Rattle.values.specs.Keys.{index_key, key_at, key_parts}
use Rattle.values.specs.Vals.{no_hist}
use Rattle.values.proofs.Laws.{length-index_key}
use Rattle.values.proofs.KeysBack.{index_back, index_rest}
use Rattle.records.specs.declared.Rec.{Rec}
use Rattle.records.specs.Records.{key_in, rec_of, rec_in}
use Rattle.pages.specs.Meaning.{Child, prefix_of, child_of}
use Rattle.pages.proofs.Given.{yes}
use Rattle.build_sources.specs.Source.{Entry}
use Rattle.build_sources.specs.Marks.{Each}
use Rattle.build_sources.specs.Judged.{above_by, above, rising_from, rising, prefixed}
use Rattle.build_image.specs.Image.{index_recs, index_key_len, index_sums, index_slots}
use Rattle.build_image.proofs.Index.{length_index_key}
use Rattle.law_history.specs.Rows.{Rows, Up, UpAll}
use Rattle.law_history.proofs.Values.{lies_take, rec-at}
use Rattle.law_history.proofs.Prefix.{Split, split, prefixed-first}
use Rattle.law_index.specs.Children.{child_is, children_of, Leads}
use Rattle.std.proofs.Common.{Some}
use Rattle.std.specs.declared.cmp.Ordering.{Ordering}

-- ---- one record

-- a record says a child
abbrev pub SaysChild : List ℕ → Body → Rec → Child → Type 0
SaysChild s b r c = child_of s b r ≡ c

module _ (s : List ℕ) (b : Body) (p : ℕ) (e : Entry) (pre : List ℕ) (kind : b.kind ≡ 1) (cut : b.prefix_len ≡ p) (is-pre : prefix_of s b ≡ pre) (ends : b.end ≤ length s) (fit : Leads e) (sp : Split p pre e.key) (at : ℕ)
    (lies : Lies s at (index_key (drop p e.key) ++ le 8 e.page)) (room : at + (length (index_key (drop p e.key)) + 8) ≤ b.end) where
  abbrev rest : List ℕ
  rest = drop p e.key

  abbrev n : ℕ
  n = length (uleb (length rest))

  small : length rest ≤ max_key
  small = omega (arith, sp.long, fit.short.key)

  key_lies : Lies s at (index_key rest)
  key_lies = lies_front s at (index_key rest) (le 8 e.page) lies

  key : key_in s b at ≡ Some (key_parts (at + n) (at + n + 0) (length rest))
  unfolding key_in
  key =
      let k : key_at (take b.end s) at 1 ≡ Some (key_parts (at + n) (at + n + 0) (length rest)) = index_back (take b.end s) at rest small (lies_take s at b.end (index_key rest) (omega arith) key_lies) in
      rw (kind, k, cut, le-leb (p + length rest) max_key (omega (arith, sp.long, fit.short.key))) refl

  abbrev next : ℕ
  next = at + n + 0 + length rest + 8

  abbrev rec : Rec
  rec = rec_of at (at + n) (at + n + 0) (length rest) no_hist (at + n + 0 + length rest) 8 (addr 0) next

  pub child-read : rec_in s b at ≡ Some rec
  unfolding rec_in
  child-read = rw (key, eq-eqb b.kind 1 kind, le-leb next b.end (omega (arith, length-index_key rest))) refl

  page : le_at 8 s (at + n + 0 + length rest) ≡ e.page
  page =
      let z : at + length (index_key rest) ≡ at + n + 0 + length rest = omega (arith, length-index_key rest) in
      lies_le s (at + n + 0 + length rest) 8 e.page fit.wide.page (rw z at (lies_back s at (index_key rest) (le 8 e.page) lies))

  rest-is : part s (at + n + 0) (length rest) ≡ rest
  rest-is =
      let z : at + n ≡ at + n + 0 = omega arith in
      lies_part s (at + n + 0) (length rest) rest refl (rw z at (index_rest s at rest small key_lies))

  pub child_says : SaysChild s b rec (child_is e)
  unfolding child_of
  child_says = rw (is-pre, rest-is, page, sp.joins) refl

-- ---- the records in order

module _ (s : List ℕ) (b : Body) (p : ℕ) (pre : List ℕ) (kind : b.kind ≡ 1) (cut : b.prefix_len ≡ p) (is-pre : prefix_of s b ≡ pre) (long : length pre ≡ p) (ends : b.end ≤ length s) (short : b.end < b.at + 256 ^ 4) where
  pub rows_index : (i off : ℕ) (es : List Entry) → i + length es ≡ b.elems → b.first ≤ b.at + off → b.at + off + index_sums p es ≤ b.end → Each Leads es → prefixed pre es ≡ true
      → Lies s (b.at + base_len + 4 * i) (index_slots p off es) → Lies s (b.at + off) (index_recs p es) → Rows (SaysChild s b) s b i (b.at + off) (children_of es)
  unfolding Rows Each children_of index_slots index_recs index_sums
  rows_index i off [] n lo hi f g sl rl = tt
  rows_index i off (e ∷ es) n lo hi f g sl rl =
      let k = index_key (drop p e.key) in
      let w = le 8 e.page in
      let more = index_recs p es in
      let off' = off + (index_key_len p (length e.key) + 8) in
      let pf = prefixed-first pre e es g in
      let sp = split p pre e.key long pf.0 in
      let kl : length k ≡ index_key_len p (length e.key) = length_index_key p e in
      let front = lies_front s (b.at + off) k (w ++ more) rl in
      let back = lies_back s (b.at + off) k (w ++ more) rl in
      let here : Lies s (b.at + off) (k ++ w) = lies_append s (b.at + off) k w front (lies_front s (b.at + off + length k) w more back) in
      let rm : b.at + off + (length k + 8) ≤ b.end = omega arith in
      let z : b.at + off + length k + length w ≡ b.at + off' = omega (arith, length-le 8 e.page) in
      let rl' : Lies s (b.at + off') more = rw z at (lies_back s (b.at + off + length k) w more back) in
      let y : b.at + base_len + 4 * i + length (le 4 off) ≡ b.at + base_len + 4 * (i + 1) = omega (arith, length-le 4 off) in
      let sl' : Lies s (b.at + base_len + 4 * (i + 1)) (index_slots p off' es) = rw y at (lies_back s (b.at + base_len + 4 * i) (le 4 off) (index_slots p off' es) sl) in
      let q : b.at + off' ≡ b.at + off + length (uleb (length (drop p e.key))) + 0 + length (drop p e.key) + 8 = omega (arith, length-index_key (drop p e.key)) in (
        rec s b p e pre kind cut is-pre ends f.0 sp (b.at + off) here rm,
        rec-at s b i off (omega arith) lo (omega arith) (omega arith) (lies_front s (b.at + base_len + 4 * i) (le 4 off) (index_slots p off' es) sl) ∙ child-read s b p e pre kind cut is-pre ends f.0 sp (b.at + off) here rm,
        refl,
        child_says s b p e pre kind cut is-pre ends f.0 sp (b.at + off) here rm,
        subst (λ (x : ℕ). Rows (SaysChild s b) s b (i + 1) x (children_of es)) q (rows_index (i + 1) off' es (omega arith) (omega arith) (omega arith) f.1 pf.1 sl' rl'),
      )

-- ---- the keys rise

no : {A : Type 0} → false ≡ true → A
no e = absurd (let z : ◌≡◌ {A = ℕ} 0 1 = cc in omega arith)

-- an entry without a version that is above the one before has a greater key
above-key : (a e : Entry) → Leads a → Leads e → above a e ≡ true → cmp_bytes a.key e.key ≡ Ordering.Less
unfolding above
above-key a e f g h = go (cmp_bytes a.key e.key) (rw (f.plain, g.plain) at h)
  where
    go : (o : Ordering) → above_by o (ver_of 0 0) (ver_of 0 0) ≡ true → o ≡ Ordering.Less
    go Ordering.Less x = refl
    go Ordering.Equal x = no (sym (newer_self (ver_of 0 0)) ∙ x)
    go Ordering.Greater x = no x

up_from : (a : Entry) (es : List Entry) → Leads a → Each Leads es → rising_from a es ≡ true → Up (λ (c : Child). c.key) a.key (children_of es)
unfolding rising_from Each children_of Up
up_from a [] f g h = tt
up_from a (e ∷ es) f g h =
    let y = yes (above a e) (rising_from e es) h in
    (above-key a e f g.0 y.0, up_from e es g.0 g.1 y.1)

pub children_rise : (es : List Entry) → Each Leads es → rising es ≡ true → UpAll (λ (c : Child). c.key) (children_of es)
unfolding rising Each children_of UpAll
children_rise [] g h = tt
children_rise (e ∷ es) g h = up_from e es g.0 g.1 h

pub children_many : (es : List Entry) → length (children_of es) ≡ length es
unfolding children_of
children_many [] = refl
children_many (e ∷ es) = ap suc (children_many es)

pub children_keys : (es : List Entry) → map (λ (c : Child). c.key) (children_of es) ≡ map (λ (e : Entry). e.key) es
unfolding children_of
children_keys [] = refl
children_keys (e ∷ es) = ap (λ (ks : List (List ℕ)). e.key ∷ ks) (children_keys es)
