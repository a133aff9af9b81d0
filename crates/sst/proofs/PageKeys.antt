-- On a sound page a search compares the whole keys of the meaning's rows, and they rise.
-- Assumes nothing.
use Prim.Native.Nat.{ℕ, zero, suc, ◌+◌, ◌-◌, ◌≤◌, ◌<◌}
use mathlib.Core.Path.{◌≡◌, refl, sym, ap, ap₂, ◌∙◌}
use mathlib.Core.Bool.{Bool, true, false, cond}
use mathlib.Core.List.{List, ◌++◌}
use native.Mathlib.Omega.{arith}
use lib.ListN.{length, drop, get_or}
use lib.Dec.{eqb}
use Rattle.spans.specs.Span.{part}
use Rattle.order.specs.declared.Ver.{Ver}
use Rattle.order.specs.Order.{cmp_bytes, flip, starts_with, is_less}
use Rattle.order.specs.Version.{newer_than}
use Rattle.order.proofs.Laws.{cmp_flip, cmp_less, cmp_greater, cmp_trans, cmp_front, cmp_beside, cmp_apart, starts_split}
use Rattle.frames.specs.declared.Addr.{Addr}
use Rattle.frames.specs.declared.Body.{Body}
use Rattle.frames.specs.Layout.{page_at, kind_of, body_of, open_of, open_at, Inside}
use Rattle.records.specs.declared.Rec.{Rec}
use Rattle.records.specs.Records.{rec_at}
use Rattle.records.proofs.Inside.{at-inside, prefix-part}
use Rattle.pages.specs.Sound.{slots_ok}
use Rattle.pages.specs.Meaning.{Head, Child, Rows, leaf, index, Page, prefix_of, key_of, head_of, child_of, rows_from, heads_from, children_from, page_says}
use Rattle.pages.proofs.Given.{every_slot, keys_rise}
use Rattle.pages.proofs.Rows.{rows-many}
use Rattle.sst.specs.declared.Want.{Want}
use Rattle.sst.specs.Halve.{asked, lowered}
use Rattle.sst.specs.Search.{newer_at, cmp_read, key_cmp, fits_prefix, halved, elsewhere, probed}
use Rattle.sst.specs.Says.{no_head, no_child, row_count, row_key, row_newer}
use Rattle.sst.proofs.Halving.{Rises, Finds, halve_finds}
use Rattle.sst.proofs.Rising.{Sorted, against, rises-same, finds_same}
use Rattle.sst.proofs.Opens.{prefix-length}
use Rattle.sst.proofs.Compared.{twice}
use Rattle.std.proofs.Common.{Option, Some, None}
use Rattle.frames.specs.declared.BaseHeader.{BaseHeader}
use Rattle.frames.specs.declared.BoxHeader.{BoxHeader}
use Rattle.sst.specs.declared.Halved.{Halved}
use Rattle.std.specs.declared.cmp.Ordering.{Ordering}

-- ---- rows

-- row i of k rows from slot j on is what slot j + i says (it belongs to `pages`)
module _ {A : Type 0} (f : Rec → A) (d : A) (s : List ℕ) (b : Body) (every : (i : ℕ) → i < b.elems → (r : Rec) × (rec_at s b i ≡ Some r)) where
  pub row_at : (k j i : ℕ) → j + k ≤ b.elems → i < k → (r : Rec) → rec_at s b (j + i) ≡ Some r → get_or (rows_from f s b k j) i d ≡ f r
  unfolding rows_from
  row_at zero j i l h r e = absurd (omega arith)
  row_at (suc k) j zero l h r e =
      let n : j + 0 ≡ j = omega arith in
      let e' : rec_at s b j ≡ Some r = rw n at e in
      rw e'
  row_at (suc k) j (suc i) l h r e =
      let g = every j (omega arith) in
      let n : j + suc i ≡ j + 1 + i = omega arith in
      rw g.1 (row_at k (j + 1) i (omega arith) (omega arith) r (rw n at e))

-- the rows of a page, by whether it is an index page
abbrev pub rows_by : Bool → List ℕ → Body → Rows
rows_by t s b = cond t (index (children_from s b b.elems 0)) (leaf (heads_from s b b.elems 0))

pub rows_said : (s : List ℕ) (b : Body) (p : Page) → page_says s b ≡ p → rows_by (eqb b.kind 1) s b ≡ p.rows
unfolding page_says
rows_said s b p e = ap (λ (q : Page). q.rows) e

module _ (s : List ℕ) (b : Body) (e : slots_ok s b ≡ true) where
  every : (i : ℕ) → i < b.elems → (r : Rec) × (rec_at s b i ≡ Some r)
  every = every_slot s b e

  pub count_of : (t : Bool) → row_count (rows_by t s b) ≡ b.elems
  count_of true = rows-many (child_of s b) s b every b.elems 0 (omega arith)
  count_of false = rows-many (head_of s b) s b every b.elems 0 (omega arith)

  module _ (i : ℕ) (l : i < b.elems) (r : Rec) (q : rec_at s b i ≡ Some r) where
    at_zero : rec_at s b (0 + i) ≡ Some r
    at_zero = let n : 0 + i ≡ i = omega arith in rw n q

    pub head_at_lem : get_or (heads_from s b b.elems 0) i no_head ≡ head_of s b r
    head_at_lem = row_at (head_of s b) no_head s b every b.elems 0 i (omega arith) l r at_zero

    pub child-at : get_or (children_from s b b.elems 0) i no_child ≡ child_of s b r
    child-at = row_at (child_of s b) no_child s b every b.elems 0 i (omega arith) l r at_zero

    pub key_of_lem : (t : Bool) → row_key (rows_by t s b) i ≡ key_of s b r
    unfolding head_of child_of
    key_of_lem true = ap (λ (c : Child). c.key) child-at
    key_of_lem false = ap (λ (h : Head). h.key) head_at_lem

    pub newer_of : (t : Bool) → eqb b.kind 1 ≡ t → (v : Ver) → newer_at s b.kind r.ver_at v ≡ row_newer (rows_by t s b) v i
    unfolding head_of newer_at
    newer_of true k v = rw k
    newer_of false k v = rw k (ap (λ (h : Head). newer_than h.ver v) (sym head_at_lem))

  -- keys rise, however far apart
  module _ (n : b.kind ≡ 2 → ⊥) where
    far : (d i : ℕ) → i + suc d < b.elems → (r r' : Rec) → rec_at s b i ≡ Some r → rec_at s b (i + suc d) ≡ Some r' → cmp_bytes (key_of s b r) (key_of s b r') ≡ Ordering.Less
    far zero i l r r' p q =
        let m : i + suc 0 ≡ i + 1 = omega arith in
        keys_rise s b e n i (omega arith) r r' p (rw m at q)
    far (suc d) i l r r' p q =
        let g = every (i + suc d) (omega arith) in
        let m : i + suc (suc d) ≡ i + suc d + 1 = omega arith in
        cmp_trans (key_of s b r) (key_of s b g.0) (key_of s b r')
        (far d i (omega arith) r g.0 p g.1)
        (keys_rise s b e n (i + suc d) (omega arith) g.0 r' g.1 (rw m at q))

    pub keys_sorted : (t : Bool) → Sorted (row_key (rows_by t s b)) b.elems
    keys_sorted t i j l h =
        let f = every i (omega arith) in
        let g = every j h in
        let m : i + suc (j - (i + 1)) ≡ j = omega arith in
        ap₂ cmp_bytes (key_of_lem i (omega arith) f.0 f.1 t) (key_of_lem j h g.0 g.1 t)
        ∙ far (j - (i + 1)) i (omega arith) f.0 g.0 f.1 (rw m g.1)

-- ---- what a search compares

-- the prefix that a search asks for is the meaning's
pub fits_said : (s : List ℕ) (b : Body) (probe : List ℕ) → Inside s b → fits_prefix s b probe ≡ starts_with (prefix_of s b) probe
unfolding fits_prefix prefix_of
fits_said s b probe i = ap (λ (p : List ℕ). starts_with p probe) (prefix-part s b i)

-- a probe with the prefix is the prefix and its rest
probe_split : (s : List ℕ) (b : Body) (probe : List ℕ) → Inside s b → fits_prefix s b probe ≡ true → probe ≡ prefix_of s b ++ drop b.prefix_len probe
unfolding prefix_of
probe_split s b probe i f =
    starts_split (prefix_of s b) probe (sym (fits_said s b probe i) ∙ f)
    ∙ ap (λ (m : ℕ). prefix_of s b ++ drop m probe) (sym (ap length (prefix-part s b i)) ∙ prefix-length s b i)

-- a probe against the whole keys, and in a lower bound against the versions
abbrev pub row_cmp : List ℕ → Body → List ℕ → Bool → Want → ℕ → Option Ordering
row_cmp s b probe t w j =
    cond w.lower (lowered (row_newer (rows_by t s b) w.ver j) (against (row_key (rows_by t s b)) probe j)) (against (row_key (rows_by t s b)) probe j)

module _ (s : List ℕ) (b : Body) (i : Inside s b) (e : slots_ok s b ≡ true) (probe : List ℕ) (f : fits_prefix s b probe ≡ true) where
  rest_says : (t : Bool) (j : ℕ) (l : j < b.elems) (r : Rec) → rec_at s b j ≡ Some r → cmp_bytes (part s r.rest_at r.rest_len) (drop b.prefix_len probe) ≡ cmp_bytes (row_key (rows_by t s b) j) probe
  rest_says t j l r q =
      sym (cmp_front (prefix_of s b) (part s r.rest_at r.rest_len) (drop b.prefix_len probe))
      ∙ ap₂ cmp_bytes (sym (key_of_lem s b e j l r q t)) (sym (probe_split s b probe i f))

  compares : (t : Bool) → eqb b.kind 1 ≡ t → (w : Want) (j : ℕ) → j < b.elems → key_cmp s b (drop b.prefix_len probe) w j ≡ row_cmp s b probe t w j
  unfolding key_cmp
  compares t k w j l =
      let g = every_slot s b e j l in
      let x = (at-inside s b j g.0 i g.1).1 in
      let c = rest_says t j l g.0 g.1 in
      let v = newer_of s b e j l g.0 g.1 t k w.ver in
      ap (cmp_read s b (drop b.prefix_len probe) w) x
      ∙ ap₂ (λ (y : Bool) (o : Ordering). cond w.lower (lowered y (asked o)) (asked o)) v c

  halved_finds : (t : Bool) → eqb b.kind 1 ≡ t → (w : Want) → Rises (row_cmp s b probe t w) b.elems → Finds (row_cmp s b probe t w) b.elems (halved s b probe w)
  unfolding halved
  halved_finds t k w u =
      finds_same (key_cmp s b (drop b.prefix_len probe) w) (row_cmp s b probe t w) b.elems (compares t k w) (halved s b probe w)
      (halve_finds (key_cmp s b (drop b.prefix_len probe) w) b.elems
      (rises-same (key_cmp s b (drop b.prefix_len probe) w) (row_cmp s b probe t w) b.elems (compares t k w) u))

-- a probe without the prefix stands to every key as it stands to the prefix
module _ (s : List ℕ) (b : Body) (i : Inside s b) (e : slots_ok s b ≡ true) (probe : List ℕ) (f : fits_prefix s b probe ≡ false) (t : Bool) (w : Want) where
  beside : (j : ℕ) → j < b.elems → (o : Ordering) → cmp_bytes (prefix_of s b) probe ≡ o → row_cmp s b probe t w j ≡ cond w.lower (lowered (row_newer (rows_by t s b) w.ver j) (asked o)) (asked o)
  beside j l o c =
      let g = every_slot s b e j l in
      let k : cmp_bytes (row_key (rows_by t s b) j) probe ≡ o = ap (λ (x : List ℕ). cmp_bytes x probe) (key_of_lem s b e j l g.0 g.1 t) ∙ cmp_beside (prefix_of s b) (part s g.0.rest_at g.0.rest_len) probe (sym (fits_said s b probe i) ∙ f) ∙ c in
      ap (λ (x : Ordering). cond w.lower (lowered (row_newer (rows_by t s b) w.ver j) (asked x)) (asked x)) k

  elsewhere_by : (o : Ordering) → cmp_bytes probe (prefix_of s b) ≡ o → Finds (row_cmp s b probe t w) b.elems (cond (is_less o) (Some (Halved.End 0 0)) (Some (Halved.End b.elems 0)))
  elsewhere_by Ordering.Less c = (omega arith, (λ j l. absurd (omega arith)), (λ j l m. beside j m Ordering.Greater (cmp_less probe (prefix_of s b) c) ∙ twice w.lower (Some Ordering.Greater)))
  elsewhere_by Ordering.Equal c = absurd (cmp_apart (prefix_of s b) probe (sym (fits_said s b probe i) ∙ f) (cmp_flip probe (prefix_of s b) ∙ ap flip c))
  elsewhere_by Ordering.Greater c = (omega arith, (λ j l. beside j l Ordering.Less (cmp_greater probe (prefix_of s b) c) ∙ twice w.lower (Some Ordering.Less)), (λ j l m. absurd (omega arith)))

  elsewhere_finds : Finds (row_cmp s b probe t w) b.elems (elsewhere s b probe)
  unfolding elsewhere prefix_of
  elsewhere_finds = rw (prefix-part s b i) (elsewhere_by (cmp_bytes probe (prefix_of s b)) refl)

-- any probe stands where the whole keys say
pub probed_finds : (s : List ℕ) (b : Body) → Inside s b → slots_ok s b ≡ true → (probe : List ℕ) (t : Bool) → eqb b.kind 1 ≡ t → (w : Want) → Rises (row_cmp s b probe t w) b.elems → Finds (row_cmp s b probe t w) b.elems (probed s b probe w)
unfolding probed
probed_finds s b i e probe t k w u = go (fits_prefix s b probe) refl
  where
    go : (f : Bool) → fits_prefix s b probe ≡ f → Finds (row_cmp s b probe t w) b.elems (cond f (halved s b probe w) (elsewhere s b probe))
    go true f = halved_finds s b i e probe f t k w u
    go false f = elsewhere_finds s b i e probe f t w

-- ---- the kinds of page

abbrev kind_by : Bool → Bool → ℕ
kind_by t u = cond t 2 (cond u 1 0)

kind_three : (flag i : ℕ) → (kind_of flag i ≡ 1 → ⊥) → (kind_of flag i ≡ 2 → ⊥) → kind_of flag i ≡ 0
unfolding kind_of
kind_three flag i = go (eqb flag 1) (eqb i 1)
  where
    go : (t u : Bool) → (kind_by t u ≡ 1 → ⊥) → (kind_by t u ≡ 2 → ⊥) → kind_by t u ≡ 0
    go true u x y = absurd (y refl)
    go false true x y = absurd (x refl)
    go false false x y = refl

-- a page that was opened and is neither an index nor a history page is a leaf (it belongs to `frames`)
pub open_kind : (s : List ℕ) (a : Addr) (b : Body) → open_at s a ≡ Some b → (b.kind ≡ 1 → ⊥) → (b.kind ≡ 2 → ⊥) → b.kind ≡ 0
unfolding open_at body_of
open_kind s a b e = go (page_at s a) e
  where
    go : (p : Option (BoxHeader × BaseHeader)) → open_of a p ≡ Some b → (b.kind ≡ 1 → ⊥) → (b.kind ≡ 2 → ⊥) → b.kind ≡ 0
    go (Some (x, h)) e' n m =
        let y : body_of a x h ≡ b = cc in
        let k : kind_of x.flag h.is_index ≡ b.kind = ap (λ (d : Body). d.kind) y in
        sym k ∙ kind_three x.flag h.is_index (λ z. n (sym k ∙ z)) (λ z. m (sym k ∙ z))
    go None e' n m = absurd (let z : ◌≡◌ {A = ℕ} 0 1 = cc in omega arith)
