-- What a page says in the shorter arena it says in the longer one: later frames take nothing from it.
-- Assumes nothing.
use Prim.Native.Nat.{ℕ, zero, suc, ◌+◌, ◌*◌, ◌≤◌, ◌<◌}
use mathlib.Core.Path.{◌≡◌, refl, sym, ap, ap₂, ◌∙◌}
use mathlib.Core.Bool.{Bool, true, false, cond, ◌||◌}
use mathlib.Core.List.{List, [], ◌∷◌, ◌++◌}
use native.Mathlib.Omega.{arith}
use borrow.Author.Tests.{eq-eqb, ne_eqb, eqb-true, eqb-false, le-leb}
use lib.ListN.{length, take}
use lib.Dec.{leb, ltb, eqb}
use Rattle.spans.specs.Span.{part}
use Rattle.spans.proofs.Tests.{ask}
use Rattle.numbers.specs.Number.{le_at}
use Rattle.order.specs.declared.Ver.{Ver}
use Rattle.order.specs.Order.{cmp_bytes, is_less}
use Rattle.frames.specs.declared.Addr.{Addr}
use Rattle.frames.specs.declared.PageId.{PageId}
use Rattle.frames.specs.declared.Body.{Body}
use Rattle.frames.specs.Layout.{base_len, addr, page_id, Inside, open_at}
use Rattle.frames.proofs.Frames.{open_inside}
use Rattle.values.specs.declared.HistRef.{HistRef}
use Rattle.values.specs.Vals.{no_hist}
use Rattle.records.specs.declared.Rec.{Rec}
use Rattle.values.specs.Keys.{ver_in}
use Rattle.records.specs.Records.{slot_at, key_in, rec_of, rec_key, rec_in, rec_slot, rec_at}
use Rattle.records.proofs.Inside.{at-inside, ver-inside}
use Rattle.pages.specs.Sound.{in_order, slots_from, slots_ok, history_of, history_at, hist_of, hist_ok, old_rec, old_in, old_link, old_of, old_at, chain_from, entered_of, entered, head_ok, multi_of, chains_of, chains_from, chains_ok, remotes_at, hints_ok, old_version}
use Rattle.pages.specs.Meaning.{Older, Head, Child, Rows, leaf, index, Page, Said, nothing, says, olds_from, prefix_of, head_of, child_of, rows_from, page_says, page_bounded, sound_body, meaning}
use Rattle.pages.proofs.Turns.{head_none, head_chain, body-bounds}
use Rattle.pages.proofs.Olds.{History, history-inside, OldInside, old-inside}
use Rattle.pages.proofs.Given.{yes, Sound, sound_given, HintsFit, hints_given, Slot, slot_given, every_slot, every_head, head_given, Link, link_given}
use Rattle.law_stays.proofs.Grown.{Grown, grown_take, stay_part, stay_number}
use Rattle.law_stays.proofs.FramesStay.{open_stays}
use Rattle.law_stays.proofs.RecordsStay.{ver_stays, rec_stays}
use Rattle.std.proofs.Common.{Option, Some, None}
use Rattle.values.specs.declared.KeyParts.{KeyParts}

-- one head of a sound page
record Headed (t : List ℕ) (b : Body) (k i m : ℕ) : Type 0 where
  rec : Rec
  read : rec_at t b i ≡ Some rec
  ok : head_ok t rec ≡ true
  more : chains_from t b k (i + 1) (multi_of m rec.hist.count) ≡ true

headed : (t : List ℕ) (b : Body) (k i m : ℕ) → chains_from t b (suc k) i m ≡ true → Headed t b k i m
unfolding chains_from
headed t b k i m e = go (rec_at t b i) refl e
  where
    go : (r : Option Rec) → rec_at t b i ≡ r → chains_of t (chains_from t b k (i + 1)) m r ≡ true → Headed t b k i m
    go (Some r) q e' = let a1 = yes (head_ok t r) _ e' in record { rec = r; read = q; ok = a1.0; more = a1.1 }
    go None q e' = absurd (let z : ◌≡◌ {A = ℕ} 0 1 = cc in omega arith)

-- a record of an index page leads to a page id of 8 bytes
index_eight : (t : List ℕ) (b : Body) (i : ℕ) (r : Rec) → b.kind ≡ 1 → rec_at t b i ≡ Some r → r.val_len ≡ 8
unfolding rec_at rec_in
index_eight t b i r k e = go (slot_at t b i) e
  where
    bad : None ≡ Some r → ⊥
    bad z = let y : ◌≡◌ {A = ℕ} 0 1 = cc in omega arith

    key : (p : ℕ) (x : Option KeyParts) → rec_key t b p x ≡ Some r → r.val_len ≡ 8
    key p (Some k') q =
        let q' : cond (leb (k'.rest_at + k'.rest_len + 8) b.end) (Some (rec_of p k'.ver_at k'.rest_at k'.rest_len no_hist (k'.rest_at + k'.rest_len) 8 (addr 0) (k'.rest_at + k'.rest_len + 8))) None ≡ Some r = rw (eq-eqb b.kind 1 k) at q in
        let a1 = ask (leb (k'.rest_at + k'.rest_len + 8) b.end) _ None (Some r) bad q' in
        let x : rec_of p k'.ver_at k'.rest_at k'.rest_len no_hist (k'.rest_at + k'.rest_len) 8 (addr 0) (k'.rest_at + k'.rest_len + 8) ≡ r = cc in
        rw (← x)
    key p None q = absurd (bad q)

    go : (w : Option ℕ) → rec_slot t b w ≡ Some r → r.val_len ≡ 8
    go (Some p) q = key p (key_in t b p) q
    go None q = absurd (bad q)

module _ (t s : List ℕ) (g : Grown t s) where
  -- ---- slots

  order_stays : (kind i la ln ra rn : ℕ) → la + ln ≤ length t → ra + rn ≤ length t → in_order s kind i la ln ra rn ≡ in_order t kind i la ln ra rn
  unfolding in_order
  order_stays kind i la ln ra rn h k =
      ap₂ (λ (x y : List ℕ). cond (eqb kind 2 || eqb i 0) true (is_less (cmp_bytes x y))) (stay_part t s g la ln h) (stay_part t s g ra rn k)

  module _ (b : Body) (i : Inside t b) where
    from_stays : (k j want la ln : ℕ) → la + ln ≤ length t → slots_from t b k j want la ln ≡ true → slots_from s b k j want la ln ≡ true
    unfolding slots_from
    from_stays zero j want la ln l e = refl
    from_stays (suc k) j want la ln l e =
        let d = slot_given t b k j want la ln e in
        let r = d.rec in
        let in' = (at-inside t b j r i d.read).0 in
        let f : r.rest_at + r.rest_len ≤ length t = omega (arith, in'.rest, i.payload, i.arena) in
        let o : in_order s b.kind j la ln r.rest_at r.rest_len ≡ true = order_stays b.kind j la ln r.rest_at r.rest_len l f ∙ d.order in
        rw (rec_stays t s g b i j r d.read, eq-eqb _ _ d.from, o) (from_stays k (j + 1) r.next r.rest_at r.rest_len f d.more)

    slots_stay : slots_ok t b ≡ true → slots_ok s b ≡ true
    unfolding slots_ok
    slots_stay e = from_stays b.elems 0 b.first 0 0 (omega arith) e

  -- ---- history pages and old versions

  pub history_stays : (a : Addr) (b : Body) → history_at t a ≡ Some b → history_at s a ≡ Some b
  unfolding history_at
  history_stays a b e = go (open_at t a) refl e
    where
      go : (o : Option Body) → open_at t a ≡ o → history_of o ≡ Some b → history_of (open_at s a) ≡ Some b
      go (Some d) q e' = rw (open_stays t s g a d q) e'
      go None q e' = absurd (let z : ◌≡◌ {A = ℕ} 0 1 = cc in omega arith)

  whole_stays : (a : Addr) → hist_ok t a ≡ true → hist_ok s a ≡ true
  unfolding hist_ok
  whole_stays a e = go (history_at t a) refl e
    where
      go : (o : Option Body) → history_at t a ≡ o → hist_of t o ≡ true → hist_of s (history_at s a) ≡ true
      go (Some b) q e' = rw (history_stays a b q) (slots_stay b (history-inside t a b q).inside e')
      go None q e' = absurd (let z : ◌≡◌ {A = ℕ} 0 1 = cc in omega arith)

  pub old_stays : (a : Addr) (i : ℕ) (p : Addr) (q : ℕ) (r : Rec) → old_at t a i ≡ Some (old_version p q r) → old_at s a i ≡ Some (old_version p q r)
  unfolding old_at old_in
  old_stays a i p q r e = go (history_at t a) refl e
    where
      bad : None ≡ Some (old_version p q r) → ⊥
      bad z = let y : ◌≡◌ {A = ℕ} 0 1 = cc in omega arith

      here : (b : Body) (d : Addr) (j : ℕ) → Inside t b → (w : Option Rec) → rec_at t b j ≡ w → old_rec d j w ≡ Some (old_version p q r) → old_rec d j (rec_at s b j) ≡ Some (old_version p q r)
      here b d j i' (Some x) u e' = rw (rec_stays t s g b i' j x u) e'
      here b d j i' None u e' = absurd (bad e')

      link : (l : Addr) (o : Option Body) → history_at t l ≡ o → old_link t l o ≡ Some (old_version p q r) → old_link s l (history_at s l) ≡ Some (old_version p q r)
      link l (Some d) u e' = rw (history_stays l d u) (here d l 0 (history-inside t l d u).inside (rec_at t d 0) refl e')
      link l None u e' = absurd (bad e')

      by : (b : Body) → history_at t a ≡ Some b → (c : Bool) → cond c (old_link t b.link (history_at t b.link)) (old_in t b a i) ≡ Some (old_version p q r) → cond c (old_link s b.link (history_at s b.link)) (old_in s b a i) ≡ Some (old_version p q r)
      by b u true w = link b.link (history_at t b.link) refl w
      by b u false w = here b a i (history-inside t a b u).inside (rec_at t b i) refl w

      go : (o : Option Body) → history_at t a ≡ o → old_of t a i o ≡ Some (old_version p q r) → old_of s a i (history_at s a) ≡ Some (old_version p q r)
      go (Some b) u e' = rw (history_stays a b u) (by b u (eqb i b.elems) e')
      go None u e' = absurd (bad e')

  chain_stays : (k : ℕ) (a : Addr) (i : ℕ) (v : Ver) → chain_from t k a i v ≡ true → chain_from s k a i v ≡ true
  unfolding chain_from
  chain_stays zero a i v e = refl
  chain_stays (suc k) a i v e =
      let d = link_given t k a i v e in
      let o = old-inside t a i d.page d.slot d.rec d.read in
      rw (old_stays a i d.page d.slot d.rec d.read, whole_stays d.page d.whole, ver_stays t s g d.rec.ver_at o.ver, d.older)
      (chain_stays k d.page (d.slot + 1) (ver_in t d.rec.ver_at) d.more)

  entered_stays : (a : Addr) (i : ℕ) → entered t a i ≡ true → entered s a i ≡ true
  unfolding entered
  entered_stays a i e = go (history_at t a) refl e
    where
      go : (o : Option Body) → history_at t a ≡ o → entered_of i o ≡ true → entered_of i (history_at s a) ≡ true
      go (Some b) q e' = rw (history_stays a b q) e'
      go None q e' = absurd (let z : ◌≡◌ {A = ℕ} 0 1 = cc in omega arith)

  head_stays : (r : Rec) → r.ver_at + 12 ≤ length t → head_ok t r ≡ true → head_ok s r ≡ true
  head_stays r h e = by (eqb r.hist.count 0) refl (head_given t r e).0
    where
      by : (c : Bool) → eqb r.hist.count 0 ≡ c → (c || entered t r.hist.page r.hist.slot) ≡ true → head_ok s r ≡ true
      by true q w = head_none s r (eqb-true _ _ q)
      by false q w =
          head_chain s r (eqb-false _ _ q) (entered_stays r.hist.page r.hist.slot w)
          ∙ ap (chain_from s r.hist.count r.hist.page r.hist.slot) (ver_stays t s g r.ver_at h)
          ∙ chain_stays r.hist.count r.hist.page r.hist.slot (ver_in t r.ver_at) (head_given t r e).1

  -- ---- the page

  module _ (b : Body) (i : Inside t b) where
    heads_stay : (b.kind ≡ 1 → ⊥) → (k j m : ℕ) → chains_from t b k j m ≡ true → chains_from s b k j m ≡ true
    unfolding chains_from
    heads_stay n zero j m e = e
    heads_stay n (suc k) j m e =
        let d = headed t b k j m e in
        rw (rec_stays t s g b i j d.rec d.read, head_stays d.rec (ver-inside t b j d.rec i n d.read) d.ok)
        (heads_stay n k (j + 1) (multi_of m d.rec.hist.count) d.more)

    chains_stay : chains_ok t b ≡ true → chains_ok s b ≡ true
    unfolding chains_ok
    chains_stay e = by (eqb b.kind 1) refl e
      where
        by : (c : Bool) → eqb b.kind 1 ≡ c → cond c true (chains_from t b b.elems 0 0) ≡ true → cond c true (chains_from s b b.elems 0 0) ≡ true
        by true q e' = refl
        by false q e' = heads_stay (eqb-false b.kind 1 q) b.elems 0 0 e'

    hints_stay : hints_ok t b ≡ true → hints_ok s b ≡ true
    unfolding hints_ok
    hints_stay e = by (eqb b.tail b.end) refl
      where
        by : (c : Bool) → eqb b.tail b.end ≡ c
            → cond c true (cond (leb (b.end + 4) b.tail) (cond (leb (remotes_at s b + 4) b.tail) (leb (remotes_at s b + 4 + 8 * le_at 4 s (remotes_at s b)) b.tail) false) false) ≡ true
        by true q = refl
        by false q =
            let f = hints_given t b e (eqb-false b.tail b.end q) in
            let x : le_at 4 s b.end ≡ le_at 4 t b.end = stay_number t s g 4 b.end (omega (arith, f.first, i.arena)) in
            let y : le_at 4 s (remotes_at t b) ≡ le_at 4 t (remotes_at t b) = stay_number t s g 4 (remotes_at t b) (omega (arith, f.second, i.arena)) in
            rw (x, y, le-leb (b.end + 4) b.tail f.first, le-leb (remotes_at t b + 4) b.tail f.second, le-leb (remotes_at t b + 4 + 8 * le_at 4 t (remotes_at t b)) b.tail f.last)

  -- ---- the reading

  olds_stay : (k : ℕ) (a : Addr) (i : ℕ) (v : Ver) → chain_from t k a i v ≡ true → olds_from s k a i ≡ olds_from t k a i
  unfolding olds_from
  olds_stay zero a i v e = refl
  olds_stay (suc k) a i v e =
      let d = link_given t k a i v e in
      let r = d.rec in
      let o = old-inside t a i d.page d.slot r d.read in
      rw (old_stays a i d.page d.slot r d.read, d.read, ver_stays t s g r.ver_at o.ver, stay_part t s g r.val_at r.val_len o.rec.val, olds_stay k d.page (d.slot + 1) (ver_in t r.ver_at) d.more)

  module _ (b : Body) (i : Inside t b) where
    prefix_stays : prefix_of s b ≡ prefix_of t b
    unfolding prefix_of
    prefix_stays = stay_part t s g (b.at + base_len + 4 * b.elems) b.prefix_len (omega (arith, i.slots, i.records, i.payload, i.arena, i.prefix))

    module _ (j : ℕ) (r : Rec) (e : rec_at t b j ≡ Some r) where
      key_says : prefix_of s b ++ part s r.rest_at r.rest_len ≡ prefix_of t b ++ part t r.rest_at r.rest_len
      key_says =
          let k = (at-inside t b j r i e).0 in
          ap₂ (λ (x y : List ℕ). x ++ y) prefix_stays (stay_part t s g r.rest_at r.rest_len (omega (arith, k.rest, i.payload, i.arena)))

      head_says : (b.kind ≡ 1 → ⊥) → head_ok t r ≡ true → head_of s b r ≡ head_of t b r
      unfolding head_of
      head_says n o =
          let k = (at-inside t b j r i e).0 in
          let key = key_says in
          let ver = ver_stays t s g r.ver_at (ver-inside t b j r i n e) in
          let val = stay_part t s g r.val_at r.val_len k.val in
          let olds = olds_stay r.hist.count r.hist.page r.hist.slot (ver_in t r.ver_at) (head_given t r o).1 in
          λ z. record { key = key z; ver = ver z; value = val z; olds = olds z }

      child_says : b.kind ≡ 1 → child_of s b r ≡ child_of t b r
      unfolding child_of
      child_says n =
          let k = (at-inside t b j r i e).0 in
          let key = key_says in
          let id = stay_number t s g 8 r.val_at (omega (arith, k.val, index_eight t b j r n e)) in
          λ z. record { key = key z; page = record { 0 = id z } }

    -- the rows of k slots, where each row stays
    rows_stay : {A : Type 0} (f f' : Rec → A) → ((j : ℕ) → j < b.elems → (r : Rec) × (rec_at t b j ≡ Some r) × (f' r ≡ f r)) → (k j : ℕ) → j + k ≤ b.elems → rows_from f' s b k j ≡ rows_from f t b k j
    unfolding rows_from
    rows_stay f f' every zero j l = refl
    rows_stay f f' every (suc k) j l =
        let d = every j (omega arith) in
        rw (rec_stays t s g b i j d.0 d.1, d.1, d.2, rows_stay f f' every k (j + 1) (omega arith))

    page_says_lem : slots_ok t b ≡ true → chains_ok t b ≡ true → page_says s b ≡ page_says t b
    unfolding page_says
    page_says_lem e c =
        let lo = stay_part t s g (b.at + base_len + 4 * b.elems) b.lo_len (omega (arith, i.slots, i.records, i.payload, i.arena)) in
        let hi = stay_part t s g (b.at + base_len + 4 * b.elems + b.lo_len) b.hi_len (omega (arith, i.slots, i.records, i.payload, i.arena)) in
        let pre = prefix_stays in
        let rows = by (eqb b.kind 1) refl in
        λ z. record { lo = lo z; hi = hi z; prefix = pre z; sibling = b.sibling; rows = rows z }
      where
        by : (u : Bool) → eqb b.kind 1 ≡ u → cond u (index (rows_from (child_of s b) s b b.elems 0)) (leaf (rows_from (head_of s b) s b b.elems 0)) ≡ cond u (index (rows_from (child_of t b) t b b.elems 0)) (leaf (rows_from (head_of t b) t b b.elems 0))
        by true q =
            ap index
            (rows_stay (child_of t b) (child_of s b) (λ j l. let d = every_slot t b e j l in (d.0, d.1, child_says j d.0 d.1 (eqb-true _ _ q))) b.elems 0 (omega arith))
        by false q =
            ap leaf
            (rows_stay (head_of t b) (head_of s b)
            (λ j l. let d = every_slot t b e j l in (d.0, d.1, head_says j d.0 d.1 (eqb-false _ _ q) (every_head t b c (eqb-false _ _ q) j l d.0 d.1))) b.elems 0 (omega arith))

  -- THE LAW
  pub meaning_stays : (a : Addr) (p : Page) → meaning t a ≡ says p → meaning s a ≡ says p
  unfolding meaning
  meaning_stays a p m =
      let d = sound_given t a p m in
      let b = d.body in
      let i = (open_inside t a b d.opened).0 in
      let q : page_says s b ≡ p = page_says_lem b i d.slots d.chains ∙ d.said in
      let o : sound_body s b ≡ true = body-bounds s b d.kind true (slots_stay b i d.slots) (chains_stay b i d.chains) (hints_stay b i d.hints) (ap page_bounded q ∙ d.bounded) in
      rw (open_stays t s g a b d.opened, o) (ap says q)

-- a page that says something below a mark says it in the whole arena, and in every arena that has the same bytes below the mark
pub below_mark : (n : ℕ) (s s' : List ℕ) (a : Addr) (p : Page) → n ≤ length s' → take n s' ≡ take n s → meaning (take n s) a ≡ says p → meaning s' a ≡ says p
below_mark n s s' a p h e m = meaning_stays (take n s') s' (grown_take n s' h) a p (ap (λ (l : List ℕ). meaning l a) e ∙ m)
