-- One turn of each loop of the check, by what it meets; and the check's answer, by what its judgements say.
-- Assumes nothing.
use Prim.Native.Nat.{ℕ, suc, ◌+◌, ◌*◌, ◌-◌, ◌≤◌, ◌<◌}
use mathlib.Core.Path.{◌≡◌, refl, sym, ap, ◌∙◌}
use mathlib.Core.Bool.{Bool, true, false, not, ◌||◌, cond}
use mathlib.Core.List.{List}
use native.Mathlib.Omega.{arith}
use borrow.Author.Tests.{eq-eqb, ne_eqb, le-leb}
use lib.Dec.{leb, eqb}
use lib.ListN.{take, drop}
use Rattle.spans.specs.Span.{part}
use Rattle.numbers.specs.Number.{le_at}
use Rattle.order.specs.declared.Ver.{Ver}
use Rattle.order.specs.Order.{cmp_bytes}
use Rattle.order.specs.Version.{newer_than}
use Rattle.order.proofs.Laws.{is-less}
use Rattle.order_pair.specs.declared.Pair.{Pair}
use Rattle.order_pair.specs.Apart.{StandsAs}
use Rattle.frames.specs.declared.Addr.{Addr}
use Rattle.frames.specs.declared.Body.{Body}
use Rattle.frames.specs.declared.Refusal.{Refusal}
use Rattle.frames.specs.Layout.{open_at}
use Rattle.records.specs.declared.Rec.{Rec}
use Rattle.values.specs.Keys.{ver_in}
use Rattle.records.specs.Records.{rec_at}
use Rattle.pages.specs.Sound.{in_order, slots_from, slots_ok, hist_ok, old_at, chain_from, head_ok, multi_of, chains_from, chains_ok, recs_ok, hints_ok, entered, old_version}
use Rattle.pages.specs.Meaning.{page_says, page_bounded, sound_body, meaning, check_of}
use Rattle.std.proofs.Common.{Some, None, Ok, Err}
use Rattle.std.specs.declared.cmp.Ordering.{Ordering}

-- a turn spends one of what is left
pub spend : (n i : ℕ) → i < n → n - i ≡ suc (n - (i + 1))
spend n i h = omega arith

-- a test turned round
pub not-true : (t : Bool) → not t ≡ true → t ≡ false
not-true true e = sym e
not-true false e = refl

pub not-false : (t : Bool) → not t ≡ false → t ≡ true
not-false true e = refl
not-false false e = sym e

-- ---- slots

-- two key rests of one length, as two numbers stand
yes : (t : Bool) → cond t true true ≡ true
yes true = refl
yes false = refl

pub rises_by : (s : List ℕ) (kind i la ln ra rn : ℕ) (d : Pair) → StandsAs (take (la + ln - la) (drop la s)) (take (ra + rn - ra) (drop ra s)) d → d.x < d.y → in_order s kind i la ln ra rn ≡ true
unfolding in_order part
rises_by s kind i la ln ra rn d z h =
    let e : la + ln - la ≡ ln = omega arith in
    let f : ra + rn - ra ≡ rn = omega arith in
    let less : cmp_bytes (take ln (drop la s)) (take rn (drop ra s)) ≡ Ordering.Less = rw (e, f) at (z.differ (λ q. omega arith) ∙ is-less d.x d.y Ordering.Equal h) in
    rw less (yes (eqb kind 2 || eqb i 0))

module _ (s : List ℕ) (b : Body) (n i want la ln : ℕ) (h : i < n) where
  pub slots_bad : rec_at s b i ≡ None → slots_from s b (n - i) i want la ln ≡ false
  unfolding slots_from
  slots_bad e = rw (spend n i h, slots_from, e)

  module _ (r : Rec) (e : rec_at s b i ≡ Some r) where
    pub slots_gap : (r.from ≡ want → ⊥) → slots_from s b (n - i) i want la ln ≡ false
    unfolding slots_from
    slots_gap g = rw (spend n i h, slots_from, e, ne_eqb _ _ g)

    pub slots_fall : r.from ≡ want → in_order s b.kind i la ln r.rest_at r.rest_len ≡ false → slots_from s b (n - i) i want la ln ≡ false
    unfolding slots_from
    slots_fall g o = rw (spend n i h, slots_from, e, eq-eqb _ _ g, o)

    pub slots_more : r.from ≡ want → in_order s b.kind i la ln r.rest_at r.rest_len ≡ true → slots_from s b (n - i) i want la ln ≡ slots_from s b (n - (i + 1)) (i + 1) r.next r.rest_at r.rest_len
    unfolding slots_from
    slots_more g o = rw (spend n i h, slots_from, e, eq-eqb _ _ g, o)

pub slots_start : (s : List ℕ) (b : Body) → slots_ok s b ≡ slots_from s b (b.elems - 0) 0 b.first 0 0
unfolding slots_ok
slots_start s b = let z : b.elems - 0 ≡ b.elems = omega arith in rw z

pub slots_end : (s : List ℕ) (b : Body) (n i want la ln : ℕ) → n ≤ i → slots_from s b (n - i) i want la ln ≡ true
unfolding slots_from
slots_end s b n i want la ln h = let z : n - i ≡ 0 = omega arith in rw z

-- ---- a chain of old versions

module _ (s : List ℕ) (n : ℕ) (a : Addr) (i : ℕ) (t : Ver) (h : 0 < n) where
  less : n ≡ suc (n - 1)
  less = omega arith

  pub chain_bad : old_at s a i ≡ None → chain_from s n a i t ≡ false
  unfolding chain_from
  chain_bad e = rw (less, chain_from, e)

  module _ (p : Addr) (q : ℕ) (r : Rec) (e : old_at s a i ≡ Some (old_version p q r)) where
    pub chain_broken : hist_ok s p ≡ false → chain_from s n a i t ≡ false
    unfolding chain_from
    chain_broken g = rw (less, chain_from, e, g)

    pub chain_young : hist_ok s p ≡ true → newer_than t (ver_in s r.ver_at) ≡ false → chain_from s n a i t ≡ false
    unfolding chain_from
    chain_young g o = rw (less, chain_from, e, g, o)

    pub chain_more : hist_ok s p ≡ true → newer_than t (ver_in s r.ver_at) ≡ true → chain_from s n a i t ≡ chain_from s (n - 1) p (q + 1) (ver_in s r.ver_at)
    unfolding chain_from
    chain_more g o = ap (λ (m : ℕ). chain_from s m a i t) less ∙ rw (chain_from, e, g, o)

pub chain_end : (s : List ℕ) (n : ℕ) (a : Addr) (i : ℕ) (t : Ver) → n ≤ 0 → chain_from s n a i t ≡ true
unfolding chain_from
chain_end s n a i t h = let z : n ≡ 0 = omega arith in rw z

-- ---- heads

module _ (s : List ℕ) (r : Rec) where
  pub head_none : r.hist.count ≡ 0 → head_ok s r ≡ true
  unfolding head_ok
  head_none e = rw (eq-eqb _ _ e)

  pub head_chain : (r.hist.count ≡ 0 → ⊥) → entered s r.hist.page r.hist.slot ≡ true → head_ok s r ≡ chain_from s r.hist.count r.hist.page r.hist.slot (ver_in s r.ver_at)
  unfolding head_ok
  head_chain e t = rw (ne_eqb _ _ e, t)

  pub head_out : (r.hist.count ≡ 0 → ⊥) → entered s r.hist.page r.hist.slot ≡ false → head_ok s r ≡ false
  unfolding head_ok
  head_out e t = rw (ne_eqb _ _ e, t)

module _ (s : List ℕ) (b : Body) (n i m : ℕ) (h : i < n) where
  module _ (r : Rec) (e : rec_at s b i ≡ Some r) where
    pub chains_broken : head_ok s r ≡ false → chains_from s b (n - i) i m ≡ false
    unfolding chains_from
    chains_broken g = rw (spend n i h, chains_from, e, g)

    pub chains_more : head_ok s r ≡ true → chains_from s b (n - i) i m ≡ chains_from s b (n - (i + 1)) (i + 1) (multi_of m r.hist.count)
    unfolding chains_from
    chains_more g = rw (spend n i h, chains_from, e, g)

pub chains-end : (s : List ℕ) (b : Body) (n i m : ℕ) → n ≤ i → chains_from s b (n - i) i m ≡ eqb m b.multi
unfolding chains_from
chains-end s b n i m h = let z : n - i ≡ 0 = omega arith in rw z

pub chains_start : (s : List ℕ) (b : Body) → (b.kind ≡ 1 → ⊥) → chains_ok s b ≡ chains_from s b (b.elems - 0) 0 0
unfolding chains_ok
chains_start s b k = let z : b.elems - 0 ≡ b.elems = omega arith in rw (ne_eqb _ _ k, z)

pub chains_index : (s : List ℕ) (b : Body) → b.kind ≡ 1 → chains_ok s b ≡ true
unfolding chains_ok
chains_index s b k = rw (eq-eqb _ _ k)

-- ---- both

module _ (s : List ℕ) (b : Body) where
  pub recs-slots : slots_ok s b ≡ false → recs_ok s b ≡ false
  recs-slots e = rw e

  pub recs_both : (t : Bool) → slots_ok s b ≡ true → chains_ok s b ≡ t → recs_ok s b ≡ t
  recs_both t e f = rw (e, f)

  pub recs-chains : chains_ok s b ≡ false → recs_ok s b ≡ false
  recs-chains f = go (slots_ok s b)
    where
      go : (t : Bool) → cond t (chains_ok s b) false ≡ false
      go true = f
      go false = refl

  pub recs_index : b.kind ≡ 1 → slots_ok s b ≡ recs_ok s b
  recs_index k = go (slots_ok s b)
    where
      go : (t : Bool) → t ≡ cond t (chains_ok s b) false
      go true = sym (chains_index s b k)
      go false = refl

-- ---- hints

pub hints_fit : (s : List ℕ) (b : Body) (n m : ℕ) → n ≡ le_at 4 s b.end → m ≡ le_at 4 s (b.end + 4 + 8 * n) → (b.tail ≡ b.end → ⊥) → b.end + 4 ≤ b.tail → b.end + 4 + 8 * n + 4 ≤ b.tail → leb (b.end + 4 + 8 * n + 4 + 8 * m) b.tail ≡ hints_ok s b
unfolding hints_ok
hints_fit s b n m e f g h k = rw (f, e) (rw (ne_eqb _ _ g, le-leb _ _ h, le-leb (b.end + 4 + 8 * le_at 4 s b.end + 4) b.tail (rw e at k)))

-- ---- the check's answer

pub check_none : (s : List ℕ) (a : Addr) → open_at s a ≡ None → check_of (meaning s a) ≡ Err Refusal.BadFrame
unfolding meaning
check_none s a o = rw o

module _ (s : List ℕ) (a : Addr) (b : Body) (o : open_at s a ≡ Some b) where
  pub check_yes : sound_body s b ≡ true → check_of (meaning s a) ≡ Ok tt
  unfolding meaning
  check_yes t = rw (o, t)

  pub check_no : sound_body s b ≡ false → check_of (meaning s a) ≡ Err Refusal.BadFrame
  unfolding meaning
  check_no t = rw (o, t)

module _ (s : List ℕ) (b : Body) where
  pub body-kind : b.kind ≡ 2 → sound_body s b ≡ false
  unfolding sound_body
  body-kind k = rw (eq-eqb _ _ k)

  module _ (k : b.kind ≡ 2 → ⊥) where
    pub body-recs : recs_ok s b ≡ false → sound_body s b ≡ false
    unfolding sound_body
    body-recs e = rw (ne_eqb _ _ k) (go (slots_ok s b) (chains_ok s b) (cond (hints_ok s b) (page_bounded (page_says s b)) false) e)
      where
        go : (t u x : Bool) → cond t u false ≡ false → cond t (cond u x false) false ≡ false
        go true true x e' = absurd (let z : ◌≡◌ {A = ℕ} 0 1 = cc in omega arith)
        go true false x e' = refl
        go false u x e' = refl

    pub body-hints : slots_ok s b ≡ true → chains_ok s b ≡ true → hints_ok s b ≡ false → sound_body s b ≡ false
    unfolding sound_body
    body-hints e f g = rw (ne_eqb _ _ k, e, f, g)

    pub body-bounds : (t : Bool) → slots_ok s b ≡ true → chains_ok s b ≡ true → hints_ok s b ≡ true → page_bounded (page_says s b) ≡ t → sound_body s b ≡ t
    unfolding sound_body
    body-bounds t e f g h = rw (ne_eqb _ _ k, e, f, g) h
