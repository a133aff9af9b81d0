-- What a sound page gives, slot by slot: each record can be read, each key is above the one before, each head's history resolves.
-- Assumes nothing.
use Prim.Native.Nat.{ℕ, zero, suc, ◌+◌, ◌*◌, ◌≤◌, ◌<◌}
use mathlib.Core.Path.{◌≡◌, refl, sym, ap, ◌∙◌, subst}
use mathlib.Core.Bool.{Bool, true, false, cond, ◌||◌}
use mathlib.Core.List.{List}
use native.Mathlib.Omega.{arith}
use borrow.Author.Tests.{ne_eqb, eqb-true, eqb-false, leb-true}
use lib.Dec.{leb, eqb}
use Rattle.spans.specs.Span.{part}
use Rattle.numbers.specs.Number.{le_at}
use Rattle.order.specs.declared.Ver.{Ver}
use Rattle.order.specs.Order.{cmp_bytes, is_less}
use Rattle.order.specs.Version.{newer_than}
use Rattle.order.proofs.Laws.{cmp_front}
use Rattle.frames.specs.declared.Addr.{Addr}
use Rattle.frames.specs.declared.Body.{Body}
use Rattle.frames.specs.Layout.{open_at}
use Rattle.records.specs.declared.Rec.{Rec}
use Rattle.values.specs.Keys.{ver_in}
use Rattle.records.specs.Records.{rec_at}
use Rattle.pages.specs.Sound.{in_order, slots_of, slots_from, slots_ok, hist_ok, old_at, chain_of, chain_from, entered, head_ok, multi_of, chains_of, chains_from, chains_ok, remotes_at, hints_ok, old_version}
use Rattle.pages.specs.Meaning.{Page, nothing, says, prefix_of, key_of, page_says, meaning_of, meaning, page_bounded, sound_body}
use Rattle.std.proofs.Common.{Option, Some, None}
use Rattle.pages.specs.declared.OldVersion.{OldVersion}
use Rattle.std.specs.declared.cmp.Ordering.{Ordering}

no : {A : Type 0} → false ≡ true → A
no e = absurd (let z : ◌≡◌ {A = ℕ} 0 1 = cc in omega arith)

-- a test that is true was taken
pub yes : (t u : Bool) → cond t u false ≡ true → (t ≡ true) × (u ≡ true)
yes true u e = (refl, e)
yes false u e = no e

-- ---- the page

-- a page that says something was opened, is no history page, and is sound in its four parts
pub record Sound (s : List ℕ) (a : Addr) (p : Page) : Type 0 where
  pub body : Body
  pub opened : open_at s a ≡ Some body
  pub said : page_says s body ≡ p
  pub kind : body.kind ≡ 2 → ⊥
  pub slots : slots_ok s body ≡ true
  pub chains : chains_ok s body ≡ true
  pub hints : hints_ok s body ≡ true
  pub bounded : page_bounded p ≡ true

-- a body that is sound
record Whole (s : List ℕ) (b : Body) : Type 0 where
  kind : b.kind ≡ 2 → ⊥
  slots : slots_ok s b ≡ true
  chains : chains_ok s b ≡ true
  hints : hints_ok s b ≡ true
  bounds : page_bounded (page_says s b) ≡ true

body_given : (s : List ℕ) (b : Body) → sound_body s b ≡ true → Whole s b
unfolding sound_body
body_given s b e = go (eqb b.kind 2) refl e
  where
    go : (t : Bool) → eqb b.kind 2 ≡ t → cond t false (cond (slots_ok s b) (cond (chains_ok s b) (cond (hints_ok s b) (page_bounded (page_says s b)) false) false) false) ≡ true → Whole s b
    go true q e' = no e'
    go false q e' =
        let a1 = yes (slots_ok s b) _ e' in
        let a2 = yes (chains_ok s b) _ a1.1 in
        let a3 = yes (hints_ok s b) _ a2.1 in
        record { kind = eqb-false b.kind 2 q; slots = a1.0; chains = a2.0; hints = a3.0; bounds = a3.1 }

pub sound_given : (s : List ℕ) (a : Addr) (p : Page) → meaning s a ≡ says p → Sound s a p
unfolding meaning
sound_given s a p e = go (open_at s a) refl e
  where
    bad : nothing ≡ says p → ⊥
    bad z = let y : ◌≡◌ {A = ℕ} 0 1 = cc in omega arith

    by : (b : Body) → open_at s a ≡ Some b → (t : Bool) → sound_body s b ≡ t → cond t (says (page_says s b)) nothing ≡ says p → Sound s a p
    by b o true q e' =
        let g = body_given s b q in
        let x : page_says s b ≡ p = cc in
        record { body = b; opened = o; said = x; kind = g.kind; slots = g.slots; chains = g.chains; hints = g.hints; bounded = subst (λ (q : Page). page_bounded q ≡ true) x g.bounds }
    by b o false q e' = absurd (bad e')

    go : (o : Option Body) → open_at s a ≡ o → meaning_of s o ≡ says p → Sound s a p
    go (Some b) q e' = by b q (sound_body s b) refl e'
    go None q e' = absurd (bad e')

-- ---- hints

-- where there are hints, both counts and their addresses are in the payload
pub record HintsFit (s : List ℕ) (b : Body) : Type 0 where
  pub first : b.end + 4 ≤ b.tail
  pub second : remotes_at s b + 4 ≤ b.tail
  pub last : remotes_at s b + 4 + 8 * le_at 4 s (remotes_at s b) ≤ b.tail

pub hints_given : (s : List ℕ) (b : Body) → hints_ok s b ≡ true → (b.tail ≡ b.end → ⊥) → HintsFit s b
unfolding hints_ok
hints_given s b e n =
    let e' : cond (leb (b.end + 4) b.tail) (cond (leb (remotes_at s b + 4) b.tail) (leb (remotes_at s b + 4 + 8 * le_at 4 s (remotes_at s b)) b.tail) false) false ≡ true = rw (ne_eqb b.tail b.end n) at e in
    let a1 = yes (leb (b.end + 4) b.tail) _ e' in
    let a2 = yes (leb (remotes_at s b + 4) b.tail) _ a1.1 in
    record {
      first = leb-true (b.end + 4) b.tail a1.0;
      second = leb-true (remotes_at s b + 4) b.tail a2.0;
      last = leb-true (remotes_at s b + 4 + 8 * le_at 4 s (remotes_at s b)) b.tail a2.1;
    }

-- ---- slots

-- one slot of a sound page: its record begins where the one before ended
pub record Slot (s : List ℕ) (b : Body) (k i want la ln : ℕ) : Type 0 where
  pub rec : Rec
  pub read : rec_at s b i ≡ Some rec
  pub from : rec.from ≡ want
  pub order : in_order s b.kind i la ln rec.rest_at rec.rest_len ≡ true
  pub more : slots_from s b k (i + 1) rec.next rec.rest_at rec.rest_len ≡ true

pub slot_given : (s : List ℕ) (b : Body) (k i want la ln : ℕ) → slots_from s b (suc k) i want la ln ≡ true → Slot s b k i want la ln
unfolding slots_from
slot_given s b k i want la ln e = go (rec_at s b i) refl e
  where
    go : (r : Option Rec) → rec_at s b i ≡ r → slots_of s b (slots_from s b k (i + 1)) i want la ln r ≡ true → Slot s b k i want la ln
    go (Some r) q e' =
        let a1 = yes (eqb r.from want) _ e' in
        let a2 = yes (in_order s b.kind i la ln r.rest_at r.rest_len) _ a1.1 in
        record { rec = r; read = q; from = eqb-true _ _ a1.0; order = a2.0; more = a2.1 }
    go None q e' = no e'

-- every slot can be read
pub slots_given : (s : List ℕ) (b : Body) (k i want la ln : ℕ) → slots_from s b k i want la ln ≡ true → (j : ℕ) → i ≤ j → j < i + k → (r : Rec) × (rec_at s b j ≡ Some r)
slots_given s b zero i want la ln e j h l = absurd (omega arith)
slots_given s b (suc k) i want la ln e j h l =
    let g = slot_given s b k i want la ln e in
    by (eqb j i) refl g (slots_given s b k (i + 1) g.rec.next g.rec.rest_at g.rec.rest_len g.more j)
  where
    by : (t : Bool) → eqb j i ≡ t → Slot s b k i want la ln → (i + 1 ≤ j → j < i + 1 + k → (r : Rec) × (rec_at s b j ≡ Some r)) → (r : Rec) × (rec_at s b j ≡ Some r)
    by true q g f = (g.rec, rw (eqb-true j i q) g.read)
    by false q g f = let n = eqb-false j i q in f (omega arith) (omega arith)

-- and the key of the next slot is above
less_given : (c : Ordering) → is_less c ≡ true → c ≡ Ordering.Less
less_given Ordering.Less e = refl
less_given Ordering.Equal e = no e
less_given Ordering.Greater e = no e

order_given : (s : List ℕ) (kind i la ln ra rn : ℕ) → (kind ≡ 2 → ⊥) → 0 < i → in_order s kind i la ln ra rn ≡ true → cmp_bytes (part s la ln) (part s ra rn) ≡ Ordering.Less
unfolding in_order
order_given s kind i la ln ra rn k h e =
    let z : eqb i 0 ≡ false = ne_eqb i 0 (λ q. omega arith) in
    less_given _ (simp (ne_eqb kind 2 k, z) at e)

abbrev Above : List ℕ → Rec → Rec → Type 0
Above s r r' = cmp_bytes (part s r.rest_at r.rest_len) (part s r'.rest_at r'.rest_len) ≡ Ordering.Less

rises : (s : List ℕ) (b : Body) (k i want la ln : ℕ) → (b.kind ≡ 2 → ⊥) → slots_from s b k i want la ln ≡ true → (j : ℕ) → i ≤ j → j + 1 < i + k → (r r' : Rec) → rec_at s b j ≡ Some r → rec_at s b (j + 1) ≡ Some r' → Above s r r'
rises s b zero i want la ln n e j h l r r' p q = absurd (omega arith)
rises s b (suc zero) i want la ln n e j h l r r' p q = absurd (omega arith)
rises s b (suc (suc k)) i want la ln n e j h l r r' p q =
    let g = slot_given s b (suc k) i want la ln e in
    by (eqb j i) refl g (rises s b (suc k) (i + 1) g.rec.next g.rec.rest_at g.rec.rest_len n g.more j)
  where
    by : (t : Bool) → eqb j i ≡ t → Slot s b (suc k) i want la ln → (i + 1 ≤ j → j + 1 < i + 1 + suc k → (r r' : Rec) → rec_at s b j ≡ Some r → rec_at s b (j + 1) ≡ Some r' → Above s r r') → Above s r r'
    by true u g f =
        let m = slot_given s b k (i + 1) g.rec.next g.rec.rest_at g.rec.rest_len g.more in
        let v = eqb-true j i u in
        let x : Some g.rec ≡ Some r = sym g.read ∙ ap (λ (y : ℕ). rec_at s b y) (sym v) ∙ p in
        let z : Some m.rec ≡ Some r' = sym m.read ∙ ap (λ (y : ℕ). rec_at s b (y + 1)) (sym v) ∙ q in
        let x' : g.rec ≡ r = cc in
        let z' : m.rec ≡ r' = cc in
        rw (← x', ← z') (order_given s b.kind (i + 1) g.rec.rest_at g.rec.rest_len m.rec.rest_at m.rec.rest_len n (omega arith) m.order)
    by false u g f = let w = eqb-false j i u in f (omega arith) (omega arith) r r' p q

-- every slot of a page that is sound in its slots, and its key: the rests rise, and so do the whole keys
module _ (s : List ℕ) (b : Body) (e : slots_ok s b ≡ true) where
  pub every_slot : (j : ℕ) → j < b.elems → (r : Rec) × (rec_at s b j ≡ Some r)
  unfolding slots_ok
  every_slot j h = slots_given s b b.elems 0 b.first 0 0 e j (omega arith) (omega arith)

  module _ (n : b.kind ≡ 2 → ⊥) (j : ℕ) (h : j + 1 < b.elems) (r r' : Rec) (p : rec_at s b j ≡ Some r) (q : rec_at s b (j + 1) ≡ Some r') where
    pub rests_rise : cmp_bytes (part s r.rest_at r.rest_len) (part s r'.rest_at r'.rest_len) ≡ Ordering.Less
    unfolding slots_ok
    rests_rise = rises s b b.elems 0 b.first 0 0 n e j (omega arith) (omega arith) r r' p q

    pub keys_rise : cmp_bytes (key_of s b r) (key_of s b r') ≡ Ordering.Less
    keys_rise = cmp_front (prefix_of s b) (part s r.rest_at r.rest_len) (part s r'.rest_at r'.rest_len) ∙ rests_rise

-- ---- heads

-- every head's history is sound
chains_given : (s : List ℕ) (b : Body) (k i m : ℕ) → chains_from s b k i m ≡ true → (j : ℕ) → i ≤ j → j < i + k → (r : Rec) → rec_at s b j ≡ Some r → head_ok s r ≡ true
unfolding chains_from
chains_given s b zero i m e j h l r p = absurd (omega arith)
chains_given s b (suc k) i m e j h l r p = go (rec_at s b i) refl e (λ m' e'. chains_given s b k (i + 1) m' e' j)
  where
    go : (x : Option Rec) → rec_at s b i ≡ x → chains_of s (chains_from s b k (i + 1)) m x ≡ true → ((m' : ℕ) → chains_from s b k (i + 1) m' ≡ true → i + 1 ≤ j → j < i + 1 + k → (r : Rec) → rec_at s b j ≡ Some r → head_ok s r ≡ true) → head_ok s r ≡ true
    go (Some x) q e' f =
        let a1 = yes (head_ok s x) _ e' in
        by (eqb j i) refl a1.0 (f (multi_of m x.hist.count) a1.1)
      where
        by : (t : Bool) → eqb j i ≡ t → head_ok s x ≡ true → (i + 1 ≤ j → j < i + 1 + k → (r : Rec) → rec_at s b j ≡ Some r → head_ok s r ≡ true) → head_ok s r ≡ true
        by true u o f' =
            let v = eqb-true j i u in
            let y : Some x ≡ Some r = sym q ∙ ap (λ (n : ℕ). rec_at s b n) (sym v) ∙ p in
            let y' : x ≡ r = cc in
            rw (← y') o
        by false u o f' = let w = eqb-false j i u in f' (omega arith) (omega arith) r p
    go None q e' f = no e'

pub every_head : (s : List ℕ) (b : Body) → chains_ok s b ≡ true → (b.kind ≡ 1 → ⊥) → (j : ℕ) → j < b.elems → (r : Rec) → rec_at s b j ≡ Some r → head_ok s r ≡ true
unfolding chains_ok
every_head s b e n j h r p = chains_given s b b.elems 0 0 (rw (ne_eqb b.kind 1 n) at e) j (omega arith) (omega arith) r p

chain_none : (s : List ℕ) (n : ℕ) (a : Addr) (i : ℕ) (t : Ver) → n ≡ 0 → chain_from s n a i t ≡ true
unfolding chain_from
chain_none s n a i t e = rw e

-- a head's history: its slot is entered, and it is a chain of as many as it counts
pub head_given : (s : List ℕ) (r : Rec) → head_ok s r ≡ true → ((eqb r.hist.count 0 || entered s r.hist.page r.hist.slot) ≡ true) × (chain_from s r.hist.count r.hist.page r.hist.slot (ver_in s r.ver_at) ≡ true)
unfolding head_ok
head_given s r e = go (eqb r.hist.count 0) refl e
  where
    go : (t : Bool) → eqb r.hist.count 0 ≡ t → cond t true (cond (entered s r.hist.page r.hist.slot) (chain_from s r.hist.count r.hist.page r.hist.slot (ver_in s r.ver_at)) false) ≡ true → ((t || entered s r.hist.page r.hist.slot) ≡ true) × (chain_from s r.hist.count r.hist.page r.hist.slot (ver_in s r.ver_at) ≡ true)
    go true q e' = (refl, chain_none s r.hist.count r.hist.page r.hist.slot (ver_in s r.ver_at) (eqb-true _ _ q))
    go false q e' = yes (entered s r.hist.page r.hist.slot) _ e'

-- one old version of a sound chain: it is older than the one before, on a sound page
pub record Link (s : List ℕ) (k : ℕ) (a : Addr) (i : ℕ) (t : Ver) : Type 0 where
  pub page : Addr
  pub slot : ℕ
  pub rec : Rec
  pub read : old_at s a i ≡ Some (old_version page slot rec)
  pub whole : hist_ok s page ≡ true
  pub older : newer_than t (ver_in s rec.ver_at) ≡ true
  pub more : chain_from s k page (slot + 1) (ver_in s rec.ver_at) ≡ true

pub link_given : (s : List ℕ) (k : ℕ) (a : Addr) (i : ℕ) (t : Ver) → chain_from s (suc k) a i t ≡ true → Link s k a i t
unfolding chain_from
link_given s k a i t e = go (old_at s a i) refl e
  where
    go : (o : Option OldVersion) → old_at s a i ≡ o → chain_of s (chain_from s k) t o ≡ true → Link s k a i t
    go (Some o) u e' =
        let a1 = yes (hist_ok s o.page) _ e' in
        let a2 = yes (newer_than t (ver_in s o.rec.ver_at)) _ a1.1 in
        record { page = o.page; slot = o.slot; rec = o.rec; read = u; whole = a1.0; older = a2.0; more = a2.1 }
    go None u e' = no e'
